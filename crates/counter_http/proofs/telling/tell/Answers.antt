use Rattle.std.proofs.Common.{◌≡◌, ◌++◌, ap, ◌∙◌, ℕ, List, length}
use Rattle.std.specs.Fmt.{decimal}
use Rattle.counter_http.specs.{believed.Answers.answer_text, Ends.HasTaken}
use Rattle.counter_http.specs.Telling.{IsWrittenOrHeld, said, first_lines, last_lines}
use Rattle.counter_http.proofs.PartsWritten.{told_as, text_shown, text_hidden}
use Rattle.counter_http.proofs.telling.tell.Goals as goal
use Rattle.counter_http.proofs.telling.tell.Goals.{then-shows_body, else-shows_body}

pub returns-clause-written : goal.returns-clause-written
returns-clause-written g c =
    let w = g.W.Sink.contents c.args.writer.now in
    let a = said c.args.response.now in
    let front = c.put_last-going.ensures.text w _
    (c.put-going.ensures.text w _ c.put_first-going.ensures.text) in
    let num : c.as_bytes.result.now ≡ decimal (length a.body) = c.as_bytes.ensures.value
    ∙ c.format-length.ensures.text in
    let wrote : IsWrittenOrHeld w (g.W.Sink.contents c.if-shows_body.writer) c.if-shows_body.going
    c.if-shows_body.held.items
    (answer_text a c.args.shows_body c.args.closes) =
    elim c.if-shows_body.branch [
      | then-shows_body v ↦ rw (v.writer-is, v.held-is, v.going-is, v.if-shows_body.true)
          (told_as _ _ (ap (λ (d : List ℕ). ((first_lines a ++ d) ++ last_lines a c.args.closes) ++ a.body)
          num
          ∙ text_shown a c.args.closes) (v.put-going-then-shows_body.ensures.text w _ front))
      | else-shows_body v ↦ rw (v.writer-is, v.held-is, v.going-is, v.if-shows_body.false)
          (told_as _ _ (ap (λ (d : List ℕ). (first_lines a ++ d) ++ last_lines a c.args.closes) num
          ∙ text_hidden a c.args.closes) front)
    ] in
    c.send.ensures.text w (answer_text a c.args.shows_body c.args.closes) wrote

pub returns-clause-ends : goal.returns-clause-ends
returns-clause-ends g c =
    let w = g.W.Sink.calls c.args.writer.now in
    let front = c.put_last-going.ensures.ends w (c.put-going.ensures.ends w c.put_first-going.ensures.ends) in
    let taken : HasTaken c.if-shows_body.going w (g.W.Sink.calls c.if-shows_body.writer) =
    elim c.if-shows_body.branch [
      | then-shows_body v ↦ rw (v.writer-is, v.going-is) (v.put-going-then-shows_body.ensures.ends w front)
      | else-shows_body v ↦ rw (v.writer-is, v.going-is) front
    ] in
    c.send.ensures.ends w taken
