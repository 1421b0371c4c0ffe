use Rattle.std.proofs.Common.{ℕ, List, Bool, ◌++◌, refl, sym, ap, ◌∙◌, append-nil}
use Rattle.std.specs.Prelude.{codes}
use Rattle.counter_http.specs.{believed.Answers.allow_line, believed.Answers.close_line, Ends.HasTaken}
use Rattle.counter_http.specs.Telling.{IsWrittenOrHeld, said, now_of}
use Rattle.counter_http.proofs.PartsWritten.{told_as, three, allowed, not_told, last_is}
use Rattle.counter_http.proofs.telling.put_last.Goals as goal
use Rattle.counter_http.proofs.telling.put_last.Goals.{in-Some, in-None, then-closes, else-closes}

pub returns-clause-text : goal.returns-clause-text
returns-clause-text g c before text t =
    let r = c.args.response.now in
    let a = said r in
    let first = c.put-going.ensures.text before text t in
    let second : IsWrittenOrHeld before (g.W.Sink.contents c.match-response.writer) c.match-response.going
    c.match-response.held.items ((text ++ codes "\r\n") ++ allow_line a.allow) =
    elim c.match-response.branch [
      | in-Some v ↦ rw (v.writer-is, v.held-is, v.going-is)
          (told_as _ _ (three (text ++ codes "\r\n") (codes "Allow: ") v.in-Some.methods.now (codes "\r\n")
          ∙ ap (λ (x : List ℕ). (text ++ codes "\r\n") ++ x)
          (allowed now_of r.allow v.in-Some.methods v.in-Some.is))
          (v.put-going-in-Some-3.ensures.text before _
          (v.put-going-in-Some-2.ensures.text before _ (v.put-going-in-Some.ensures.text before _ first))))
      | in-None v ↦ rw (v.writer-is, v.held-is, v.going-is)
          (told_as _ _ (sym (append-nil (text ++ codes "\r\n"))
          ∙ ap (λ (x : List ℕ). (text ++ codes "\r\n") ++ x) (not_told now_of r.allow v.in-None.is)) first)
    ] in
    let third : IsWrittenOrHeld before
    (g.W.Sink.contents c.if-closes.writer) c.if-closes.going c.if-closes.held.items
    (((text ++ codes "\r\n") ++ allow_line a.allow) ++ close_line c.args.closes) =
    elim c.if-closes.branch [
      | then-closes v ↦ rw (v.writer-is, v.held-is, v.going-is)
          (told_as _ _ (ap (λ (b : Bool). ((text ++ codes "\r\n") ++ allow_line a.allow) ++ close_line b)
          (sym v.if-closes.true)) (v.put-going-then-closes.ensures.text before _ second))
      | else-closes v ↦ rw (v.writer-is, v.held-is, v.going-is)
          (told_as _ _ (sym (append-nil ((text ++ codes "\r\n") ++ allow_line a.allow))
          ∙ ap (λ (b : Bool). ((text ++ codes "\r\n") ++ allow_line a.allow) ++ close_line b)
          (sym v.if-closes.false)) second)
    ] in
    told_as _ _ (last_is a text (allow_line a.allow) (close_line c.args.closes) c.args.closes refl refl)
    (c.put.ensures.text before _ third)

pub returns-clause-ends : goal.returns-clause-ends
returns-clause-ends g c before h =
    let first = c.put-going.ensures.ends before h in
    let second : HasTaken c.match-response.going before (g.W.Sink.calls c.match-response.writer) =
    elim c.match-response.branch [
      | in-Some v ↦ rw (v.writer-is, v.going-is)
          (v.put-going-in-Some-3.ensures.ends before
          (v.put-going-in-Some-2.ensures.ends before (v.put-going-in-Some.ensures.ends before first)))
      | in-None v ↦ rw (v.writer-is, v.going-is) first
    ] in
    let third : HasTaken c.if-closes.going before (g.W.Sink.calls c.if-closes.writer) =
    elim c.if-closes.branch [
      | then-closes v ↦ rw (v.writer-is, v.going-is) (v.put-going-then-closes.ensures.ends before second)
      | else-closes v ↦ rw (v.writer-is, v.going-is) second
    ] in
    c.put.ensures.ends before third
