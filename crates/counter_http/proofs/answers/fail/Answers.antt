use Rattle.std.proofs.Common.{◌∙◌, ap, subst, refl, Bool, true, ℕ, List, length, take}
use Rattle.std.specs.{Prelude.not, Io.KnownBytes.Appends}
use Rattle.counter_http.specs.believed.Answers.{Answer, answer_text, bare}
use Rattle.counter_http.proofs.answers.fail.Goals as goal

pub returns-in-Ok-clause-written : goal.returns-in-Ok-clause-written
returns-in-Ok-clause-written g c =
    let same = ap (λ (a : Answer). answer_text a (not c.is_head.result) true)
    c.unavailable.ensures
    ∙ ap (λ (b : Bool). answer_text (bare 503) (not b) true) c.is_head.ensures in (
      c.in-Ok.ensures.written.0,
      subst (λ (z : List ℕ). Appends (g.W.Sink.contents c.args.writer.now)
          (g.W.Sink.contents c.tell.new.writer) (take c.in-Ok.ensures.written.0 z)) same
          c.in-Ok.ensures.written.1,
      (refl, c.in-Ok.ensures.written.2 ∙ ap length same),
    )

pub returns-in-Err-clause-written : goal.returns-in-Err-clause-written
returns-in-Err-clause-written g c =
    let same = ap (λ (a : Answer). answer_text a (not c.is_head.result) true)
    c.unavailable.ensures
    ∙ ap (λ (b : Bool). answer_text (bare 503) (not b) true) c.is_head.ensures in (
      c.in-Err.ensures.written.0,
      subst (λ (z : List ℕ). Appends (g.W.Sink.contents c.args.writer.now)
          (g.W.Sink.contents c.tell.new.writer) (take c.in-Err.ensures.written.0 z)) same
          c.in-Err.ensures.written.1,
      tt,
    )
