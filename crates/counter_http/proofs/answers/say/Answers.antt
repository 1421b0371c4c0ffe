use Rattle.std.proofs.Common.{ap, refl, Bool, Ok, Err}
use Rattle.std.specs.Prelude.{not}
use Rattle.counter_http.specs.{believed.Answers.answer_text, Telling.said}
use Rattle.counter_http.specs.{declared.fault.ServeFault.TheVariants.Write}
use Rattle.counter_http.proofs.PartsWritten.{told_text}
use Rattle.counter_http.proofs.answers.say.Goals as goal

pub returns-in-Ok : goal.returns-in-Ok
returns-in-Ok g c =
    told_text (Ok tt)
    (ap (λ (b : Bool). answer_text (said c.args.response.now) (not b) c.args.message.now.closes)
    c.is_head.ensures) c.in-Ok.ensures.written tt c.in-Ok.ensures.ends

pub returns-in-Err : goal.returns-in-Err
returns-in-Err g c =
    told_text (Err Write)
    (ap (λ (b : Bool). answer_text (said c.args.response.now) (not b) c.args.message.now.closes)
    c.is_head.ensures) c.in-Err.ensures.written refl c.in-Err.ensures.ends
