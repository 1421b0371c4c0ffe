use Rattle.std.proofs.Common.{ap, refl, true, Ok, Err}
use Rattle.counter_http.specs.{believed.Answers.Answer, believed.Answers.answer_text}
use Rattle.counter_http.specs.{declared.fault.ServeFault.TheVariants.Write}
use Rattle.counter_http.proofs.PartsWritten.{told_text}
use Rattle.counter_http.proofs.answers.refuse.Goals as goal

pub returns-in-Ok : goal.returns-in-Ok
returns-in-Ok g c =
    told_text (Ok tt) (ap (λ (a : Answer). answer_text a c.args.shows_body true)
    c.bad_request.ensures) c.in-Ok.ensures.written tt c.in-Ok.ensures.ends

pub returns-in-Err : goal.returns-in-Err
returns-in-Err g c =
    told_text (Err Write) (ap (λ (a : Answer). answer_text a c.args.shows_body true)
    c.bad_request.ensures) c.in-Err.ensures.written refl c.in-Err.ensures.ends
