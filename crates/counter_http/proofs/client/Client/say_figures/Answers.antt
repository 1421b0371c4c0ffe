use Rattle.std.proofs.Common.{◌∙◌, List, None, ap, codes, subst, ℕ}
use Rattle.counter_http.specs.believed.Answers.{Answer}
use Rattle.counter_http.specs.together.Standing.{SaysSo}
use Rattle.counter_http.proofs.client.Client.say_figures.Goals as goal

abbrev with_body : List ℕ → Answer
with_body body = record { code = 200; media = codes "text/plain; version=0.0.4"; allow = None; body = body }

pub returns : goal.returns
returns g c =
    subst (λ (a : Answer). SaysSo c.args.self.now c.say.new.self a c.args.head c.say.result)
    (ap with_body (c.as_bytes.ensures.value ∙ c.in-Ok.ensures)) c.say.ensures
