use Rattle.counter_http.proofs.Momentless.{momentless}
use Rattle.counter_http.proofs.laws.answers_have_no_moment.Goals as goal

pub returns : goal.returns
returns c = momentless
