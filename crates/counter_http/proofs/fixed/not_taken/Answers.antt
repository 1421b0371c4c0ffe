use Rattle.std.proofs.Common.{refl}
use Rattle.counter_http.specs.believed.Answers.{status_words}
use Rattle.counter_http.proofs.fixed.not_taken.Goals as goal

pub returns : goal.returns
unfolding status_words
returns c = refl
