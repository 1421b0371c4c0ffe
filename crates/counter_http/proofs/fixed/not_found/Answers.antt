use Rattle.std.proofs.Common.{◌∙◌}
use Rattle.counter_http.proofs.AnsweredTurns as answered
use Rattle.counter_http.proofs.fixed.not_found.Goals as goal

pub returns : goal.returns
returns c = c.bare.ensures ∙ answered.not_found
