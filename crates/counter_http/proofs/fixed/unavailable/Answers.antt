use Rattle.std.proofs.Common.{◌∙◌}
use Rattle.counter_http.proofs.AnsweredTurns.{no_service}
use Rattle.counter_http.proofs.fixed.unavailable.Goals as goal

pub returns : goal.returns
returns c = c.bare.ensures ∙ no_service
