use Rattle.std.proofs.Common.{◌∙◌}
use Rattle.counter_http.proofs.PartsWritten as parts
use Rattle.counter_http.proofs.fixed.bad_request.Goals as goal

pub returns : goal.returns
returns c = c.bare.ensures ∙ parts.bad_request
