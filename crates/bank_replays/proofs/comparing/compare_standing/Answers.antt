-- Four kinds of rows, and nothing is said of a difference.
use Rattle.bank_replays.proofs.Comparisons.{compared_as}
use Rattle.bank_replays.proofs.comparing.compare_standing.Goals as goal

pub returns : goal.returns
returns g c = compared_as (λ db other same. same) (λ db other d differs. tt) c.compare_four.ensures
