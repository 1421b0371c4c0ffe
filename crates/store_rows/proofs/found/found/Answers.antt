-- An error is passed on.
use Rattle.std.proofs.Common.{refl, rules}
use Rattle.store_rows.proofs.found.found.Goals as goal

pub returns-in-Err : goal.returns-in-Err
returns-in-Err g c = rw c.in-Err.is (refl, search rules)
