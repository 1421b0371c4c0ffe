-- A text that isn't understood is told.
use Rattle.std.proofs.Common.{refl}
use Rattle.store_rows.proofs.probes.refused.Goals as goal

pub returns-in-SqlInputError : goal.returns-in-SqlInputError
returns-in-SqlInputError c = rw c.in-SqlInputError.is refl
