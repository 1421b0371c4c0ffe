-- What the error means.
use Rattle.std.proofs.Common.{rules}
use Rattle.store_rows.proofs.fault.added.Goals as goal

pub returns-in-Err : goal.returns-in-Err
returns-in-Err = search rules
