-- The row is what its columns show.
use Rattle.std.proofs.Common.{rules}
use Rattle.walked_rows.proofs.EntryShown.{entry_is}
use Rattle.walked_rows.proofs.closings.StoredClosingStoredRow.of.Goals as goal

pub returns-clause-is : goal.returns-clause-is
returns-clause-is c e is wide = search (rules, entry_is 1 e c.args.row.now is wide)
