-- The names are fewer each time.
use Rattle.std.proofs.Common.{length}
use Rattle.store_rows.proofs.definitions.+are_columns.Given as goal

abbrev pub decreases-are_columns : goal.decreases-are_columns
decreases-are_columns l = length l.names.now
