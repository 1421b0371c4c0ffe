-- Those so far are as made.
use Rattle.std.proofs.Common.{take}
use Rattle.store_rows.specs.Definitions.{AreMade}
use Rattle.store_rows.proofs.definitions.first_other.Given as goal

abbrev pub invariant-loop-table : goal.invariant-loop-table
invariant-loop-table l = AreMade l.fn.schema (take l.table-index l.fn.tables)
