-- Those so far are so.
use Rattle.std.proofs.Common.{◌≡◌, take}
use Rattle.std.specs.List.{AllByRecursion}
use Rattle.sql_meanings.specs.believed.Tables.{placed_at}
use Rattle.store_rows.specs.Definitions.{made}
use Rattle.store_rows.proofs.definitions.are_made.Given as goal

abbrev pub invariant-loop-it : goal.invariant-loop-it
invariant-loop-it l =
    AllByRecursion (λ t. t.tree ≡ l.fn.tree → t ≡ placed_at (made l.fn.table) l.fn.tree)
    (take l.it-index l.fn.tables)
