-- What the parts of a call do to the tables, and what a whole transaction does.
use Rattle.std.specs.Prelude.{◌≡◌}
use Rattle.sqlite.specs.Effect.{Database}
use Rattle.sqlite.specs.Tree.{Trees}
use Rattle.store_rows.specs.believed.Sparing.{SparesOthers}

-- what a crash may leave is a database that is so
abbrev pub LeavesSo : (Database → Type 0) → Trees → Type 0
LeavesSo IsSo left = (after : Database) × (left ≡ after.trees) × IsSo after

-- it has the tables of other products as the database had them
abbrev pub LeavesOthers : Database → Trees → Type 0
LeavesOthers old = LeavesSo (SparesOthers old)
