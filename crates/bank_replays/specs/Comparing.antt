-- What a comparison of two banks says, and what it leaves of each.
use Rattle.std.specs.Prelude.{◌≡◌, ◌⊎◌, ℤ, List, Option, Some, None, Result, Ok, option_map}
use Rattle.sqlite.specs.Effect.{Database}
use Rattle.sqlite.specs.State.{HasCleanDisk}
use Rattle.sqlite_trees.specs.declared.store.Store.{Ghosts}
use Rattle.posting_rules.specs.declared.fault.Fault.{Fault}
use Rattle.store_rows.specs.believed.BankTables.{account, branch, floor, teller}
use Rattle.walked_rows.specs.Rows.{HasStoredRows}
use Rattle.bank_store.specs.believed.Seen.{database_of, file_of}
use Rattle.bank_store.specs.declared.bank.Bank.{Bank}
use Rattle.bank_replays.specs.Damaged.{TellsWhy}
use Rattle.bank_replays.specs.NextRows.{DifferFirst, HaveRisingKeys}
use Rattle.bank_replays.specs.Reading.{ReadsBank}
use Rattle.bank_replays.specs.declared.difference.Difference.{Difference}
use Rattle.bank_replays.specs.declared.difference.Sides.{Sides}

-- the same rows, whatever rows each of them has
abbrev pub SameRows : {X : Type 0} → (Database → List X → Type 0) → Database → Database → Type 0
SameRows {X} HasItems db other = (all others : List X) → HasItems db all → HasItems other others → all ≡ others

-- the difference says the first rows of a kind in which they differ
pub record DiffersIn {R X : Type 0} (key : X → ℤ) (item : R → X) (Says : Difference → Sides R → Type 0)
    (HasItems : Database → List X → Type 0) (db other : Database) (d : Difference) : Type 0 where
  pub sides : Sides R
  pub says : Says d sides
  pub are : (all others : List X) → HasItems db all → HasItems other others
      → DifferFirst key all others (option_map item sides.stands) (option_map item sides.due)

-- the same of what is to come of such rows, if their keys rise
pub record DiffersAmong {R X : Type 0} (key : X → ℤ) (item : R → X) (Says : Difference → Sides R → Type 0)
    (Has HasDue : List X → Type 0) (coming coming_due : List X → List X) (d : Difference) : Type 0 where
  pub sides : Sides R
  pub says : Says d sides
  pub are : (all others : List X) → Has all → HasDue others → HaveRisingKeys key (coming all)
      → HaveRisingKeys key (coming_due others)
      → DifferFirst key (coming all) (coming_due others) (option_map item sides.stands) (option_map item sides.due)

-- Rows of two banks were compared. Where both disks are clean, and no difference was found, they are the same; and one
-- that was found is told.
pub record Compares {S T : Type 0} (g : Ghosts S) (h : Ghosts T) (old new : Bank S g) (other other' : Bank T h)
    (Same : Database → Database → Type 0) (Differ : Database → Database → Difference → Type 0)
    (result : Result (Option Difference) Fault) : Type 0 where
  pub bank : ReadsBank g old new result
  pub due : ReadsBank h other other' result
  pub same : HasCleanDisk (file_of new) → HasCleanDisk (file_of other') → result ≡ Ok None
      → Same (database_of g old) (database_of h other)
  pub differs : HasCleanDisk (file_of new) → HasCleanDisk (file_of other') → (d : Difference)
      → result ≡ Ok (Some d) → Differ (database_of g old) (database_of h other) d
  pub why : TellsWhy g (λ fault. fault) old new result

-- both hold of two databases
abbrev pub Both : (Database → Database → Type 0) → (Database → Database → Type 0) → Database → Database → Type 0
Both One Other db due = One db due × Other db due

-- the first of them tells the difference, or those rows are the same and the other tells it
abbrev pub Either : (Same : Database → Database → Type 0) → (First Second : Database → Database → Difference → Type 0)
    → Database → Database → Difference → Type 0
Either Same First Second db due d = First db due d ⊎ (Same db due × Second db due d)

-- branches, floors, accounts and tellers have the same rows in both
abbrev pub SameStanding : Database → Database → Type 0
SameStanding =
    Both (Both (SameRows (λ db rows. HasStoredRows db branch rows)) (SameRows (λ db rows. HasStoredRows db floor rows)))
    (Both (SameRows (λ db rows. HasStoredRows db account rows)) (SameRows (λ db rows. HasStoredRows db teller rows)))
