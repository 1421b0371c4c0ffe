-- What a statement of one table was run as.
use Rattle.std.specs.Prelude.{◌≡◌, ℕ, ℤ, pos, List, [], ◌∷◌, nat_eq, Bool, Result, Ok}
use Rattle.std.specs.Prelude.{Err, ⊤}
use Rattle.sqlite.specs.Effect.{Database}
use Rattle.sqlite.specs.Order.{Row}
use Rattle.sqlite.specs.State.{State, ExecutesInside}
use Rattle.sqlite.specs.declared.error.Error.{Error}
use Rattle.sqlite.specs.declared.transaction.Transaction.{Transaction}
use Rattle.sqlite.specs.declared.types.Value.TheVariants.{Int}
use Rattle.sqlite_trees.specs.declared.store.Store.{Ghosts}
use Rattle.sqlite_rules.specs.Lists.{Has}
use Rattle.sql_meanings.specs.Calls.{Inside, Says}
use Rattle.store_rows.specs.Columns.{meta_shown}
use Rattle.store_rows.specs.believed.Failures.{inserts}
use Rattle.store_rows.specs.Shown.{ShowsFirst}
use Rattle.store_rows.specs.believed.SeveralRows.{under}
use Rattle.store_rows.specs.Failures.{Changes, Puts}
use Rattle.store_rows.specs.Faults.{added}
use Rattle.store_rows.specs.declared.fault.TableFault.{TableFault}
use Rattle.store_rows.specs.declared.fault.TableFault.TheVariants.{Sqlite, Damaged}
use Rattle.store_rows.specs.declared.metas.StoredMeta.{StoredMeta}
use Rattle.store_rows.specs.declared.metas.TheConstants.{META_ID}
use Rattle.store_rows.specs.declared.texts.TheConstants.{GET_META}

-- the text was run with these values, and the answer is whether it met one row
abbrev pub MeetsOne : List ℕ → Row → State → State → Result Bool Error → Type 0
MeetsOne text params old new (Ok met) = (count : ℕ) × ExecutesInside 0 text params old new (Ok count)
    × (met ≡ nat_eq count 1)
MeetsOne text params old new (Err e) = ExecutesInside 0 text params old new (Err e)

-- The text was run with a key and a number. Whatever it was, the transaction goes on, or an error leaves it
-- as it was.
abbrev pub RunsUnder : {S : Type 0} → Ghosts S → Transaction S → Transaction S → List ℕ → ℕ → ℤ
    → Result Bool Error → Type 0
RunsUnder g old new text key number result =
    Says g old new (Inside (λ old new. MeetsOne text (under key number) old new result))
    (Inside (λ old new. Changes text (under key number) old new result))

-- the text was run with these values, and the answer is reported as that of an INSERT
abbrev pub PutsIn : List ℕ → Row → State → State → Result (Unit {0}) TableFault → Type 0
PutsIn text params old new r = (answer : Result ℕ Error) × ExecutesInside 0 text params old new answer
    × (r ≡ added answer)

-- The text was run with these values. Where it is one that puts a row in, under a key, the transaction goes on, or
-- an error leaves it as it was.
abbrev pub PutsRow : {S : Type 0} → Ghosts S → Transaction S → Transaction S → List ℕ → Row
    → Result (Unit {0}) TableFault → Type 0
PutsRow g old new text values result =
    Says g old new (Inside (λ old new. PutsIn text values old new result))
    (Inside (λ old new. (key : ℤ) (rest : Row) → values ≡ Int key ∷ rest → Has inserts text
    → Puts text values old new result))

-- the row of the bank has a value that is no whole number, whatever table `meta` is
abbrev pub HasOtherValue : Database → Type 0
HasOtherValue db = (row : Row) × ShowsFirst GET_META.now (Int (pos META_ID) ∷ []) db row
    × ((m : StoredMeta) → row ≡ meta_shown m → ⊥)

-- what damage at the row of the bank says
abbrev pub TellsOther : Database → TableFault → Type 0
TellsOther db (Sqlite e) = ⊤
TellsOther db (Damaged rule) = HasOtherValue db
