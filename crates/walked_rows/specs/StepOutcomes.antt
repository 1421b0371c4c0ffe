-- What is read of a row, and what a step of a walk meets.
use Rattle.std.specs.Prelude.{◌≡◌, ℤ, true, List, ◌∷◌, Result, Ok, Err}
use Rattle.sqlite.specs.Order.{Row}
use Rattle.sqlite.specs.declared.error.Error.{Error}
use Rattle.posting_rules.specs.declared.fault.Rule.{Rule}
use Rattle.sql_meanings.specs.believed.Entries.{Entry}
use Rattle.sql_meanings.specs.Seeks.{is_from}
use Rattle.store_rows.specs.believed.Readings.{Reading}
use Rattle.store_rows.specs.believed.SeveralRows.{given}
use Rattle.store_rows.specs.declared.fault.TableFault.{TableFault}
use Rattle.store_rows.specs.declared.fault.TableFault.TheVariants.{Sqlite, Damaged}
use Rattle.walked_rows.specs.Kinds.{IsRow, Kind}

-- a file's row is read as none, since it breaks the rule
abbrev pub BreaksBy : {R : Type 0} → Reading R → Rule → Entry → Type 0
BreaksBy reading broken e = reading (given e) ≡ Err broken

-- Of a row whose key is a number or above it: what was read, whose key is that number or above it too; or the
-- rule that it breaks.
abbrev pub ReadsNext : {R : Type 0} → Kind R → ℤ → Row → Result R TableFault → Type 0
ReadsNext kind next row (Ok r) = ((e : Entry) → row ≡ given e → IsRow kind e → kind.entry r ≡ e)
    × (is_from next (kind.entry r) ≡ true)
ReadsNext kind next row (Err (Sqlite x)) = ⊥
ReadsNext kind next row (Err (Damaged broken)) =
    (e : Entry) → row ≡ given e → IsRow kind e → is_from next e ≡ true → BreaksBy kind.reading broken e

-- an error of the store of which this holds, or the first to come breaks the rule
abbrev pub BreaksFirst : {X : Type 0} → (Error → Type 0) → (Rule → X → Type 0) → List X → TableFault
    → Type 0
BreaksFirst Failed Breaks to_come (Sqlite e) = Failed e
BreaksFirst {X} Failed Breaks to_come (Damaged broken) =
    (x : X) × (more : List X) × (to_come ≡ x ∷ more) × Breaks broken x
