-- Rows of a table, each with the row of another one under its key, if there is one.
use Rattle.std.specs.Prelude.{◌≡◌, ◌⊎◌, ◌++◌, ◌<ℤ◌, ℤ, List, map, find, Option, Some, None, IsSomeAnd}
use Rattle.std.specs.Prelude.{option_map, ⊤}
use Rattle.sqlite.specs.declared.error.Error.{Error}
use Rattle.sqlite.specs.Table.{Table}
use Rattle.sqlite.specs.Effect.{Database}
use Rattle.sql_meanings.specs.believed.Entries.{Entry, has_key}
use Rattle.posting_rules.specs.declared.fault.Rule.{Rule}
use Rattle.store_rows.specs.declared.fault.TableFault.{TableFault}
use Rattle.store_rows.specs.declared.fault.TableFault.TheVariants.{Sqlite, Damaged}
use Rattle.store_rows.specs.View.{HoldsRows}
use Rattle.walked_rows.specs.Rows.{HasStoredRows, holds_rows, rows_after, rows_from}
use Rattle.walked_rows.specs.declared.joined.Joined.{Joined}

-- a row, and the one beside it
pub record Pair : Type 0 where
  pub entry : Entry
  pub beside : Option Entry

abbrev pub pair_key : Pair → ℤ
pair_key p = p.entry.key

-- the row under a key
abbrev pub row_under : List Entry → ℤ → Option Entry
row_under rows k = find (has_key k) rows

-- a row with the one of these that is under its key
abbrev pub pair_with : List Entry → Entry → Pair
pair_with others e = record { entry = e; beside = row_under others e.key }

-- each row with the one of the others that is under its key
abbrev pub paired : List Entry → List Entry → List Pair
paired others = map (pair_with others)

-- a sound database has both tables, and these are the pairs of them
pub record HasPairs (db : Database) (table other : Table) (pairs : List Pair) : Type 0 where
  pub rows : List Entry
  pub others : List Entry
  pub has : HasStoredRows db table rows
  pub has_others : HasStoredRows db other others
  pub are : pairs ≡ paired others rows

-- the same, whatever their keys are
pub record HoldsPairs (db : Database) (table other : Table) (pairs : List Pair) : Type 0 where
  pub rows : List Entry
  pub others : List Entry
  pub has : HoldsRows db table rows
  pub has_others : HoldsRows db other others
  pub are : pairs ≡ paired others rows

abbrev pub holds_pairs : {db : Database} {table other : Table} {pairs : List Pair} → HasPairs db table other pairs
    → HoldsPairs db table other pairs
holds_pairs has = record {
  rows = has.rows;
  others = has.others;
  has = holds_rows has.has;
  has_others = holds_rows has.has_others;
  are = has.are;
}

-- how a file holds them
abbrev pub pair_of : {R O : Type 0} → (R → Entry) → (O → Entry) → Joined R O → Pair
pair_of entry other j = record { entry = entry j.stored; beside = option_map other j.beside }

-- these are the pairs of the rows from a number on, up to those that follow
abbrev pub AreJoined : {J : Type 0} → (J → Pair) → List Entry → List Entry → ℤ → List J → Option ℤ → Type 0
AreJoined pair others rows from done rest =
    paired others (rows_from from rows) ≡ map pair done ++ paired others (rows_after rest rows)

-- the row breaks the rule, or the one beside it does
abbrev pub BreaksPair : (Rule → Entry → Type 0) → (Rule → Entry → Type 0) → Rule → Pair → Type 0
BreaksPair Breaks BreaksOther broken p = Breaks broken p.entry ⊎ IsSomeAnd p.beside (BreaksOther broken)

-- an error of the store of which this holds, or the row under the key breaks the rule
abbrev pub BreaksUnder : (Error → Type 0) → (Rule → Entry → Type 0) → ℤ → List Entry → TableFault → Type 0
BreaksUnder Failed Breaks key others (Sqlite e) = Failed e
BreaksUnder Failed Breaks key others (Damaged broken) = IsSomeAnd (row_under others key) (Breaks broken)

-- the key is below the number from which on the others follow, if others do
abbrev pub ComesBefore : Option ℤ → ℤ → Type 0
ComesBefore None key = ⊤
ComesBefore (Some after) key = key <ℤ after
