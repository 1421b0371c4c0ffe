-- What a look-up finds, and what a write leaves, whatever rows the tables have.
use Rattle.std.proofs.Common.{◌≡◌, ◌≤ℤ◌, ◌∙◌, ℕ, ℤ, pos, nat_eq, Bool, true, false, List, [], ◌∷◌, slice_get}
use Rattle.std.proofs.Common.{Some, None, Option, Ok, Err, Result, refl, sym, ap, subst, arith}
use Rattle.std.specs.Prelude.{◌≤◌, drop, nat_abs, neg_ℤ, cond}
use Rattle.std.specs.List.{AllByRecursion}
use Rattle.std.proofs.lemmas.Int.{ints}
use Rattle.std.proofs.lemmas.Bool.{eqb-true}
use Rattle.sqlite.specs.{Effect.Database, Effect.IsDatabase, Order.Row, Order.column, Term.Term, Term.eval_all, Table.Table}
use Rattle.sqlite.specs.declared.{error.Error.Error, transaction.Transaction.Transaction}
use Rattle.sqlite.specs.declared.types.Value.{Value, TheVariants.Int}
use Rattle.sqlite.specs.{Held.state, Cast.cast, Schema.Schema}
use Rattle.sqlite.specs.State.{State, ExecutesInside, HasCleanDisk, QueriesRowInside}
use Rattle.sqlite_rules.specs.Lists.{Has}
use Rattle.sqlite_rules.proofs.ListLemmas.{all_has, has_got}
use Rattle.sqlite_schema.specs.declared.schema.Kind.TheVariants.{Integer}
use Rattle.sqlite_trees.specs.declared.store.Store.{Ghosts}
use Rattle.message_records.specs.declared.limits.TheConstants.{MAX_BALANCE}
use Rattle.sql_meanings.specs.{Queries.by_key, Under.IsStored, Under.OthersStay, Under.rows_under}
use Rattle.sql_meanings.specs.believed.{Contents.HoldsEach, Entries.Entry, StatementAnswers.is_taken_key, Tables.Defines}
use Rattle.sql_meanings.proofs.EntryLists.{cast_int}
use Rattle.sql_meanings.proofs.Keyed.{WritesAs}
use Rattle.sql_meanings.specs.believed.Tables.{placed_at, tree_of}
use Rattle.sqlite_rules.specs.Cast.{cast_row}
use Rattle.sql_meanings.proofs.KeyedRows.{none_under, puts_beside, sets_under, shows_under}
use Rattle.sql_meanings.proofs.{PutRows.PutsEachAs, ReadTables.ReadsAs, TablesBeside.Standing}
use Rattle.sql_meanings.proofs.TablesBeside.{is_stored, standing_stored}
use Rattle.store_rows.specs.believed.BankTables.{bank_tables}
use Rattle.store_rows.specs.{Faults.added, Failures.ReadsAnswer, Statements.PutsRow, Statements.RunsUnder}
use Rattle.store_rows.specs.believed.Readings.{Reading}
use Rattle.store_rows.specs.declared.fault.TableFault.{TableFault, TheVariants.Sqlite, TheVariants.Damaged}
use Rattle.store_rows.specs.Lying.{FindsLying, IsBankFile, LeavesBeside, LiesAs, PutsLying}
use Rattle.store_rows.specs.Lying.{SetsLying}
use Rattle.posting_rules.specs.declared.fault.Rule.TheVariants.{Key}
use Rattle.store_rows.proofs.TableKinds.{Kind, table_of}

-- ---- a bank's file

free : AllByRecursion (λ t. t.references ≡ []) bank_tables
free = (refl, (refl, (refl, (refl, (refl, (refl, (refl, (refl, (refl, tt)))))))))

-- it keeps the rows of each table
pub kept : (db : Database) → IsBankFile db → (place : ℕ) (table : Table) → slice_get bank_tables place ≡ Some table
    → IsStored db.schema table
kept db file place table listed =
    all_has (IsStored db.schema) bank_tables table file (has_got bank_tables place table listed)

-- so each has its place in the schema
pub placed : (db : Database) → IsBankFile db → (place : ℕ) (table : Table) → slice_get bank_tables place ≡ Some table
    → Standing db.schema table
placed db file place table listed = standing_stored db.schema table
    (all_has (λ (t : Table). t.references ≡ []) bank_tables table free (has_got bank_tables place table listed))
    (kept db file place table listed)

-- a sound database that defines the tables is one
pub defined_file : (db : Database) → ∥ IsDatabase db ∥₁ → AllByRecursion (Defines db.schema) bank_tables → IsBankFile db
defined_file db sound defines = go bank_tables free defines
  where
    go : (tables : List Table) → AllByRecursion (λ t. t.references ≡ []) tables → AllByRecursion (Defines db.schema) tables
        → AllByRecursion (IsStored db.schema) tables
    go [] own each = tt
    go (t ∷ tables) own each = (is_stored db t own.0 sound each.0, go tables own.1 each.1)

-- as where it holds rows of each
pub all_defined : (db : Database) (tables : List Table) (rows : List (List Entry)) → HoldsEach db tables rows
    → AllByRecursion (Defines db.schema) tables
all_defined db [] rows each = tt
all_defined db (t ∷ tables) [] each = absurd each
all_defined db (t ∷ tables) (es ∷ rows) each = (each.0.defined, all_defined db tables rows each.1)

-- after a write of one table it is one still
pub left_beside : (old new : State) (table : Table) → IsBankFile old.now → OthersStay old.now new.now table
    → LeavesBeside table old.now new.now
left_beside old new table file stay = record {
  file = subst (λ (s : Schema). AllByRecursion (IsStored s) bank_tables) (sym stay.schema) file;
  beside = λ other among apart. stay.rows other (all_has (λ (t : Table). t.references ≡ []) bank_tables other free among) apart
      (all_has (IsStored old.now.schema) bank_tables other file among).defined;
}

-- ---- a look-up

module _ {X : Type 0} (place : ℕ) (table : Table) (listed : slice_get bank_tables place ≡ Some table)
    (text : List ℕ) (project : List Term) (k : ℕ) (shown : Row → Row) (read : Reading X)
    (reads : ReadsAs table text (Int (pos k) ∷ []) (λ tree. by_key tree project))
    (same : (r : Row) → eval_all project ((Int (pos k) ∷ []) ∷ r ∷ []) ≡ shown r) where
  found_lies : (old new : State) → IsBankFile old.now → (answer : Result Row Error) (found : Option X)
      → ReadsAnswer read answer (Ok found) → QueriesRowInside text (Int (pos k) ∷ []) old new answer
      → LiesAs table shown read k old.now found
  found_lies old new file (Ok row) None reads' asked = absurd reads'
  found_lies old new file (Ok row) (Some x) reads' asked =
      let found = shows_under old new table (placed old.now file place table listed) text project (pos k) reads row
      asked in
      (found.0, found.1, ap read (sym (found.2 ∙ same found.0)) ∙ reads')
  found_lies old new file (Err e) None reads' asked =
      none_under old new table (placed old.now file place table listed) text project (pos k) reads
      (subst (λ e. QueriesRowInside text (Int (pos k) ∷ []) old new (Err e)) reads' asked)
  found_lies old new file (Err e) (Some x) reads' asked = absurd reads'

  -- what is reported lies there
  pub finds_lying : {S : Type 0} (g : Ghosts S) (old new : Transaction S) (answer : Result Row Error)
      (result : Result (Option X) TableFault) → ReadsAnswer read answer result
      → (HasCleanDisk (state g new.conn.now)
      → QueriesRowInside text (Int (pos k) ∷ []) (state g old.conn.now) (state g new.conn.now) answer)
      → FindsLying g old new (LiesAs table shown read k) result
  finds_lying g old new answer (Ok found) reads' asked = λ clean file.
      found_lies (state g old.conn.now) (state g new.conn.now) file answer found reads' (asked clean)
  finds_lying g old new answer (Err fault) reads' asked = tt

-- ---- rows that are put in

not_added : (done : Unit {0}) (b : Bool) (e : Error)
    → ◌≡◌ {A = Result (Unit {0}) TableFault} (Ok done) (cond b (Err (Damaged Key)) (Err (Sqlite e))) → ⊥
not_added done true e is = absurd (cc)
not_added done false e is = absurd (cc)

module _ {R : Type 0} (kind : Kind R) (text : List ℕ) (params : Row) (news : List Entry)
    (puts : PutsEachAs (table_of kind) text params news) where
  pub puts_lying : {S : Type 0} (g : Ghosts S) (old new : Transaction S) (result : Result (Unit {0}) TableFault)
      → PutsRow g old new text params result → PutsLying g old new (table_of kind) result
  puts_lying g old new (Err fault) says = tt
  puts_lying g old new (Ok done) says = λ clean live file.
      let it = says.answers clean live in
      go (state g old.conn.now) (state g new.conn.now) file it.0 it.1 it.2
    where
      go : (before after : State) → IsBankFile before.now → (answer : Result ℕ Error)
          → ExecutesInside 0 text params before after answer → Ok done ≡ added answer
          → LeavesBeside (table_of kind) before.now after.now
      go before after file (Err e) ran is = absurd (not_added done (is_taken_key e) e is)
      go before after file (Ok count) ran is =
          left_beside before after (table_of kind) file (puts_beside before after kind.table kind.is_plain
          (placed before.now file kind.place (table_of kind) kind.listed)
          (kept before.now file kind.place (table_of kind) kind.listed).defined text params news puts count ran.0)

-- ---- a number that is set

-- a column of whole numbers keeps what it reads
pub whole_kept : (v : Value) (n : ℤ) → v ≡ Int n → cast Integer v ≡ Int n
whole_kept v n is = ap (cast Integer) is ∙ cast_int n

pub in_limit : (z : ℤ) → neg_ℤ (pos MAX_BALANCE) ≤ℤ z → z ≤ℤ pos MAX_BALANCE → nat_abs z ≤ MAX_BALANCE
in_limit z least most = omega (arith, ints)

pub met_one : (count : ℕ) → true ≡ nat_eq count 1 → count ≡ 1
met_one count is = eqb-true count 1 (sym is)

module _ (place : ℕ) (table : Table) (listed : slice_get bank_tables place ≡ Some table) (text : List ℕ) (k : ℕ)
    (z : ℤ) (project : List Term) (writes : WritesAs table text (Int (pos k) ∷ Int z ∷ []) project)
    (keyed : (r : Row) → (column (eval_all project ((Int (pos k) ∷ Int z ∷ []) ∷ r ∷ [])) 0 ≡ column r 0)
    × (column (drop 1 (eval_all project ((Int (pos k) ∷ Int z ∷ []) ∷ r ∷ []))) 0 ≡ column r 0))
    (made : Row → Row)
    (same : (tree : ℕ) (r : Row) → cast_row (placed_at table tree)
    (drop 1 (eval_all project ((Int (pos k) ∷ Int z ∷ []) ∷ r ∷ []))) ≡ made r)
    (Set : Database → Database → Type 0)
    (sets : (old new : Database) (was : Row) → rows_under old table (pos k) ≡ was ∷ []
    → Has (rows_under new table (pos k)) (made was) → Set old new) where
  -- the row is written, and each other lies where it lay
  pub sets_lying : {S : Type 0} (g : Ghosts S) (old new : Transaction S) (result : Result Bool Error)
      → RunsUnder g old new text k z result → SetsLying g old new table k Set result
  sets_lying g old new (Err e) says = tt
  sets_lying g old new (Ok false) says = tt
  sets_lying g old new (Ok true) says = λ clean live file.
      let it = says.answers clean live in
      let before = state g old.conn.now in
      let after = state g new.conn.now in
      let ran = subst (λ n. ExecutesInside 0 text (Int (pos k) ∷ Int z ∷ []) before after (Ok n))
      (met_one it.0 it.2) it.1 in
      let own = all_has (λ (t : Table). t.references ≡ []) bank_tables table free (has_got bank_tables place table listed) in
      let left = sets_under before after table own (placed before.now file place table listed)
      (kept before.now file place table listed).defined text (pos k) (Int z ∷ []) project writes keyed ran.0 in (
        record {
          beside = left_beside before after table file left.beside;
          others = left.others;
        },
        sets before.now after.now left.was left.only
            (subst (Has (rows_under after.now table (pos k))) (same (tree_of before.now.schema table.name) left.was) left.there),
      )
