-- What each look-up reports of the rows that a file holds, whatever numbers they have.
use Rattle.std.proofs.Common.{◌≡◌, ℕ, pos, List, [], ◌∷◌, find, slice_get, Bool, Some, None, Option, option_map}
use Rattle.std.proofs.Common.{Result, refl, ap, subst}
use Rattle.std.specs.List.{AllByRecursion}
use Rattle.sqlite.specs.{Effect.Database, Order.Row, State.State, State.QueriesRowInside, Table.Table, Term.Term}
use Rattle.sqlite.specs.{Term.eval_all, declared.error.Error.Error, declared.types.Value.TheVariants.Int}
use Rattle.posting_rules.specs.believed.Tables.{Tables}
use Rattle.sql_meanings.specs.believed.Entries.{Entry, HasWidth, has_key, stored}
use Rattle.sql_meanings.specs.{StatementAnswers.TellsRow, Queries.by_key}
use Rattle.sql_meanings.specs.believed.Tables.{Holds, width_of}
use Rattle.sql_meanings.proofs.{Changes.found_all, Contents.held, ReadRows.reads_key, ReadTables.ReadsAs}
use Rattle.store_rows.specs.believed.Rules.{HoldsBank, StoredRows, row_under, stored_lists}
use Rattle.store_rows.specs.{Rules.stored_rows, believed.BankTables.bank_tables, believed.View.Shows}

-- what shows tables holds their rows
pub holds_shown : (db : Database) (t : Tables) → Shows db t → HoldsBank db (stored_rows t)
holds_shown db t shows = record { sound = shows.sound; each = shows.each }

-- the rows of one table
pub holds_list : (db : Database) (rows : StoredRows) → HoldsBank db rows
    → (at : ℕ) (t : Table) (es : List Entry)
    → slice_get bank_tables at ≡ Some t → slice_get (stored_lists rows) at ≡ Some es → Holds db t es
holds_list db rows has at t es is are = held db bank_tables (stored_lists rows) has.each at t es is are

-- what is shown of the row that passes a test, where each has its width
pub shown_as : (width : ℕ × ℕ) (show held : Entry → Row) → ((e : Entry) → HasWidth width e → show e ≡ held e)
    → (p : Entry → Bool) (es : List Entry) → AllByRecursion (HasWidth width) es
    → option_map show (find p es) ≡ option_map held (find p es)
shown_as width show held same p es wide = go (find p es) refl
  where
    go : (o : Option Entry) → find p es ≡ o → option_map show o ≡ option_map held o
    go None is = refl
    go (Some e) is = ap Some (same e (found_all (HasWidth width) p es e wide is))

-- of the row under a key
pub stored_under : (at : ℕ) (t : Table) → t.references ≡ [] → slice_get bank_tables at ≡ Some t
    → (rows_of : StoredRows → List Entry)
    → ((rows : StoredRows) → slice_get (stored_lists rows) at ≡ Some (rows_of rows))
    → (text : List ℕ) (project : List Term) (k : ℕ)
    → ReadsAs t text (Int (pos k) ∷ []) (λ tree. by_key tree project) → (held : Entry → Row)
    → ((e : Entry) → HasWidth (width_of t) e → eval_all project ((Int (pos k) ∷ []) ∷ stored e ∷ [])
    ≡ held e)
    → (old new : State) (rows : StoredRows) → HoldsBank old.now rows → (r : Result Row Error)
    → QueriesRowInside text (Int (pos k) ∷ []) old new r
    → TellsRow old new (option_map held (row_under (rows_of rows) k)) r
stored_under at t free listed rows_of there text project k reads held same old new rows has r h =
    let holds = holds_list old.now rows has at t (rows_of rows) listed (there rows) in
    subst (λ o. TellsRow old new o r)
    (shown_as (width_of t) _ held same (has_key (pos k)) (rows_of rows) holds.rows.wide)
    (reads_key old new t free has.sound (rows_of rows) holds text project (pos k) reads r h)
