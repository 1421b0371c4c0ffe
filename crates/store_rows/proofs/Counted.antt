-- How many decided requests the row of the bank counts, whatever rows the tables have.
use Rattle.std.proofs.Common.{◌≡◌, ◌<◌, ◌∙◌, ℕ, ℤ, pos, Bool, true, false, List, [], ◌∷◌, Some, None, Option, Ok, Err}
use Rattle.std.proofs.Common.{Result, refl, sym, ap, subst, inl, inr, arith, find, option_map}
use Rattle.std.specs.Prelude.{map, filter}
use Rattle.sqlite.specs.{Effect.Database, Held.state, Order.Row, Order.column, Schema.Schema, Table.Table, Tree.has_rowid}
use Rattle.sqlite.specs.State.{State, ExecutesInside}
use Rattle.sqlite.specs.declared.{error.Error.Error, transaction.Transaction.Transaction}
use Rattle.sqlite.specs.declared.types.Value.{TheVariants.Int}
use Rattle.sqlite_rules.specs.Lists.{Has}
use Rattle.sqlite_rules.proofs.ListLemmas.{all_has, has_found}
use Rattle.sqlite_trees.proofs.ListLemmas.{filter-map}
use Rattle.sqlite_trees.specs.declared.store.Store.{Ghosts}
use Rattle.sql_meanings.specs.Under.{IsStored, rows_under}
use Rattle.sql_meanings.specs.Entries.{listed}
use Rattle.sql_meanings.specs.believed.Entries.{Entry, HasWidth, has_key, stored}
use Rattle.sql_meanings.specs.believed.Tables.{Holds}
use Rattle.sql_meanings.proofs.{EntryLists.cast_int, EntryLists.one_filter, EntryLists.rowid_is, KeyedRows.sets_under}
use Rattle.sql_meanings.proofs.TablesBeside.{standing_stored}
use Rattle.store_rows.specs.believed.BankTables as bank
use Rattle.store_rows.specs.{believed.Columns.meta_in, believed.Columns.meta_numbers, believed.Columns.number_at, Statements.RunsUnder, View.HoldsRows}
use Rattle.store_rows.specs.believed.Readings.{number}
use Rattle.store_rows.specs.declared.metas.{StoredMeta.StoredMeta, TheConstants.META_ID}
use Rattle.store_rows.specs.declared.texts.TheConstants as text
use Rattle.store_rows.specs.Lying.{CountLies, IsBankFile, MetaLies, SetsCount}
use Rattle.store_rows.proofs.{Lying.kept, Lying.met_one, LyingRows.number_ok, Readings.then_ok, ShownValues.number_shown}
use Rattle.store_rows.proofs.{Setting.second_set, Setting.writes, SparedTexts.spares}

-- what was read of it is what it counts
pub count_read : (db : Database) (n : ℕ) (m : StoredMeta) → MetaLies db (Some m) → m.decided ≡ pos n → CountLies db n
count_read db n m lies is =
    let row = lies.0 in
    let one = then_ok (number (column row 2)) _ m lies.2 in
    let two = then_ok (number (column row 3)) _ m one.2 in
    let same : two.0 ≡ m.decided = (let last = two.2 in cc) in
    (row, lies.1, number_ok (column row 3) two.0 two.1 ∙ ap (λ z. Int z) (same ∙ is))

-- ---- the rows that are held

-- the rows under a key are those of the entry that has it
pub held_under : (k : ℤ) (es : List Entry) → filter (has_rowid k) (map stored es) ≡ map stored (filter (has_key k) es)
held_under k es = filter-map (has_rowid k) stored es ∙ ap (map stored) (tests k es)
  where
    tests : (k : ℤ) (es : List Entry) → filter (λ e. has_rowid k (stored e)) es ≡ filter (has_key k) es
    tests k [] = refl
    tests k (e ∷ es) = rw (rowid_is k e, tests k es) refl

-- where rows are held, it is that entry which lies there
pub under_is : (db : Database) (table : Table) (rows : List Entry) → Holds db table rows → (k : ℤ)
    → rows_under db table k ≡ map stored (listed (find (has_key k) rows))
under_is db table rows holds k =
    ap (filter (has_rowid k)) holds.rows.are ∙ held_under k rows ∙ ap (map stored) (one_filter k rows holds.rows.rise)

-- it is what the row under the bank's id counts
pub count_held : (db : Database) (rows : List Entry) (n : ℕ) → HoldsRows db bank.meta rows → CountLies db n
    → (version : ℤ) × (meta_in rows ≡ Some (record { version = version; decided = pos n }))
count_held db rows n has lies =
    go (find (has_key (pos META_ID)) rows) refl
    (subst (λ l. Has l lies.0) (under_is db bank.meta rows has.holds (pos META_ID)) lies.1)
  where
    go : (o : Option Entry) → find (has_key (pos META_ID)) rows ≡ o → Has (map stored (listed o)) lies.0
        → (version : ℤ) × (meta_in rows ≡ Some (record { version = version; decided = pos n }))
    go None found had = absurd had
    go (Some e) found (inr none) = absurd none
    go (Some e) found (inl is) =
        (number_at 0 e, ap (option_map meta_numbers) found ∙ ap (λ (d : ℤ). Some (record { version = number_at 0 e; decided = d })) same)
      where
        wide : HasWidth (2, 0) e
        wide = all_has (λ e. HasWidth (2, 0) e) rows e has.holds.rows.wide (has_found (has_key (pos META_ID)) rows e found).0

        counts : Int (number_at 1 e) ≡ Int (pos n)
        counts = sym (number_shown 1 e.values e.texts (subst (λ m. 1 < m) (sym wide.0) (omega arith)))
            ∙ sym (ap (λ (r : Row). column r 3) is) ∙ lies.2

        same : number_at 1 e ≡ pos n
        same = let it = counts in cc

-- ---- the count that is written

module _ {S : Type 0} (g : Ghosts S) (old new : Transaction S) (n : ℕ) where
  abbrev before : State
  before = state g old.conn.now

  abbrev after : State
  after = state g new.conn.now

  set_here : IsBankFile after.now → (count : ℕ) → count ≡ 1
      → ExecutesInside 0 text.SET_META.now (Int (pos META_ID) ∷ Int (pos n) ∷ []) before after (Ok count)
      → CountLies after.now n
  set_here file count one h =
      let ran = subst (λ m. ExecutesInside 0 text.SET_META.now (Int (pos META_ID) ∷ Int (pos n) ∷ []) before after (Ok m))
      one h in
      let same : after.now.schema ≡ before.now.schema =
      (spares.set_meta before after (Int (pos META_ID) ∷ Int (pos n) ∷ []) 1 ran.0).0.schema in
      let there = subst (λ (s : Schema). IsStored s bank.meta) same (kept after.now file 0 bank.meta refl) in
      let at = standing_stored before.now.schema bank.meta refl there in
      let left = sets_under before after bank.meta refl at there.defined text.SET_META.now (pos META_ID)
      (Int (pos n) ∷ []) second_set (writes.meta (pos n)) (λ r. (refl, refl)) ran.0 in
      (_, left.there, cast_int (pos n))

  -- the row of the bank counts so many
  pub count_set : (result : Result Bool Error) → RunsUnder g old new text.SET_META.now META_ID (pos n) result
      → SetsCount g old new n result
  count_set (Err e) says = tt
  count_set (Ok false) says = tt
  count_set (Ok true) says = λ clean live file.
      let it = says.answers clean live in
      set_here file it.0 (met_one it.0 it.2) it.1
