-- What the look-ups of closed numbers find, whatever rows the other tables have.
use Rattle.std.proofs.Common.{ℕ, pos, List, [], ◌∷◌, find, Some, None, Option, Ok, Err, Result, refl, subst}
use Rattle.sqlite.specs.{Held.state, Order.Row, State.HasCleanDisk, State.QueriesRowInside}
use Rattle.sqlite.specs.declared.{error.Error.Error, transaction.Transaction.Transaction, types.Value.TheVariants.Int}
use Rattle.sqlite_trees.specs.declared.store.Store.{Ghosts}
use Rattle.posting_rules.specs.declared.rows.ClosingRow.{ClosingRow}
use Rattle.sql_meanings.specs.{Entries.is_above, StatementAnswers.TellsRow, believed.Entries.Entry}
use Rattle.sql_meanings.proofs.{ReadRows.next_standing, Texts.columns_of}
use Rattle.store_rows.specs.believed.BankTables as bank
use Rattle.store_rows.specs.believed.{Readings.closing_of, Readings.read_closing, SeveralRows.given, Stored.FindsStored}
use Rattle.store_rows.specs.{Failures.ReadsAnswer, Lying.FindsLying, Lying.NextLies, Lying.SealLies, TableAnswers.Finds}
use Rattle.store_rows.specs.declared.fault.TableFault.{TableFault}
use Rattle.store_rows.specs.declared.texts.TheConstants as text
use Rattle.store_rows.proofs.{FoundRows.finds, Getting.gets, Lying.finds_lying, Lying.placed, LyingFound.finds_seal}
use Rattle.store_rows.proofs.{NextRows.next_closing, ShownValues.all_columns, StoredRows.shown_as}

module _ {S : Type 0} (g : Ghosts S) (old new : Transaction S) (answer : Result Row Error)
    (result : Result (Option ClosingRow) TableFault) (reads : ReadsAnswer closing_of answer result) where
  -- what the text answered
  abbrev Asked : List ℕ → ℕ → Type 0
  Asked text k = HasCleanDisk (state g new.conn.now)
      → QueriesRowInside text (Int (pos k) ∷ []) (state g old.conn.now) (state g new.conn.now) answer

  -- the seal
  pub seal_found : Asked text.GET_CLOSING.now 0 → FindsLying g old new SealLies result
  seal_found asked = go result reads
    where
      go : (r : Result (Option ClosingRow) TableFault) → ReadsAnswer closing_of answer r → FindsLying g old new SealLies r
      go (Err fault) reads = tt
      go (Ok found) reads = λ clean file rows holds.
          finds_seal (state g old.conn.now).now rows holds found
          (finds_lying 8 bank.closing refl text.GET_CLOSING.now (columns_of bank.closing) 0 _ closing_of
          (gets.closing.reads (pos 0)) (λ r. refl) g old new answer (Ok found) reads asked clean file)

  told : (stored : Option Entry) (found : Option ClosingRow)
      → Finds (state g old.conn.now) (state g new.conn.now) stored read_closing (Ok found)
      → FindsStored stored read_closing (Ok found)
  told stored None it = it.0
  told stored (Some x) it = it.0

  -- the first closed numbers above a key
  pub next_found : (k : ℕ) → Asked text.NEXT_CLOSING.now k → FindsLying g old new (NextLies k) result
  next_found k asked = go result reads
    where
      go : (r : Result (Option ClosingRow) TableFault) → ReadsAnswer closing_of answer r
          → FindsLying g old new (NextLies k) r
      go (Err fault) reads = tt
      go (Ok found) reads = λ clean file rows holds.
          let before = state g old.conn.now in
          let after = state g new.conn.now in
          let next = find (is_above (pos k)) rows in
          let tells = next_standing before after bank.closing (placed before.now file 8 bank.closing refl) rows holds.rows
          text.NEXT_CLOSING.now (columns_of bank.closing) (pos k) (next_closing (pos k)) answer (asked clean) in
          told next found (finds before after given closing_of next answer (Ok found) reads
          (subst (λ o. TellsRow before after o answer)
          (shown_as (1, 0) _ given (all_columns 1 0) (is_above (pos k)) rows holds.rows.wide) tells))
