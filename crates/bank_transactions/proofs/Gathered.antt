-- One row more of the closed numbers, or none, after those that were read.
use Rattle.std.proofs.Common.{◌≡◌, ◌≤◌, ◌+◌, ◌++◌, ℕ, pos, List, [], ◌∷◌, find, Some, None, Option, Ok, sym, subst, arith}
use Rattle.std.specs.Prelude.{⊤}
use Rattle.sqlite.specs.{Effect.Database, Held.state, State.HasCleanDisk, declared.transaction.Transaction.Transaction}
use Rattle.sqlite_trees.specs.declared.store.Store.{Ghosts}
use Rattle.posting_rules.specs.declared.rows.ClosingRow.{ClosingRow}
use Rattle.sql_meanings.specs.{Entries.is_above, believed.Tables.Holds}
use Rattle.store_rows.specs.believed.BankTables as bank
use Rattle.store_rows.specs.believed.{Readings.read_closing, Stored.FindsStored}
use Rattle.store_rows.specs.Lying.{IsBankFile, NextLies, OfClosings}
use Rattle.bank_transactions.specs.{Doing.ReadsWhere, Gathering.ReadsAs, Gathering.ReadsUpTo}
use Rattle.bank_transactions.proofs.ClosedRows.{next_is_above, reads_all, reads_next}

module _ {S : Type 0} {g : Ghosts S} {old mid : Transaction S} (new : Transaction S) (k : ℕ) (runs : List ClosingRow)
    (says : ReadsWhere {X = Unit {0}} g old mid (λ _. ⊤) (λ _. tt {0}) (Ok (tt {0})))
    (before : HasCleanDisk (state g new.conn.now) → HasCleanDisk (state g mid.conn.now))
    (so_far : HasCleanDisk (state g mid.conn.now) → IsBankFile (state g old.conn.now).now
    → OfClosings (λ rows. ReadsUpTo k rows runs) (state g old.conn.now).now)
    (o : Option ClosingRow)
    (lies : HasCleanDisk (state g new.conn.now) → IsBankFile (state g mid.conn.now).now
    → NextLies k (state g mid.conn.now).now o) where
  found : (x : Option ClosingRow) → o ≡ x → HasCleanDisk (state g new.conn.now)
      → IsBankFile (state g old.conn.now).now
      → OfClosings (λ rows. FindsStored (find (is_above (pos k)) rows) read_closing (Ok x)) (state g old.conn.now).now
  found x is clean file rows holds =
      let same = (says.says.leaves (before clean)).0.now in
      subst (λ (y : Option ClosingRow). FindsStored (find (is_above (pos k)) rows) read_closing (Ok y)) is
      (lies clean (subst IsBankFile (sym same) file) rows
      (subst (λ (db : Database). Holds db bank.closing rows) (sym same) holds))

  -- these are all
  pub last : o ≡ None → HasCleanDisk (state g new.conn.now) → IsBankFile (state g old.conn.now).now
      → OfClosings (λ rows. ReadsAs rows runs) (state g old.conn.now).now
  last is clean file rows holds =
      reads_all k rows runs (found None is clean file rows holds) (so_far (before clean) file rows holds)

  -- one more is read
  pub more : (r : ClosingRow) → o ≡ Some r → HasCleanDisk (state g new.conn.now) → IsBankFile (state g old.conn.now).now
      → OfClosings (λ rows. ReadsUpTo r.last rows (runs ++ r ∷ [])) (state g old.conn.now).now
  more r is clean file rows holds =
      reads_next k rows runs r holds.rows.rise (found (Some r) is clean file rows holds)
      (so_far (before clean) file rows holds)

  -- and its key is above those before
  pub further : (r : ClosingRow) (step : ℕ) → o ≡ Some r
      → (HasCleanDisk (state g mid.conn.now) → IsBankFile (state g old.conn.now).now
      → OfClosings (λ _. step ≤ k) (state g old.conn.now).now)
      → HasCleanDisk (state g new.conn.now) → IsBankFile (state g old.conn.now).now
      → OfClosings (λ _. step + 1 ≤ r.last) (state g old.conn.now).now
  further r step is far clean file rows holds =
      let at = far (before clean) file rows holds in
      let above = next_is_above k rows r (found (Some r) is clean file rows holds) in
      omega (arith, at, above)
