-- What a closing leaves of the tables of a log are the tables of the log with it.
use Rattle.std.proofs.Common.{◌≡◌, ℕ, Bool, true, false, cond, eqb, List, ◌∷◌, Some, sym, ap, subst, ◌∙◌, inl, inr}
use Rattle.posting_rules.specs.declared.rows.ClosingRow.{ClosingRow}
use Rattle.posting_rules.specs.believed.Closings.{are_free, run_of, closings}
use Rattle.posting_rules.specs.believed.Commands.{Command, Close, opened}
use Rattle.posting_rules.specs.believed.Entries.{decided}
use Rattle.posting_rules.specs.believed.Tables.{Tables, HasRows, AreTablesOf, closing_key}
use Rattle.posting_rules.specs.{believed.Changes.tables_closed, ChangesByKey.GainsRow}
use Rattle.posting_rules.proofs.{Keyed.by_test, RowChanges.row_adds}
use Rattle.posting_rules.proofs.Closings.{closing_keys, free_shown, last_free}

-- the run of numbers that were free is added
pub run_gained : (t : Tables) (rows : List ClosingRow) (log : List Command) (first last : ℕ)
    → are_free (closings log) first last ≡ true → AreTablesOf t log
    → GainsRow closing_key (run_of first last) t.closings rows
    → AreTablesOf (record t { closings = rows }) (Close first last ∷ log)
run_gained t rows log first last free shows gains =
    let s = shows.rows in
    let u : Tables = record t { closings = rows } in
    let all = run_of first last ∷ closings log in
    let rows : HasRows u (λ b. opened log b) all (decided log) = record {
      decided = s.decided;
      branches = s.branches;
      tellers = s.tellers;
      accounts = s.accounts;
      history = s.history;
      requests = s.requests;
      floors = s.floors;
      references = s.references;
      closings = λ x. gains.rows x ∙ ap (cond (eqb last x) (Some (run_of first last))) (s.closings x);
      branch_keys = s.branch_keys;
      teller_keys = s.teller_keys;
      account_keys = s.account_keys;
      history_keys = s.history_keys;
      request_keys = s.request_keys;
      floor_keys = s.floor_keys;
      reference_keys = s.reference_keys;
      closing_keys = gains.keys;
    } in
    record {
      rows = subst (λ (runs : List ClosingRow). HasRows u (λ b. opened log b) runs (decided log))
          (sym (ap (λ (b : Bool). cond b all (closings log)) free)) rows;
    }

-- numbers that weren't all free stay as they were
pub run_refused : (t : Tables) (log : List Command) (first last : ℕ)
    → are_free (closings log) first last ≡ false → AreTablesOf t log → AreTablesOf t (Close first last ∷ log)
run_refused t log first last free shows = record {
  rows = subst (λ (runs : List ClosingRow). HasRows t (λ b. opened log b) runs (decided log))
      (sym (ap (λ (b : Bool). cond b (run_of first last ∷ closings log) (closings log)) free)) shows.rows;
}

pub closing_shown : (t : Tables) (log : List Command) (first last : ℕ) → AreTablesOf t log
    → AreTablesOf (tables_closed t first last) (Close first last ∷ log)
closing_shown t log first last shows =
    let s = shows.rows in
    let same = free_shown t.closings (closings log) s.closing_keys (closing_keys log) s.closings first last in
    elim (by_test (are_free (closings log) first last)) [
      | inl free ↦ rw (same ∙ free) (run_gained t _ log first last free shows
          (row_adds closing_key t.closings (run_of first last) s.closing_keys
          (s.closings last ∙ last_free log first last free)))
      | inr free ↦ rw (same ∙ free) (run_refused t log first last free shows)
    ]
