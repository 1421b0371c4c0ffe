-- Rows in the order in which they came: one is put in after the others, and tables with a branch more show the
-- log with its opening.
use Rattle.std.proofs.Common.{◌≡◌, ℕ, ◌+◌, ◌≤◌, ltb, Bool, cond, true, false, List, [], ◌∷◌, ◌++◌, Option, Some, None, refl, sym, ap}
use Rattle.std.proofs.Common.{◌∙◌, arith}
use Rattle.std.specs.{Prelude.ℤ, Prelude.pos, Prelude.All, List.AllByRecursion, Option.option_map}
use Rattle.std.proofs.lemmas.{List.Elements.recursion_from_All, Bool.Decides.nat_tests}
use Rattle.posting_rules.specs.{declared.rows.FloorRow.FloorRow, declared.rows.ReferenceRow.ReferenceRow}
use Rattle.posting_rules.specs.{believed.LookUps.floor_in, believed.LookUps.terms_of_branch, ChangesByKey.AddsFloor}
use Rattle.posting_rules.specs.declared.limits.TheConstants.{MAX_ACCOUNTS}
use Rattle.posting_rules.specs.believed.Changes.{row_changed, row_put, reference_put, tables_kept, tables_posted}
use Rattle.posting_rules.specs.believed.Changes.{with_decided, with_request, with_reference, with_history}
use Rattle.posting_rules.specs.believed.Changes.{with_branch_balance, with_teller_balance, with_account_balance}
use Rattle.posting_rules.specs.believed.Changes.{new_teller, new_account}
use Rattle.posting_rules.specs.believed.Commands.{Command, Open, Close, Terms, opened}
use Rattle.posting_rules.specs.believed.Entries.{DecidedRequest, decided}
use Rattle.posting_rules.specs.believed.Tables.{Tables, AreTablesOf, row_at, branch_key, teller_key, account_key}
use Rattle.posting_rules.specs.believed.Tables.{history_key, request_key, branch_row_of, history_row_of}
use Rattle.posting_rules.specs.believed.Tables.{request_row_of, HasKeys, floor_key, floor_row_of, reference_key}
use Rattle.posting_rules.specs.believed.Tables.{reference_row_of}
use Rattle.posting_rules.specs.ChangesByKey as steps
use Rattle.posting_rules.specs.believed.Numbering.{branch_of_teller, first_teller, first_account}
use Rattle.posting_batch.specs.Judging.{reference_after}
use Rattle.posting_core.specs.Appended.{HasOrdinalsTo, appended_opened, appended_run, floor_after}
use Rattle.posting_rules.proofs.{Looked.terms_shown, TablesWithBranch.opening_shown}
use Rattle.posting_rules.proofs.Ready.{ready_shown, no_teller, no_account}
use Rattle.posting_core.proofs.RowsAfter.{row_after, rows_after}
use Rattle.posting_rules.specs.declared.closed_numbers.Closing.TheVariants as answer
use Rattle.posting_rules.specs.believed.Closings.{are_free, closings, run_of}
use Rattle.posting_rules.specs.Closings.{closing_for}
use Rattle.posting_rules.specs.believed.Tables.{closing_key}
use Rattle.posting_rules.proofs.{ClosedTables.run_gained, ClosedTables.run_refused}
use Rattle.posting_rules.proofs.Closings.{closing_keys, free_shown, last_free}

-- ---- rows of requests

lower : (n last k : ℕ) → n ≤ last → k ≡ last + 1 → ltb n k ≡ true
lower n last k le is = grind (arith, nat_tests)

-- after the others is where a row under the next ordinal is put in
put_next : {R : Type 0} (key : R → ℕ) (last : ℕ) (x : R) (rows : List R)
    → AllByRecursion (λ r. key r ≤ last) rows → key x ≡ last + 1 → rows ++ x ∷ [] ≡ row_put key x rows
put_next key last x [] all next = refl
put_next key last x (r ∷ rows) all next =
    rw (lower (key r) last (key x) all.0 next) (ap (λ xs. r ∷ xs) (put_next key last x rows all.1 next))

next_after : {R : Type 0} (key : R → ℕ) (last : ℕ) (x : R) (rows : List R) → All (λ r. key r ≤ last) rows
    → key x ≡ last + 1 → rows ++ x ∷ [] ≡ row_put key x rows
next_after key last x rows all next =
    put_next key last x rows (recursion_from_All (λ r. key r ≤ last) rows all) next

reference_next : (last : ℕ) (reference : Option (List ℕ)) (rows : List ReferenceRow)
    → All (λ r. r.ordinal ≤ last) rows
    → reference_after (last + 1) reference rows ≡ reference_put (last + 1) reference rows
reference_next last None rows all = refl
reference_next last (Some text) rows all =
    next_after reference_key last (reference_row_of (last + 1) text) rows all refl

-- where a request is kept, and where it is posted with these new balances
pub kept_is : (t : Tables) (e : DecidedRequest) → HasOrdinalsTo t.decided t.history t.requests t.references
    → (let u : Tables = record t {
      decided = t.decided + 1;
      requests = t.requests ++ request_row_of (t.decided + 1) e ∷ [];
      references = reference_after (t.decided + 1) e.request.reference t.references;
    } in u) ≡ tables_kept t (t.decided + 1) e
unfolding with_decided with_request with_reference
kept_is t e to =
    rw (
      next_after request_key t.decided (request_row_of (t.decided + 1) e) t.requests to.requests refl,
      reference_next t.decided e.request.reference t.references to.references,
    ) refl

pub posted_is : (t : Tables) (e : DecidedRequest) (te b : ℤ)
    → HasOrdinalsTo t.decided t.history t.requests t.references
    → (let u : Tables = record {
      decided = t.decided + 1;
      branches = row_changed branch_key (steps.with_branch_balance b)
          (branch_of_teller e.request.teller) t.branches;
      tellers = row_changed teller_key (steps.with_teller_balance te) e.request.teller t.tellers;
      accounts = row_changed account_key (steps.with_account_balance e.balance) e.request.account t.accounts;
      history = t.history ++ history_row_of (t.decided + 1) e ∷ [];
      requests = t.requests ++ request_row_of (t.decided + 1) e ∷ [];
      floors = t.floors;
      references = reference_after (t.decided + 1) e.request.reference t.references;
      closings = t.closings;
    } in u) ≡ tables_posted t (t.decided + 1) e te b
unfolding with_decided with_request with_reference with_history
    with_branch_balance with_teller_balance with_account_balance
posted_is t e te b to =
    rw (
      next_after history_key t.decided (history_row_of (t.decided + 1) e) t.history to.history refl,
      next_after request_key t.decided (request_row_of (t.decided + 1) e) t.requests to.requests refl,
      reference_next t.decided e.request.reference t.references to.references,
    ) refl

-- ---- an opening

-- the floor that is put after the others
floor_adds : (b : ℕ) (floor : Option ℤ) (rows : List FloorRow) → HasKeys floor_key rows
    → row_at floor_key rows b ≡ None → AddsFloor b floor rows (floor_after b floor rows)
floor_adds b None rows keys free = refl
floor_adds b (Some lowest) rows keys free = row_after floor_key rows (floor_row_of b lowest) keys free

-- numbers that were free are closed after the others
pub closed_shown : (t : Tables) (log : List Command) (first last : ℕ)
    → closing_for t.closings first last ≡ answer.Closed → AreTablesOf t log
    → AreTablesOf (appended_run t (run_of first last)) (Close first last ∷ log)
closed_shown t log first last is shows =
    let s = shows.rows in
    let free : are_free (closings log) first last ≡ true =
    sym (free_shown t.closings (closings log) s.closing_keys (closing_keys log) s.closings first last)
    ∙ free_where (are_free t.closings first last) _ is in
    run_gained t _ log first last free shows
    (row_after closing_key t.closings (run_of first last) s.closing_keys
    (s.closings last ∙ last_free log first last free))
  where
    free_where : (b c : Bool) → cond b answer.Closed (cond c answer.Already answer.Overlaps) ≡ answer.Closed
        → b ≡ true
    free_where true c e = refl
    free_where false true e = absurd cc
    free_where false false e = absurd cc

-- where they weren't, nothing changes
pub unclosed_shown : (t : Tables) (log : List Command) (first last : ℕ)
    → (closing_for t.closings first last ≡ answer.Closed → ⊥) → AreTablesOf t log
    → AreTablesOf t (Close first last ∷ log)
unclosed_shown t log first last other shows =
    let s = shows.rows in
    let free : are_free (closings log) first last ≡ false =
    sym (free_shown t.closings (closings log) s.closing_keys (closing_keys log) s.closings first last)
    ∙ not_free (are_free t.closings first last) _ other in
    run_refused t log first last free shows
  where
    not_free : (b c : Bool) → (cond b answer.Closed (cond c answer.Already answer.Overlaps) ≡ answer.Closed → ⊥)
        → b ≡ false
    not_free true c h = absurd (h refl)
    not_free false c h = refl

-- the tables with a branch that wasn't open show the log with its opening
pub opened_shown : (t : Tables) (log : List Command) (b : ℕ) (terms : Terms)
    → row_at branch_key t.branches b ≡ None → 1 ≤ b → terms.accounts ≤ MAX_ACCOUNTS → AreTablesOf t log
    → AreTablesOf (appended_opened t b terms) (Open b terms ∷ log)
opened_shown t log b terms closed hb hc s =
    let ready = ready_shown t log s in
    opening_shown t (appended_opened t b terms) log b terms
    (sym (terms_shown t (λ x. opened log x) (decided log) b s.rows)
    ∙ ap (option_map (terms_of_branch (floor_in t b))) closed) hb hc s
    (record {
      decided = refl;
      branches = row_after branch_key t.branches
          (branch_row_of b (pos 0) terms) ready.branches closed;
      tellers = rows_after teller_key new_teller (first_teller b) 10 t.tellers (λ _. refl) ready.tellers
          (λ n lt. no_teller t b n ready hb closed lt);
      accounts = rows_after account_key new_account (first_account b) terms.accounts t.accounts
          (λ _. refl) ready.accounts
          (λ n lt. no_account t b n ready hb closed (omega arith));
      history = refl;
      requests = refl;
      references = refl;
      closings = refl;
      floors = floor_adds b terms.floor t.floors ready.floors (ready.its_floors b closed);
    })
