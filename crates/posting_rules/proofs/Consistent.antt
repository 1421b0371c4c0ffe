-- The tables of a log are consistent: one sum, each branch the sum of its tellers, and a row of history for
-- each posting.
use Rattle.std.proofs.Common.{◌≡◌, ℕ, ◌+◌, ◌<◌, Bool, true, false, cond, eqb, leb, List, [], ◌∷◌, length, map, Option}
use Rattle.std.proofs.Common.{Some, None, refl, sym, ap, ◌∙◌, arith, inl, inr}
use Rattle.std.specs.Prelude.{◌&&◌, ℤ, pos, ◌+ℤ◌, is_some}
use Rattle.std.specs.List.{AllByRecursion}
use Rattle.std.proofs.{Math.IntN.+ℤ_idl, lemmas.Bool.eqb-true, lemmas.Bool.eq-eqb, lemmas.Bool.Decides.nat_tests}
use Rattle.std.proofs.lemmas.Bool.{and_parts}
use Rattle.posting_rules.specs.{declared.rows.HistoryRow.HistoryRow, believed.Numbering.branch_of_teller}
use Rattle.posting_rules.specs.believed.Commands.{Command, opened, Terms}
use Rattle.posting_rules.specs.believed.Entries.{DecidedRequest, is_posted, posted_sum, branch_balance, decided}
use Rattle.posting_rules.specs.believed.Tables.{Tables, HasRows, AreTablesOf, row_at, branch_key, teller_key}
use Rattle.posting_rules.specs.believed.Tables.{account_key, history_key, history_row, history_row_of, request_row}
use Rattle.posting_rules.specs.believed.LookUps.{balance_of_branch, balance_of_teller, balance_of_account}
use Rattle.posting_rules.specs.believed.Laws.{total, delta_of, tellers_of, Match, IsConsistent}
use Rattle.posting_rules.proofs.{Keyed.by_test, NamedOpen.AllNameOpen, NamedOpen.all_name_open}
use Rattle.posting_rules.proofs.Totals.{sum_where, spread, values_are, filter_all, each_under_its_key, all_follow}
use Rattle.posting_rules.proofs.PostedSums.{posted_at, all_posted, sum_at, one_sum, teller_has, account_has}
use Rattle.posting_rules.proofs.PostedSums.{branch_has, tellers_have, accounts_have, branches_have}
use Rattle.posting_rules.specs.declared.rows.ClosingRow.{ClosingRow}

-- ---- history

late : (n o : ℕ) → n < o → eqb n o ≡ false
late n o lt = grind (arith, nat_tests)

nothing_past : (es : List DecidedRequest) (o : ℕ) → length es < o → sum_where (λ k. eqb k o) (posted_at es)
    ≡ pos 0
nothing_past [] o lt = refl
nothing_past (e ∷ es) o lt =
    elim (by_test (is_posted e)) [
      | inl p ↦ rw (p, late (length es + 1) o (omega arith)) (nothing_past es o (omega arith))
      | inr f ↦ rw f (nothing_past es o (omega arith))
    ]

-- a row of history has what was posted under its ordinal
row_has_delta : (es : List DecidedRequest) (o : ℕ) (r : HistoryRow) → history_row es o ≡ Some r
    → delta_of r ≡ sum_where (λ k. eqb k o) (posted_at es)
row_has_delta [] o r e = absurd cc
row_has_delta (d ∷ es) o r e =
    elim (by_test (is_posted d)) [
      | inl p ↦ elim (by_test (eqb (length es + 1) o)) [
        | inl t ↦
            let is : history_row_of o d ≡ r = (let h = rw (p, t) at e in cc) in
            let last : length es < o = (let k = eqb-true _ _ t in omega arith) in
            rw (p, t, nothing_past es o last) (sym (ap delta_of is) ∙ sym (+ℤ_idl d.request.delta))
        | inr f ↦ rw (p, f) (row_has_delta es o r (let h = rw (p, f) at e in h))
      ]
      | inr f ↦ rw f (row_has_delta es o r (let h = rw f at e in h))
    ]

history_has : {runs : List ClosingRow} (t : Tables) (opened : ℕ → Option Terms) (es : List DecidedRequest) → HasRows t opened runs es
    → AllByRecursion (λ r. delta_of r ≡ sum_where (λ k. eqb k (history_key r)) (posted_at es)) t.history
history_has t opened es s =
    all_follow (λ r. row_at history_key t.history (history_key r) ≡ Some r)
    (λ r. delta_of r ≡ sum_where (λ k. eqb k (history_key r)) (posted_at es)) t.history
    (λ r e. row_has_delta es r.ordinal r (sym (s.history r.ordinal) ∙ e))
    (each_under_its_key history_key t.history s.history_keys)

-- each posting has a row, also after further requests
posted_has_row : (es : List DecidedRequest) (e : DecidedRequest) → is_posted e ≡ true
    → is_some (history_row (e ∷ es) (length es + 1)) ≡ true
posted_has_row es e p = rw (p, eq-eqb (length es + 1) (length es + 1) refl) refl

-- the postings of a list have rows in a history that has those of the list
have_at : (es : List DecidedRequest) (row : ℕ → Bool)
    → ((o : ℕ) → is_some (history_row es o) ≡ true → row o ≡ true)
    → AllByRecursion (λ p. row p.0 ≡ true) (posted_at es)
have_at [] row h = tt
have_at (e ∷ es) row h =
    elim (by_test (is_posted e)) [
      | inl p ↦ rw p (h (length es + 1) (posted_has_row es e p), have_at es row (λ o s. h o (still p o s)))
      | inr f ↦ rw f (have_at es row (λ o s. h o (rw f s)))
    ]
  where
    still : (p : is_posted e ≡ true) (o : ℕ) → is_some (history_row es o) ≡ true
        → is_some (history_row (e ∷ es) o) ≡ true
    still p o s = elim (by_test (eqb (length es + 1) o)) [ inl t ↦ rw (p, t) refl | inr f ↦ rw (p, f) s ]

-- ---- requests and history match

match_past : (es : List DecidedRequest) (o : ℕ) → length es < o
    → (request_row es o ≡ None) × (history_row es o ≡ None)
match_past [] o lt = (refl, refl)
match_past (e ∷ es) o lt =
    let rest = match_past es o (omega arith) in
    let later = late (length es + 1) o (omega arith) in
    (rw later rest.0, elim (by_test (is_posted e)) [ inl p ↦ rw (p, later) rest.1 | inr f ↦ rw f rest.1 ])

rows_match : (es : List DecidedRequest) (o : ℕ) → Match (request_row es o) (history_row es o)
rows_match [] o = tt
rows_match (e ∷ es) o =
    elim (by_test (eqb (length es + 1) o)) [
      | inl t ↦
          let past = match_past es o (let k = eqb-true _ _ t in omega arith) in
          elim (by_test (is_posted e)) [
            | inl p ↦ rw (t, p) (p, refl, refl, refl, refl)
            | inr f ↦ rw (t, f, past.1) (λ p. absurd (let g = sym f ∙ p in cc))
          ]
      | inr other ↦ elim (by_test (is_posted e)) [
        | inl p ↦ rw (p, other) (rows_match es o)
        | inr f ↦ rw (f, other) (rows_match es o)
      ]
    ]

-- ---- the condition

-- a posting's branch is its teller's, so that both have it
same_branch : (opened : ℕ → Option Terms) (es : List DecidedRequest) (b : ℕ) → AllNameOpen opened es
    → posted_sum (λ r. leb 1 r.teller && eqb (branch_of_teller r.teller) b) es ≡ posted_sum
    (λ r. eqb r.branch b) es
same_branch opened [] b h = refl
same_branch opened (e ∷ es) b h =
    elim (by_test (is_posted e)) [
      | inl p ↦ let its : branch_of_teller e.request.teller ≡ e.request.branch = sym (h.0.branch p) in
          let low = (and_parts (leb 1 e.request.teller) (is_some (opened (branch_of_teller e.request.teller)))
          (h.0.teller p)).0 in
          rw (p, low, its) (ap (λ (z : ℤ). cond (eqb e.request.branch b) (z +ℤ e.request.delta) z)
          (same_branch opened es b h.1))
      | inr f ↦ rw f (same_branch opened es b h.1)
    ]

pub consistent : (t : Tables) (log : List Command) → AreTablesOf t log → IsConsistent t
consistent t log shows =
    let s = shows.rows in
    let es = decided log in
    let open_ = λ (b : ℕ). opened log b in
    let named = all_name_open log in
    let accounts : total (map balance_of_account t.accounts) ≡ all_posted es =
    ap (λ rows. total (map balance_of_account rows)) (sym (filter_all t.accounts))
    ∙ one_sum account_key balance_of_account (λ r. r.account) (λ k. true) t.accounts es s.account_keys
    (account_has t open_ es s) (accounts_have t open_ es es s named) in
    let tellers : total (map balance_of_teller t.tellers) ≡ all_posted es =
    ap (λ rows. total (map balance_of_teller rows)) (sym (filter_all t.tellers))
    ∙ one_sum teller_key balance_of_teller (λ r. r.teller) (λ k. true) t.tellers es s.teller_keys
    (teller_has t open_ es s) (tellers_have t open_ es es s named) in
    let branches : total (map balance_of_branch t.branches) ≡ all_posted es =
    ap (λ rows. total (map balance_of_branch rows)) (sym (filter_all t.branches))
    ∙ one_sum branch_key balance_of_branch (λ r. r.branch) (λ k. true) t.branches es s.branch_keys
    (branch_has t open_ es s) (branches_have t open_ es es s named) in
    let history : total (map delta_of t.history) ≡ all_posted es =
    ap (λ rows. total (map delta_of rows)) (sym (filter_all t.history))
    ∙ values_are delta_of (λ r. sum_where (λ k. eqb k (history_key r)) (posted_at es)) (λ r. true) t.history
    (history_has t open_ es s)
    ∙ spread history_key (λ k. true) t.history (posted_at es) s.history_keys
    (have_at es (λ o. is_some (row_at history_key t.history o)) (λ o h. ap is_some (s.history o) ∙ h))
    ∙ sum_at es in
    record {
      tellers = tellers ∙ sym accounts;
      branches = branches ∙ sym accounts;
      each_branch = all_follow (λ r. balance_of_branch r ≡ branch_balance es r.branch)
          (λ r. total (map balance_of_teller (tellers_of r.branch t.tellers)) ≡ r.balance) t.branches
          (λ r e. one_sum teller_key balance_of_teller (λ x. x.teller)
          (λ k. leb 1 k && eqb (branch_of_teller k) r.branch) t.tellers es s.teller_keys
          (teller_has t open_ es s) (tellers_have t open_ es es s named)
          ∙ same_branch open_ es r.branch named ∙ sym e)
          (branch_has t open_ es s);
      matched = λ o. rw (s.requests o, s.history o) (rows_match es o);
      history = history ∙ sym accounts;
    }
