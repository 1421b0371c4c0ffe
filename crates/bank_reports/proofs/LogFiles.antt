-- The file of a bank that shows a log.
use Rattle.std.proofs.Common.{◌≡◌, ◌<◌, ℕ, pos, true, false, List, [], ◌∷◌, map, Less, int_cmp, refl, sym}
use Rattle.std.proofs.Common.{subst, inl, inr, arith}
use Rattle.std.specs.{Prelude.nat_eq, Prelude.IsTrue, List.AllByRecursion, List.IsDistinct}
use Rattle.std.proofs.lemmas.{Bool.cases_Bool, Bool.eqb-true, Int.ints}
use Rattle.sqlite.specs.Effect.{Database}
use Rattle.posting_rules.specs.{believed.Commands.Command, believed.Commands.AreCommands}
use Rattle.posting_rules.specs.{believed.Laws.IsConsistent}
use Rattle.posting_rules.specs.believed.Tables.{Tables, AreTablesOf, history_key, request_key}
use Rattle.posting_rules.specs.declared.fault.Rule.{Rule}
use Rattle.posting_rules.proofs.Consistent.{consistent}
use Rattle.sql_meanings.specs.believed.Entries.{Entry, Rise}
use Rattle.store_rows.specs.believed.BankTables as bank
use Rattle.store_rows.specs.believed.View as view
use Rattle.store_rows.specs.believed.View.{Shows}
use Rattle.walked_rows.specs.{Broken.HasBroken, Rows.HasStoredRows, StepOutcomes.BreaksBy}
use Rattle.walked_rows.specs.Stored.{account_entry, branch_entry, posting_entry, request_entry, teller_entry}
use Rattle.walked_rows.specs.Stored.{account_of, branch_of, posting_of, request_of, teller_of}
use Rattle.walked_rows.proofs.Unbroken.{no_account, no_branch, no_posting, no_request, no_teller}
use Rattle.walked_rows.proofs.Shown.{has_accounts, has_branches, has_history, has_requests, has_tellers}
use Rattle.report_contents.specs.Audit.{audit_of, is_sound, posting_ordinal, request_ordinal}
use Rattle.report_contents.specs.Consistency.{HasOrdinals}
use Rattle.report_contents.specs.Stored.{StoredTables, account_stored, branch_stored, posting_stored, request_stored}
use Rattle.report_contents.specs.Stored.{stored, teller_stored}
use Rattle.report_contents.proofs.OfTables.{tells_of_tables}
use Rattle.bank_reports.specs.Files.{HasBrokenRow, HasFile, rows_in}

-- ---- keys that rise are distinct

apart : (m n : ℕ) → int_cmp (pos m) (pos n) ≡ Less → nat_eq m n ≡ false
apart m n is =
    let low : m < n = grind (arith, ints) in
    elim (cases_Bool (nat_eq m n)) [
      | inl t ↦ absurd (let e = eqb-true m n t in omega (arith, low, e))
      | inr f ↦ f
    ]

keys_rise : {R : Type 0} (entry : R → Entry) (ordinal : R → ℕ)
    → ((r : R) → (entry r).key ≡ pos (ordinal r)) → (rs : List R) → Rise (map entry rs)
    → IsDistinct nat_eq (map ordinal rs)
unfolding IsDistinct
keys_rise entry ordinal is [] rise = tt
keys_rise {R} entry ordinal is (r ∷ rs) rise = (above rs rise.0, keys_rise entry ordinal is rs rise.1)
  where
    above : (xs : List R)
        → AllByRecursion (λ (e : Entry). int_cmp (entry r).key e.key ≡ Less) (map entry xs)
        → AllByRecursion (λ k. nat_eq (ordinal r) k ≡ false) (map ordinal xs)
    above [] all = tt
    above (x ∷ xs) all = (apart (ordinal r) (ordinal x) (rw (is r, is x) at all.0), above xs all.1)

-- no two rows of a file have one ordinal
pub has_ordinals : (db : Database) (t : StoredTables) → HasFile db (rows_in t) → HasOrdinals t
has_ordinals db t has = record {
  requests = keys_rise request_entry request_ordinal (λ r. refl) t.requests has.requests.holds.rows.rise;
  history = keys_rise posting_entry posting_ordinal (λ r. refl) t.history has.history.holds.rows.rise;
}

-- ---- the rows of a bank's tables

twice : {X Y Z : Type 0} (f : X → Y) (g : Y → Z) (h : X → Z) → ((x : X) → h x ≡ g (f x))
    → (xs : List X) → map h xs ≡ map g (map f xs)
twice f g h is [] = refl
twice f g h is (x ∷ xs) = rw (is x, twice f g h is xs) refl

pub has_file : (db : Database) (t : Tables) → Shows db t → HasFile db (rows_in (stored t))
has_file db t shows = record {
  branches = subst (HasStoredRows db bank.branch)
      (twice branch_stored branch_entry view.branch_entry (λ r. refl) t.branches) (has_branches db t shows);
  tellers = subst (HasStoredRows db bank.teller)
      (twice teller_stored teller_entry view.teller_entry (λ r. refl) t.tellers) (has_tellers db t shows);
  accounts = subst (HasStoredRows db bank.account)
      (twice account_stored account_entry view.account_entry (λ r. refl) t.accounts)
      (has_accounts db t shows);
  history = subst (HasStoredRows db bank.history)
      (twice posting_stored posting_entry view.history_entry (λ r. refl) t.history) (has_history db t shows);
  requests = subst (HasStoredRows db bank.request)
      (twice request_stored request_entry view.request_entry (λ r. refl) t.requests)
      (has_requests db t shows);
}

-- the audit of a bank's tables says that they are consistent exactly where they are
pub tells_in_file : (db : Database) (t : Tables) → Shows db t
    → (IsTrue (is_sound (audit_of (stored t))) → IsConsistent t)
    × (IsConsistent t → IsTrue (is_sound (audit_of (stored t))))
tells_in_file db t shows =
    let keys = has_ordinals db (stored t) (has_file db t shows) in
    tells_of_tables t
    (subst (IsDistinct nat_eq) (sym (twice posting_stored posting_ordinal history_key (λ r. refl) t.history))
    keys.history)
    (subst (IsDistinct nat_eq)
    (sym (twice request_stored request_ordinal request_key (λ r. refl) t.requests)) keys.requests)

-- the audit of a log's tables says that they are consistent
pub balanced : (t : Tables) (log : List Command) → AreTablesOf t log → is_sound (audit_of (stored t)) ≡ true
balanced t log shows =
    (tells_of_tables t shows.rows.history_keys shows.rows.request_keys).1 (consistent t log shows)

-- ---- none of them is broken

module _ (t : Tables) (log : List Command) (are : AreCommands log) (shows : AreTablesOf t log) (broken : Rule) where
  pub not_damaged : HasBrokenRow broken (rows_in (stored t)) → ⊥
  not_damaged (inl h) = no_branch t log are shows broken (subst (HasBroken (BreaksBy branch_of broken))
      (sym (twice branch_stored branch_entry view.branch_entry (λ r. refl) t.branches)) h)
  not_damaged (inr (inl h)) = no_teller t log are shows broken (subst (HasBroken (BreaksBy teller_of broken))
      (sym (twice teller_stored teller_entry view.teller_entry (λ r. refl) t.tellers)) h)
  not_damaged (inr (inr (inl h))) = no_account t log are shows broken (subst (HasBroken (BreaksBy account_of broken))
      (sym (twice account_stored account_entry view.account_entry (λ r. refl) t.accounts)) h)
  not_damaged (inr (inr (inr (inl h)))) = no_posting t log are shows broken (subst (HasBroken (BreaksBy posting_of broken))
      (sym (twice posting_stored posting_entry view.history_entry (λ r. refl) t.history)) h)
  not_damaged (inr (inr (inr (inr h)))) = no_request t log are shows broken (subst (HasBroken (BreaksBy request_of broken))
      (sym (twice request_stored request_entry view.request_entry (λ r. refl) t.requests)) h)
