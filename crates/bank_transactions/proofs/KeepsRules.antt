-- Undamaged tables keep each of the ten rules, but that of the keys of new rows, of which more is known of a log.
use Rattle.std.proofs.Common.{◌≡◌, ◌≢◌, ◌≤◌, ℕ, pos, true, false, List, map, Option, Some, None}
use Rattle.std.proofs.Common.{Result, Ok, Err, option_map, refl, sym, ap, subst, ◌∙◌}
use Rattle.std.specs.Prelude.{◌≤ℤ◌, is_some, option_and_then}
use Rattle.std.specs.List.{Contains}
use Rattle.sqlite.specs.Effect.{Database}
use Rattle.message_records.specs.{believed.Ranges.whole_within, declared.limits.TheConstants.MAX_BRANCH}
use Rattle.posting_rules.specs.believed.Commands.{Terms, is_within}
use Rattle.posting_rules.specs.believed.Numbering.{branch_of_teller, branch_of_account, place_of_account}
use Rattle.posting_rules.specs.{believed.Damage.IsUndamaged, believed.LookUps.terms_of_branch, declared.fault.Rule.Rule}
use Rattle.posting_rules.specs.believed.LookUps.{balance_of_account, floor_in, lowest_of}
use Rattle.posting_rules.specs.believed.Tables.{Tables, row_at, account_key, branch_key, floor_key, teller_key}
use Rattle.posting_rules.specs.declared.fault.Rule.TheVariants.{Meta, Teller, Account, Balance, Key}
use Rattle.posting_rules.specs.declared.rows.{AccountRow.AccountRow, BranchRow.BranchRow, FloorRow.FloorRow}
use Rattle.sql_meanings.specs.believed.Entries.{Entry}
use Rattle.sqlite_rules.proofs.ListLemmas.{all_from, contains_had}
use Rattle.sqlite_trees.proofs.ListLemmas.{all-map}
use Rattle.store_rows.specs.{believed.Columns.number_at, Rules.stored_rows, declared.metas.TheConstants.VERSION}
use Rattle.store_rows.specs.believed.Readings.{read_account, read_branch, read_floor, read_posting, read_reference}
use Rattle.store_rows.specs.believed.Readings.{read_closing, read_request, read_teller}
use Rattle.store_rows.specs.believed.Rules.{AccountsFit, AreAbove, EachKeeps, IsBroken, IsWithinCount, KeepsRule}
use Rattle.store_rows.specs.believed.Rules.{KeepsTogether, NoneBreaks, TellersFit, branch_under}
use Rattle.store_rows.specs.believed.Rules.{floor_under, row_under}
use Rattle.store_rows.specs.believed.View.{Shows, account_entry, branch_entry, floor_entry, history_entry}
use Rattle.store_rows.specs.believed.View.{closing_entry, reference_entry, request_entry, teller_entry}
use Rattle.store_rows.proofs.Readings.{account_back, branch_back, floor_back, posting_back, reference_back}
use Rattle.store_rows.proofs.Readings.{closing_back, request_back, teller_back}
use Rattle.store_rows.proofs.{RowLists.found_row, RowLists.taken_row_key, StoredRows.holds_shown}
use Rattle.bank_transactions.proofs.FittingAccounts.{le_number, le_test, same_entry}
use Rattle.bank_transactions.proofs.SoundRows.{no_branch_beyond, no_floor_beyond, not_below, same_number}

-- ---- each row

module _ (t : Tables) (sound : IsUndamaged t) where
  -- each row reads as a value
  reads : {R X : Type 0} (entry : R → Entry) (read : Entry → Result X Rule) (rule : Rule) (rows : List R)
      → ((r : R) → Contains rows r → (x : X) × (read (entry r) ≡ Ok x)) → NoneBreaks rule read (map entry rows)
  reads entry read rule rows back = all-map (λ e. read e ≢ Err rule) entry rows (all_from _ rows
      (λ r has no. let it = back r (contains_had rows r has) in let is = it.1 in cc))

  -- so none breaks a rule
  pub each_keeps : (rule : Rule) → EachKeeps rule (stored_rows t)
  each_keeps rule = record {
    branches = reads branch_entry read_branch rule t.branches (λ r has. (r, branch_back r (sound.each_branch r has)));
    tellers = reads teller_entry read_teller rule t.tellers (λ r has. (r, teller_back r (sound.each_teller r has)));
    accounts = reads account_entry read_account rule t.accounts
        (λ r has. (r, account_back r (sound.each_account r has)));
    history = reads history_entry read_posting rule t.history
        (λ r has. ((r.ordinal, r.moment), posting_back r (sound.each_posting r has)));
    requests = reads request_entry read_request rule t.requests
        (λ r has. (r, request_back r (sound.each_request r has)));
    floors = reads floor_entry read_floor rule t.floors (λ r has. (r, floor_back r (sound.each_floor r has)));
    references = reads reference_entry read_reference rule t.references
        (λ r has. (r, reference_back r (sound.each_reference r has)));
    closings = reads closing_entry read_closing rule t.closings (λ r has. (r, closing_back r (sound.each_closing r has)));
  }

  -- ---- rows that belong together

  -- the row under the number of a branch, where no row has a number beyond those
  under_number : {R : Type 0} (key : R → ℕ) (entry : R → Entry) → ((r : R) → (entry r).key ≡ pos (key r))
      → (rows : List R) → ((n : ℕ) → whole_within 1 MAX_BRANCH n ≡ None → None ≡ row_at key rows n)
      → (n : ℕ) (o : Option ℕ) → whole_within 1 MAX_BRANCH n ≡ o
      → option_and_then (row_under (map entry rows)) o ≡ option_map entry (row_at key rows n)
  under_number key entry keyed rows beyond n None is = sym (ap (option_map entry) (sym (beyond n is)))
  under_number key entry keyed rows beyond n (Some m) is =
      ap (row_under (map entry rows)) (same_number n m is) ∙ found_row key entry keyed n rows

  -- the branch under a number
  pub under_is : (n : ℕ) → branch_under (stored_rows t) n
      ≡ option_map branch_entry (row_at branch_key t.branches n)
  under_is n =
      under_number branch_key branch_entry (λ _. refl) t.branches (λ k. no_branch_beyond t k sound) n
      (whole_within 1 MAX_BRANCH n) refl

  -- its floor
  pub floor_is : (n : ℕ) → floor_under (stored_rows t) n ≡ option_map floor_entry (row_at floor_key t.floors n)
  floor_is n =
      under_number floor_key floor_entry (λ _. refl) t.floors (λ k. no_floor_beyond t k sound) n
      (whole_within 1 MAX_BRANCH n) refl

  account_is : (n : ℕ) → row_under (map account_entry t.accounts) n
      ≡ option_map account_entry (row_at account_key t.accounts n)
  account_is n = found_row account_key account_entry (λ _. refl) n t.accounts

  -- ---- accounts above their floors

  stays_above : (n : ℕ) (a : Option AccountRow) (f : Option FloorRow)
      → row_at account_key t.accounts n ≡ a → row_at floor_key t.floors (branch_of_account n) ≡ f
      → (account floor : Entry) → option_map account_entry a ≡ Some account
      → option_map floor_entry f ≡ Some floor → number_at 0 floor ≤ℤ number_at 0 account
  stays_above n None f has its account floor is below = absurd cc
  stays_above n (Some r) None has its account floor is below = absurd cc
  stays_above n (Some r) (Some low) has its account floor is below =
      let one : account_entry r ≡ account = cc in
      let two : floor_entry low ≡ floor = cc in
      let above : low.lowest ≤ℤ r.balance =
      not_below t n r.balance low.lowest sound (ap (option_map balance_of_account) (sym has))
      (ap (option_map lowest_of) (sym its)) in
      subst (λ (e : Entry). number_at 0 floor ≤ℤ number_at 0 e) one
      (subst (λ (e : Entry). number_at 0 e ≤ℤ r.balance) two above)

  keeps_balance : AreAbove (stored_rows t)
  keeps_balance n least most account floor is below =
      stays_above n (row_at account_key t.accounts n)
      (row_at floor_key t.floors (branch_of_account n)) refl refl account floor
      (sym (account_is n) ∙ is) (sym (floor_is (branch_of_account n)) ∙ below)

  some_entry : {R : Type 0} (entry : R → Entry) (o : Option R) → is_some (option_map entry o) ≡ is_some o
  some_entry entry None = refl
  some_entry entry (Some r) = refl

  branch_there : (n : ℕ) → is_some (branch_under (stored_rows t) n) ≡ is_some (row_at branch_key t.branches n)
  branch_there n = ap is_some (under_is n) ∙ some_entry branch_entry (row_at branch_key t.branches n)

  teller_there : (n : ℕ) → 1 ≤ n → is_some (row_under (map teller_entry t.tellers) n)
      ≡ is_some (branch_under (stored_rows t) (branch_of_teller n))
  teller_there n least =
      taken_row_key teller_key teller_entry (λ _. refl) n t.tellers ∙ sound.tellers n least
      ∙ sym (branch_there (branch_of_teller n))

  keeps_teller : TellersFit (stored_rows t)
  keeps_teller n least most =
      (λ there. sym (teller_there n least) ∙ there, λ there. teller_there n least ∙ there)

  -- what the branch of an account was opened with
  abbrev its_terms : ℕ → BranchRow → Terms
  its_terms n = terms_of_branch (floor_in t (branch_of_account n))

  account_there : (n : ℕ) → 1 ≤ n → is_some (row_under (map account_entry t.accounts) n)
      ≡ is_within (place_of_account n)
      (option_map (its_terms n) (row_at branch_key t.branches (branch_of_account n)))
  account_there n least = taken_row_key account_key account_entry (λ _. refl) n t.accounts
      ∙ sound.accounts n least

  counted : (n : ℕ) (o : Option BranchRow) → branch_under (stored_rows t) (branch_of_account n)
      ≡ option_map branch_entry o
      → is_within (place_of_account n) (option_map (its_terms n) o) ≡ true → IsWithinCount (stored_rows t) n
  counted n None is within = absurd cc
  counted n (Some r) is within = (branch_entry r, is, le_number (place_of_account n) r.accounts within)

  uncounted : (n : ℕ) (o : Option BranchRow) → branch_under (stored_rows t) (branch_of_account n)
      ≡ option_map branch_entry o
      → IsWithinCount (stored_rows t) n → is_within (place_of_account n) (option_map (its_terms n) o) ≡ true
  uncounted n None is it = let found = it.1 in absurd cc
  uncounted n (Some r) is it =
      le_test (place_of_account n) r.accounts
      (subst (λ (e : Entry). pos (place_of_account n) ≤ℤ number_at 0 e)
      (same_entry (branch_under (stored_rows t) (branch_of_account n)) (branch_entry r) it.0 is it.1) it.2)

  keeps_account : AccountsFit (stored_rows t)
  keeps_account n least most = (
    λ there. counted n (row_at branch_key t.branches (branch_of_account n)) (under_is (branch_of_account n))
        (sym (account_there n least) ∙ there),
    λ it. account_there n least ∙ uncounted n (row_at branch_key t.branches (branch_of_account n))
        (under_is (branch_of_account n)) it,
  )

  -- ---- keys that are free

  none_there : (o : Option Entry) → is_some o ≡ false → o ≡ None
  none_there None is = refl
  none_there (Some r) is = absurd cc

  pub no_teller : (n : ℕ) → 1 ≤ n → branch_under (stored_rows t) (branch_of_teller n) ≡ None
      → row_under (map teller_entry t.tellers) n ≡ None
  no_teller n least none = none_there (row_under (map teller_entry t.tellers) n)
      (teller_there n least ∙ ap is_some none)

  not_within : (n : ℕ) (o : Option BranchRow) → option_map branch_entry o ≡ None
      → is_within (place_of_account n) (option_map (its_terms n) o) ≡ false
  not_within n None none = refl
  not_within n (Some r) none = absurd cc

  pub no_account : (n : ℕ) → 1 ≤ n → branch_under (stored_rows t) (branch_of_account n) ≡ None
      → row_under (map account_entry t.accounts) n ≡ None
  no_account n least none =
      none_there (row_under (map account_entry t.accounts) n)
      (account_there n least
      ∙ not_within n (row_at branch_key t.branches (branch_of_account n))
      (sym (under_is (branch_of_account n)) ∙ none))

  unmapped : (o : Option BranchRow) → option_map branch_entry o ≡ None → o ≡ None
  unmapped None none = refl
  unmapped (Some r) none = absurd cc

  pub no_floor : (n : ℕ) → branch_under (stored_rows t) n ≡ None → row_under (map floor_entry t.floors) n ≡ None
  no_floor n none =
      found_row floor_key floor_entry (λ _. refl) n t.floors
      ∙ ap (option_map floor_entry)
      (sound.floors n (unmapped (row_at branch_key t.branches n) (sym (under_is n) ∙ none)))

together : (t : Tables) → IsUndamaged t → (rule : Rule) → rule ≢ Key → KeepsTogether rule (stored_rows t)
together t sound Meta other = (t.decided, (VERSION, refl), sound.decided)
together t sound Teller other = keeps_teller t sound
together t sound Account other = keeps_account t sound
together t sound Balance other = keeps_balance t sound
together t sound Key other = absurd (other refl)
together t sound rule other = tt

-- undamaged tables keep each rule but the one of new keys
pub keeps_rule : (t : Tables) → IsUndamaged t → (rule : Rule) → rule ≢ Key → KeepsRule rule (stored_rows t)
keeps_rule t sound rule other = (each_keeps t sound rule, together t sound rule other)

-- so no file that shows them breaks a rule
pub unbroken : (db : Database) (t : Tables) → Shows db t → IsUndamaged t → (rule : Rule) → IsBroken rule db → ⊥
unbroken db t shows sound Key broken = broken (stored_rows t) (holds_shown db t shows) (each_keeps t sound Key)
unbroken db t shows sound rule broken =
    broken (stored_rows t) (holds_shown db t shows) (keeps_rule t sound rule (λ is. cc))
