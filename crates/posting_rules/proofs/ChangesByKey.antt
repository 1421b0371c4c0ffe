-- What the statements of a posting and of an opening leave of sound tables.
use Rattle.std.proofs.Common.{◌≡◌, ℕ, suc, ◌+◌, ◌<◌, ◌≤◌, List, Option, Some, None, refl, ap, ◌∙◌, arith}
use Rattle.std.specs.{Prelude.ℤ, Prelude.pos, Prelude.is_some, Prelude.IsSome, Option.option_map}
use Rattle.message_records.specs.believed.Records.{RequestFields}
use Rattle.posting_rules.specs.declared.judgments.Verdict.TheVariants.{Posted}
use Rattle.posting_rules.specs.{declared.rows.FloorRow.FloorRow, believed.Cases.case_of}
use Rattle.posting_rules.specs.{believed.Entries.DecidedRequest, ChangesByKey.AddsFloor, ChangesByKey.OpensBranch}
use Rattle.posting_rules.specs.{Sound.AreSound, declared.limits.TheConstants.MAX_ACCOUNTS}
use Rattle.posting_rules.specs.believed.Commands.{Command, AreCommands, Terms}
use Rattle.posting_rules.specs.believed.Tables.{Tables, AreTablesOf, HasKeys, row_at, branch_key, teller_key}
use Rattle.posting_rules.specs.believed.Tables.{account_key, branch_row_of, floor_key, floor_row_of}
use Rattle.posting_rules.specs.believed.LookUps.{both_of, balance_of_branch, balance_of_teller, balance_of_account}
use Rattle.posting_rules.specs.believed.LookUps.{found_in}
use Rattle.posting_rules.specs.believed.Numbering.{branch_of_teller, first_teller, first_account}
use Rattle.posting_rules.proofs.{Undamaged.undamaged, Ready.AreReady, Ready.ready_sound, Ready.no_teller}
use Rattle.posting_rules.proofs.{Ready.no_account, RowChanges.row_adds, RowChanges.rows_add, RowChanges.next_is_free}
use Rattle.posting_rules.proofs.Verdicts.{by_case}
use Rattle.posting_rules.specs.believed.Changes.{rows_put, new_teller, new_account, with_branch_balance}
use Rattle.posting_rules.specs.believed.Changes.{with_teller_balance, with_account_balance, with_branch, with_history}
use Rattle.posting_rules.specs.believed.Changes.{with_floor, floor_put, tables_moved, with_tellers, with_accounts}
use Rattle.posting_rules.specs.believed.Changes.{tables_opened}
use Rattle.posting_rules.specs.Changes.{with_teller, with_account, HasRowsOf}

-- the tables that a log of commands leads to are sound
pub sound_tables : (t : Tables) (log : List Command) → AreCommands log → AreTablesOf t log → AreSound t
sound_tables t log are shows = record {
  undamaged = undamaged t log are shows;
  branches = shows.rows.branch_keys;
  tellers = shows.rows.teller_keys;
  accounts = shows.rows.account_keys;
  history = shows.rows.history_keys;
  requests = shows.rows.request_keys;
  floors = shows.rows.floor_keys;
  references = shows.rows.reference_keys;
}

-- the writes of a posting leave the decided requests
pub requests_as_before : (t : Tables) (ordinal : ℕ) (e : DecidedRequest) (teller branch : ℤ)
    → (tables_moved t ordinal e teller branch).requests ≡ t.requests
unfolding with_history with_branch_balance with_teller_balance with_account_balance
requests_as_before t ordinal e teller branch = refl

-- ---- the rows that a posting changes

some_mapped : {A B : Type 0} (f : A → B) (o : Option A) (y : B) → option_map f o ≡ Some y → IsSome o
some_mapped f (Some x) y e = refl
some_mapped f None y e = absurd cc

both_there : (a b : Option ℤ) (z : ℤ × ℤ) → both_of a b ≡ Some z → IsSome a × IsSome b
both_there (Some x) (Some y) z e = (refl, refl)
both_there (Some x) None z e = absurd cc
both_there None b z e = absurd cc

there_unmapped : {A B : Type 0} (f : A → B) (o : Option A) → IsSome (option_map f o) → IsSome o
there_unmapped f (Some x) h = refl
there_unmapped f None h = absurd cc

-- they are there where a request is posted
pub posted_rows : (t : Tables) (r : RequestFields) (a te b : ℤ) → case_of (found_in t r) r ≡ Posted a te b
    → HasRowsOf t r
posted_rows t r a te b =
    let its_teller = row_at teller_key t.tellers r.teller in
    let its_branch = row_at branch_key t.branches (branch_of_teller r.teller) in
    by_case (λ v. v ≡ Posted a te b → HasRowsOf t r) (found_in t r) r (λ o e. absurd cc) (λ reply e. absurd cc)
    (λ o kept unposted new room e. absurd cc) (λ u v w h e.
    let two = both_there (option_map balance_of_teller its_teller)
    (option_map balance_of_branch its_branch) h.tellers h.teller_is in
    record {
      account = some_mapped balance_of_account (row_at account_key t.accounts r.account) h.balance h.account_is;
      teller = there_unmapped balance_of_teller its_teller two.0;
      branch = ap (λ (n : ℕ). is_some (row_at branch_key t.branches n)) h.its_branch
          ∙ there_unmapped balance_of_branch its_branch two.1;
      its_branch = h.its_branch;
    })

-- ---- an opening

-- the floor that is put in
floor_adds : (b : ℕ) (floor : Option ℤ) (rows : List FloorRow) → HasKeys floor_key rows
    → row_at floor_key rows b ≡ None → AddsFloor b floor rows (floor_put b floor rows)
floor_adds b None rows keys free = refl
floor_adds b (Some lowest) rows keys free = row_adds floor_key rows (floor_row_of b lowest) keys free

-- the tables of an opening
pub opens_is : (t : Tables) (b : ℕ) (terms : Terms) → AreReady t → 1 ≤ b → terms.accounts ≤ MAX_ACCOUNTS
    → row_at branch_key t.branches b ≡ None
    → OpensBranch t (tables_opened t b terms) b terms
unfolding with_branch with_tellers with_accounts with_floor
opens_is t b terms ready low most none = record {
  decided = refl;
  branches = row_adds branch_key t.branches (branch_row_of b (pos 0) terms) ready.branches none;
  tellers = rows_add teller_key new_teller (first_teller b) 10 t.tellers (λ _. refl) ready.tellers
      (λ n lt. no_teller t b n ready low none lt);
  accounts = rows_add account_key new_account (first_account b) terms.accounts t.accounts (λ _. refl)
      ready.accounts (λ n lt. no_account t b n ready low none (omega arith));
  history = refl;
  requests = refl;
  references = refl;
  closings = refl;
  floors = floor_adds b terms.floor t.floors ready.floors (ready.its_floors b none);
}

-- no tellers and no accounts more
pub no_more_tellers : (first : ℕ) (t : Tables) → t ≡ with_tellers first 0 t
unfolding with_tellers
no_more_tellers first t = refl

pub no_more_accounts : (first : ℕ) (t : Tables) → t ≡ with_accounts first 0 t
unfolding with_accounts
no_more_accounts first t = refl

-- one teller more, and one account more
pub one_more_teller : (first n : ℕ) (t : Tables)
    → with_teller (new_teller (first + n)) (with_tellers first n t) ≡ with_tellers first (suc n) t
unfolding with_teller with_tellers
one_more_teller first n t = refl

pub one_more_account : (first n : ℕ) (t : Tables)
    → with_account (new_account (first + n)) (with_accounts first n t) ≡ with_accounts first (suc n) t
unfolding with_account with_accounts
one_more_account first n t = refl

-- while an opening puts its tellers in, the next of them is free
pub opening_teller_is_free : (t : Tables) (b : ℕ) (terms : Terms) (n : ℕ) → AreSound t → 1 ≤ b
    → row_at branch_key t.branches b ≡ None → n < 10
    → row_at teller_key (with_tellers (first_teller b) n
    (with_branch (branch_row_of b (pos 0) terms) t)).tellers (first_teller b + n)
    ≡ None
unfolding with_branch with_tellers
opening_teller_is_free t b terms n sound low none lt =
    let ready = ready_sound t sound in
    next_is_free teller_key new_teller (first_teller b) n t.tellers
    (rows_put teller_key new_teller (first_teller b) n t.tellers)
    (rows_add teller_key new_teller (first_teller b) n t.tellers (λ _. refl) ready.tellers
    (λ k below. no_teller t b k ready low none (omega arith)))
    (no_teller t b n ready low none lt)

-- and while it puts its accounts in, the next of these
pub opening_account_is_free : (t : Tables) (b : ℕ) (terms : Terms) (tellers n : ℕ) → AreSound t → 1 ≤ b
    → terms.accounts ≤ MAX_ACCOUNTS
    → row_at branch_key t.branches b ≡ None → n < terms.accounts
    → let staffed = with_tellers (first_teller b) tellers (with_branch (branch_row_of b (pos 0) terms) t) in
    row_at account_key (with_accounts (first_account b) n staffed).accounts (first_account b + n) ≡ None
unfolding with_branch with_tellers with_accounts
opening_account_is_free t b terms tellers n sound low most none lt =
    let ready = ready_sound t sound in
    next_is_free account_key new_account (first_account b) n t.accounts
    (rows_put account_key new_account (first_account b) n t.accounts)
    (rows_add account_key new_account (first_account b) n t.accounts (λ _. refl) ready.accounts
    (λ k below. no_account t b k ready low none (omega arith)))
    (no_account t b n ready low none (omega arith))

-- and after all these, so is its floor
pub opening_floor_is_free : (t : Tables) (b : ℕ) (terms : Terms) (tellers accounts : ℕ) → AreSound t
    → row_at branch_key t.branches b ≡ None
    → row_at floor_key (with_accounts (first_account b) accounts (with_tellers (first_teller b) tellers
    (with_branch (branch_row_of b (pos 0) terms) t))).floors b ≡ None
unfolding with_branch with_tellers with_accounts
opening_floor_is_free t b terms tellers accounts sound none = sound.undamaged.floors b none

-- a branch without a floor adds none
pub no_floor_more : (b : ℕ) (t : Tables) → t ≡ with_floor b None t
unfolding with_floor
no_floor_more b t = refl
