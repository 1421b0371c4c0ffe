-- Tables on which the next record and the next opening can build, as those of every log are.
use Rattle.std.proofs.Common.{◌≡◌, ℕ, ◌+◌, ◌<◌, ◌≤◌, Bool, true, false, cond, leb, List, Option, Some, None, refl}
use Rattle.std.proofs.Common.{sym, ap, ◌∙◌, arith}
use Rattle.std.specs.Prelude.{ℤ, is_some, ◌&&◌, option_and_then}
use Rattle.std.specs.Option.{option_map}
use Rattle.std.proofs.lemmas.Bool.{le-leb}
use Rattle.posting_rules.specs.{declared.rows.BranchRow.BranchRow, believed.LookUps.floor_in, Sound.AreSound}
use Rattle.posting_rules.specs.believed.Commands.{Command, opened, is_within, Terms}
use Rattle.posting_rules.specs.believed.Entries.{account_balance, teller_balance, branch_balance, decided}
use Rattle.posting_rules.specs.believed.Tables.{Tables, AreTablesOf, HasKeys, row_at, branch_key, teller_key}
use Rattle.posting_rules.specs.believed.Tables.{account_key, history_key, request_key, branch_row_of, teller_row_of}
use Rattle.posting_rules.specs.believed.Tables.{account_row_of, floor_key, floor_row_of, reference_key}
use Rattle.posting_rules.specs.believed.LookUps.{terms_in, terms_of_branch}
use Rattle.posting_rules.specs.believed.Numbering.{branch_of_teller, branch_of_account, place_of_account}
use Rattle.posting_rules.specs.believed.Numbering.{first_teller, first_account}
use Rattle.posting_rules.proofs.Looked.{terms_shown}
use Rattle.posting_rules.proofs.TablesWithRecord.{next_request, next_posting, next_reference}
use Rattle.posting_rules.specs.declared.limits.TheConstants.{ACCOUNTS_PER_BRANCH}

-- the next ordinal is free, the tellers and the accounts are those of the branches, and only these have floors
pub record AreReady (t : Tables) : Type 0 where
  pub next_request : row_at request_key t.requests (t.decided + 1) ≡ None
  pub next_posting : row_at history_key t.history (t.decided + 1) ≡ None
  pub next_reference : row_at reference_key t.references (t.decided + 1) ≡ None
  pub its_tellers : (n : ℕ) → 1 ≤ n
      → is_some (row_at teller_key t.tellers n) ≡ is_some (row_at branch_key t.branches (branch_of_teller n))
  pub its_accounts : (n : ℕ) → 1 ≤ n
      → is_some (row_at account_key t.accounts n) ≡ is_within (place_of_account n)
      (terms_in t (branch_of_account n))
  pub its_floors : (b : ℕ) → row_at branch_key t.branches b ≡ None → row_at floor_key t.floors b ≡ None
  pub branches : HasKeys branch_key t.branches
  pub tellers : HasKeys teller_key t.tellers
  pub accounts : HasKeys account_key t.accounts
  pub history : HasKeys history_key t.history
  pub requests : HasKeys request_key t.requests
  pub floors : HasKeys floor_key t.floors
  pub references : HasKeys reference_key t.references

-- sound tables are
pub ready_sound : (t : Tables) → AreSound t → AreReady t
ready_sound t sound = let u = sound.undamaged in record {
  next_request = u.next_request;
  next_posting = u.next_posting;
  next_reference = u.next_reference;
  its_tellers = u.tellers;
  its_accounts = u.accounts;
  its_floors = u.floors;
  branches = sound.branches;
  tellers = sound.tellers;
  accounts = sound.accounts;
  history = sound.history;
  requests = sound.requests;
  floors = sound.floors;
  references = sound.references;
}

-- ---- the tables of a log

-- from 1 on, a row is there just where a test passes
there : {R : Type 0} (low test : Bool) (x : R) → low ≡ true
    → is_some (cond (low && test) (Some x) None) ≡ test
there true true x e = refl
there true false x e = refl
there false test x e = absurd cc

is_some-mapped : {A B : Type 0} (f : A → B) (o : Option A) → is_some (option_map f o) ≡ is_some o
is_some-mapped f (Some x) = refl
is_some-mapped f None = refl

-- a branch that has no row has no floor
unopened : (o : Option Terms) (b : ℕ) (z : ℤ) → option_map (branch_row_of b z) o ≡ None
    → option_map (floor_row_of b) (option_and_then (λ n. n.floor) o) ≡ None
unopened None b z h = refl
unopened (Some n) b z h = absurd cc

-- the tables of a log are, of commands or not
pub ready_shown : (t : Tables) (log : List Command) → AreTablesOf t log → AreReady t
ready_shown t log shows =
    let s = shows.rows in
    let es = decided log in
    let open_ = λ (b : ℕ). opened log b in
    record {
      next_request = ap (λ (n : ℕ). row_at request_key t.requests (n + 1)) s.decided
          ∙ next_request t open_ es s;
      next_posting = ap (λ (n : ℕ). row_at history_key t.history (n + 1)) s.decided
          ∙ next_posting t open_ es s;
      next_reference = ap (λ (n : ℕ). row_at reference_key t.references (n + 1)) s.decided
          ∙ next_reference t open_ es s;
      its_tellers = λ n h.
          ap is_some (s.tellers n)
          ∙ there (leb 1 n) (is_some (open_ (branch_of_teller n))) (teller_row_of n (teller_balance es n))
          (le-leb _ _ h)
          ∙ sym (is_some-mapped (branch_row_of (branch_of_teller n) (branch_balance es (branch_of_teller n)))
          (open_ (branch_of_teller n)))
          ∙ sym (ap is_some (s.branches (branch_of_teller n)));
      its_accounts = λ n h.
          ap is_some (s.accounts n)
          ∙ there (leb 1 n) (is_within (place_of_account n) (open_ (branch_of_account n)))
          (account_row_of n (account_balance es n)) (le-leb _ _ h)
          ∙ ap (is_within (place_of_account n)) (sym (terms_shown t open_ es (branch_of_account n) s));
      its_floors = λ b h.
          s.floors b ∙ unopened (open_ b) b (branch_balance es b) (sym (s.branches b) ∙ h);
      branches = s.branch_keys;
      tellers = s.teller_keys;
      accounts = s.account_keys;
      history = s.history_keys;
      requests = s.request_keys;
      floors = s.floor_keys;
      references = s.reference_keys;
    }

-- ---- the numbers of a branch that has no row

is_none : {A : Type 0} (o : Option A) → is_some o ≡ false → o ≡ None
is_none None h = refl
is_none (Some x) h = absurd cc

none_within : (place : ℕ) (floor : Option ℤ) (o : Option BranchRow) → o ≡ None
    → is_within place (option_map (terms_of_branch floor) o) ≡ false
none_within place floor None e = refl
none_within place floor (Some r) e = absurd cc

branch_of_its_teller : (b n : ℕ) → 1 ≤ b → n < 10 → branch_of_teller (first_teller b + n) ≡ b
branch_of_its_teller b n low lt = omega arith

branch_of_its_account : (b n : ℕ) → 1 ≤ b → n < ACCOUNTS_PER_BRANCH
    → branch_of_account (first_account b + n) ≡ b
branch_of_its_account b n low lt = omega arith

-- none of its tellers has a row
pub no_teller : (t : Tables) (b n : ℕ) → AreReady t → 1 ≤ b → row_at branch_key t.branches b ≡ None → n < 10
    → row_at teller_key t.tellers (first_teller b + n) ≡ None
no_teller t b n ready low none lt =
    is_none (row_at teller_key t.tellers (first_teller b + n)) (
    ready.its_tellers (first_teller b + n) (omega arith)
    ∙ ap (λ (x : ℕ). is_some (row_at branch_key t.branches x)) (branch_of_its_teller b n low lt)
    ∙ ap is_some none
    )

-- and none of its accounts
pub no_account : (t : Tables) (b n : ℕ) → AreReady t → 1 ≤ b → row_at branch_key t.branches b ≡ None
    → n < ACCOUNTS_PER_BRANCH
    → row_at account_key t.accounts (first_account b + n) ≡ None
no_account t b n ready low none lt =
    is_none (row_at account_key t.accounts (first_account b + n)) (
    ready.its_accounts (first_account b + n) (omega arith)
    ∙ ap (λ (x : ℕ). is_within (place_of_account (first_account b + n)) (terms_in t x))
    (branch_of_its_account b n low lt)
    ∙ none_within (place_of_account (first_account b + n)) (floor_in t b) (row_at branch_key t.branches b) none
    )
