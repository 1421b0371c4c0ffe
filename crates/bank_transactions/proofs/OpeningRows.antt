-- The rows that come with a branch are those of an opening, and each of them is free when it is added.
use Rattle.std.proofs.Common.{◌≡◌, ◌+◌, ◌<◌, ◌≤◌, ℕ, zero, suc, List, [], ◌∷◌, Option, Some, None, false, refl, sym, ap}
use Rattle.std.proofs.Common.{subst, ◌∙◌, arith, inl, inr, eqb, nat_lt}
use Rattle.std.specs.Prelude.{IfSome, ℤ, is_some, pos}
use Rattle.posting_rules.specs.believed.Changes.{with_branch, with_tellers, with_accounts, new_teller, new_account}
use Rattle.posting_rules.specs.believed.Changes.{row_put, rows_put}
use Rattle.posting_rules.specs.believed.Commands.{Terms}
use Rattle.posting_rules.proofs.{Keyed.by_test, Ready.no_account, Ready.no_teller, Ready.ready_sound}
use Rattle.posting_rules.specs.believed.AnyTables.{HasRoomToOpen, IsReadyToOpen}
use Rattle.posting_rules.specs.{Changes.with_teller, Changes.with_account, Sound.AreSound}
use Rattle.posting_rules.specs.{believed.Commands.opened_with, declared.limits.TheConstants.MAX_ACCOUNTS}
use Rattle.posting_rules.specs.believed.Numbering.{first_teller, first_account}
use Rattle.posting_rules.specs.believed.Tables.{Tables, row_at, account_key, branch_row_of, floor_key, teller_key}
use Rattle.posting_rules.proofs.ChangesByKey.{no_more_tellers, no_more_accounts, one_more_teller, one_more_account}
use Rattle.bank_transactions.specs.NewRows.{is_taken, tables_staffed, with_new_rows}
use Rattle.bank_transactions.specs.declared.new_branch.NewRows.TheVariants.{Tellers, Accounts}

tellers_are : (first count : ℕ) (t : Tables) → with_new_rows Tellers first count t
    ≡ with_tellers first count t
tellers_are first zero t = no_more_tellers first t
tellers_are first (suc count) t = ap (with_teller (new_teller (first + count))) (tellers_are first count t)
    ∙ one_more_teller first count t

accounts_are : (first count : ℕ) (t : Tables) → with_new_rows Accounts first count t
    ≡ with_accounts first count t
accounts_are first zero t = no_more_accounts first t
accounts_are first (suc count) t =
    ap (with_account (new_account (first + count))) (accounts_are first count t)
    ∙ one_more_account first count t

-- a row isn't found among rows that are put in under other keys
put_apart : {R : Type 0} (key : R → ℕ) (new : R) (rows : List R) (k : ℕ) → eqb (key new) k ≡ false
    → row_at key rows k ≡ None → row_at key (row_put key new rows) k ≡ None
put_apart key new [] k other none = rw other refl
put_apart key new (r ∷ rows) k other none = elim (by_test (nat_lt (key r) (key new))) [
  | inl low ↦ elim (by_test (eqb (key r) k)) [
    | inl t ↦ absurd (let h = rw t at none in cc)
    | inr f ↦ rw (low, f) (put_apart key new rows k other (rw f at none))
  ]
  | inr high ↦ rw (high, other) none
]

other_key : (n k : ℕ) → n < k → eqb n k ≡ false
other_key n k low = grind arith

rows_apart : {R : Type 0} (key : R → ℕ) (row : ℕ → R) → ((n : ℕ) → key (row n) ≡ n) → (first count : ℕ)
    (rows : List R) (k : ℕ) → first + count ≤ k → row_at key rows k ≡ None
    → row_at key (rows_put key row first count rows) k ≡ None
rows_apart key row is first zero rows k low none = none
rows_apart key row is first (suc count) rows k low none =
    put_apart key (row (first + count)) (rows_put key row first count rows) k
    (subst (λ (n : ℕ). eqb n k ≡ false) (sym (is (first + count))) (other_key (first + count) k (omega arith)))
    (rows_apart key row is first count rows k (omega arith) none)

-- a branch without its tellers and its accounts, and its first teller and account
module _ (t : Tables) (b count teller account : ℕ) (from : teller ≡ first_teller b)
    (start : account ≡ first_account b) where
  abbrev branched : Tables
  branched = with_branch (branch_row_of b (pos 0) (opened_with count None)) t

  staffed : with_new_rows Tellers teller 10 branched ≡ with_tellers (first_teller b) 10 branched
  staffed = ap (λ (first : ℕ). with_new_rows Tellers first 10 branched) from
      ∙ tellers_are (first_teller b) 10 branched

  pub opened_is : (n : ℕ) → n ≡ count
      → with_new_rows Accounts account n (with_new_rows Tellers teller 10 branched) ≡ tables_staffed t b count
  opened_is n wide =
      ap (λ (first : ℕ). with_new_rows Accounts first n (with_new_rows Tellers teller 10 branched)) start
      ∙ ap (λ (m : ℕ). with_new_rows Accounts (first_account b) m
      (with_new_rows Tellers teller 10 branched)) wide
      ∙ ap (λ (u : Tables). with_new_rows Accounts (first_account b) count u) staffed
      ∙ accounts_are (first_account b) count (with_tellers (first_teller b) 10 branched)

  module _ {terms : Terms} (room : HasRoomToOpen b terms t) where
    pub next_teller : (n : ℕ) → n < 10
        → is_taken Tellers (teller + n) (with_new_rows Tellers teller n branched) ≡ false
    unfolding with_branch with_tellers
    next_teller n lt =
        subst (λ (first : ℕ). is_taken Tellers (first + n) (with_new_rows Tellers first n branched) ≡ false)
        (sym from)
        (ap (is_taken Tellers (first_teller b + n)) (tellers_are (first_teller b) n branched)
        ∙ ap is_some (rows_apart teller_key new_teller (λ _. refl) (first_teller b) n t.tellers
        (first_teller b + n) (omega arith) (room.tellers n lt)))

    pub next_account : (n : ℕ) → n < terms.accounts
        → is_taken Accounts (account + n)
        (with_new_rows Accounts account n (with_new_rows Tellers teller 10 branched)) ≡ false
    unfolding with_branch with_tellers with_accounts
    next_account n lt =
        subst (λ (first : ℕ). is_taken Accounts (first + n)
        (with_new_rows Accounts first n (with_new_rows Tellers teller 10 branched)) ≡ false) (sym start)
        (ap (λ (u : Tables). is_taken Accounts (first_account b + n)
        (with_new_rows Accounts (first_account b) n u)) staffed
        ∙ ap (is_taken Accounts (first_account b + n))
        (accounts_are (first_account b) n (with_tellers (first_teller b) 10 branched))
        ∙ ap is_some (rows_apart account_key new_account (λ _. refl) (first_account b) n t.accounts
        (first_account b + n) (omega arith) (room.accounts n lt)))

-- nor is its floor taken, after all these
pub floor_apart : (t : Tables) (b count : ℕ) (floor : Option ℤ)
    → IfSome floor (λ _. row_at floor_key t.floors b ≡ None)
    → IfSome floor (λ _. row_at floor_key (tables_staffed t b count).floors b ≡ None)
unfolding with_branch with_tellers with_accounts
floor_apart t b count floor free = free

-- ---- sound tables have room

pub room_sound : (t : Tables) (b : ℕ) (terms : Terms) → 1 ≤ b → terms.accounts ≤ MAX_ACCOUNTS → AreSound t
    → IsReadyToOpen b terms t
room_sound t b terms low few sound none =
    let ready = ready_sound t sound in
    record {
      tellers = λ n lt. no_teller t b n ready low none lt;
      accounts = λ n lt. no_account t b n ready low none (omega arith);
      floor = each terms.floor;
    }
  where
    each : (floor : Option ℤ) → IfSome floor (λ _. row_at floor_key t.floors b ≡ None)
    each None = tt
    each (Some lowest) = sound.undamaged.floors b none
