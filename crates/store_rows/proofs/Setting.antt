-- What each UPDATE under a key changes.
use Rattle.std.proofs.Common.{◌≡◌, ◌++◌, ℕ, ℤ, pos, List, [], ◌∷◌, length, lit≤, refl, arith}
use Rattle.sqlite.specs.Term.{Term, col, lit, eval_all}
use Rattle.sqlite.specs.declared.types.Value.TheVariants.{Null, Int}
use Rattle.sqlite_tied.specs.Compute.{everything}
use Rattle.sqlite_resolve.specs.Program as program
use Rattle.sql_meanings.specs.believed.Entries.{Entry, numbers, stored}
use Rattle.sql_meanings.proofs.{Keyed.WritesAs, Keyed.sets_by, Keyed.writes_by, SetRows.ChangesAs}
use Rattle.store_rows.specs.believed.BankTables as bank
use Rattle.store_rows.specs.declared.texts.TheConstants.{SET_META, SET_BRANCH, SET_TELLER, SET_ACCOUNT, SET_VERSION}
use Rattle.store_rows.proofs.{Checked.meta_checked, Getting.keys}

-- ---- the one number after the key

abbrev pub set_first : ℤ → Entry → Entry
set_first v e = record e { values = v ∷ []; texts = [] }

abbrev pub first_set : List Term
first_set = col 1 0 ∷ col 1 0 ∷ lit Null ∷ col 0 1 ∷ []

-- ---- the second of two

-- the numbers with this one in the second place
abbrev pub second_as : ℤ → List ℤ → List ℤ
second_as v [] = []
second_as v (a ∷ []) = a ∷ []
second_as v (a ∷ b ∷ more) = a ∷ v ∷ more

abbrev pub set_second : ℤ → Entry → Entry
set_second v e = record e { values = second_as v e.values; texts = [] }

abbrev pub second_set : List Term
second_set = col 1 0 ∷ col 1 0 ∷ lit Null ∷ col 1 2 ∷ col 0 1 ∷ []

second_shown : (k v key : ℤ) (values : List ℤ) (texts : List (List ℕ)) → length values ≡ 2
    → eval_all second_set ((Int k ∷ Int v ∷ [])
    ∷ stored (record { key = key; values = values; texts = texts }) ∷ [])
    ≡ Int key ∷ stored (record { key = key; values = second_as v values; texts = [] })
second_shown k v key [] texts wide = absurd (omega arith)
second_shown k v key (a ∷ []) texts wide = absurd (omega arith)
second_shown k v key (a ∷ b ∷ []) texts wide = refl
second_shown k v key (a ∷ b ∷ c ∷ more) texts wide = absurd (omega arith)

second_wide : (v : ℤ) (values : List ℤ) → length values ≡ 2 → length (second_as v values) ≡ 2
second_wide v [] wide = wide
second_wide v (a ∷ []) wide = wide
second_wide v (a ∷ b ∷ more) wide = wide

-- ---- the first of two

-- the numbers with this one in the first place
abbrev pub first_as : ℤ → List ℤ → List ℤ
first_as v [] = []
first_as v (a ∷ more) = v ∷ more

abbrev pub set_version : ℤ → Entry → Entry
set_version v e = record e { values = first_as v e.values; texts = [] }

abbrev pub version_set : List Term
version_set = col 1 0 ∷ col 1 0 ∷ lit Null ∷ col 0 1 ∷ col 1 3 ∷ []

version_shown : (k v key : ℤ) (values : List ℤ) (texts : List (List ℕ)) → length values ≡ 2
    → eval_all version_set ((Int k ∷ Int v ∷ [])
    ∷ stored (record { key = key; values = values; texts = texts }) ∷ [])
    ≡ Int key ∷ stored (record { key = key; values = first_as v values; texts = [] })
version_shown k v key [] texts wide = absurd (omega arith)
version_shown k v key (a ∷ []) texts wide = absurd (omega arith)
version_shown k v key (a ∷ b ∷ []) texts wide = refl
version_shown k v key (a ∷ b ∷ c ∷ more) texts wide = absurd (omega arith)

first_wide : (v : ℤ) (values : List ℤ) → length values ≡ 2 → length (first_as v values) ≡ 2
first_wide v [] wide = wide
first_wide v (a ∷ more) wide = wide

-- ---- the terms that each text writes

pub record WritesNumbers : Type 0 where
  pub meta : (v : ℤ) → WritesAs bank.meta SET_META.now (Int (pos 1) ∷ Int v ∷ []) second_set
  pub branch : (k v : ℤ) → WritesAs bank.branch SET_BRANCH.now (Int k ∷ Int v ∷ []) second_set
  pub teller : (k v : ℤ) → WritesAs bank.teller SET_TELLER.now (Int k ∷ Int v ∷ []) first_set
  pub account : (k v : ℤ) → WritesAs bank.account SET_ACCOUNT.now (Int k ∷ Int v ∷ []) first_set
  pub version : (v : ℤ) → WritesAs bank.meta SET_VERSION.now (Int (pos 1) ∷ Int v ∷ []) version_set

pub writes : WritesNumbers
unfolding everything program.program
writes = record {
  meta = λ v. writes_by bank.meta SET_META.now second_set (pos 1) v _ _ _ _ _ _ _ _ keys.meta refl
      refl refl (lit≤ tt) refl refl refl refl refl
      (λ _. refl) (λ _. refl) (λ _ _ _ has. rw (has.low, has.found));
  branch = λ k v. writes_by bank.branch SET_BRANCH.now second_set k v _ _ _ _ _ _ _ _ keys.branch refl
      refl refl (lit≤ tt) refl refl refl refl refl
      (λ _. refl) (λ _. refl) (λ _ _ _ has. rw (has.low, has.found));
  teller = λ k v. writes_by bank.teller SET_TELLER.now first_set k v _ _ _ _ _ _ _ _ keys.teller refl
      refl refl (lit≤ tt) refl refl refl refl refl
      (λ _. refl) (λ _. refl) (λ _ _ _ has. rw (has.low, has.found));
  account = λ k v. writes_by bank.account SET_ACCOUNT.now first_set k v _ _ _ _ _ _ _ _ keys.account
      refl refl refl (lit≤ tt) refl refl refl refl refl
      (λ _. refl) (λ _. refl) (λ _ _ _ has. rw (has.low, has.found));
  version = λ v. writes_by bank.meta SET_VERSION.now version_set (pos 1) v _ _ _ _ _ _ _ _ keys.meta
      refl refl refl (lit≤ tt) refl refl refl refl refl
      (λ _. refl) (λ _. refl) (λ _ _ _ has. rw (has.low, has.found));
}

-- ---- and so changes

pub record SetsNumbers : Type 0 where
  pub meta : (v : ℤ) → ChangesAs bank.meta SET_META.now (pos 1) (Int v ∷ []) (set_second v)
  pub branch : (k v : ℤ) → ChangesAs bank.branch SET_BRANCH.now k (Int v ∷ []) (set_second v)
  pub teller : (k v : ℤ) → ChangesAs bank.teller SET_TELLER.now k (Int v ∷ []) (set_first v)
  pub account : (k v : ℤ) → ChangesAs bank.account SET_ACCOUNT.now k (Int v ∷ []) (set_first v)
  pub version : (v : ℤ) → ChangesAs bank.meta SET_VERSION.now (pos 1) (Int v ∷ []) (set_version v)

pub sets : SetsNumbers
unfolding everything
sets = record {
  meta = λ v. sets_by bank.meta SET_META.now set_second second_set (pos 1) v (writes.meta v)
      (λ _ _ _ has. rw (has.low, has.found))
      (λ e wide. second_shown (pos 1) v e.key e.values e.texts wide.0) (λ _. refl)
      (λ e wide. (second_wide v e.values wide.0, refl))
      (λ e _. meta_checked e.key (Null ∷ (numbers (second_as v e.values) ++ []))) refl;
  branch = λ k v. sets_by bank.branch SET_BRANCH.now set_second second_set k v (writes.branch k v)
      (λ _ _ _ has. rw (has.low, has.found))
      (λ e wide. second_shown k v e.key e.values e.texts wide.0) (λ _. refl)
      (λ e wide. (second_wide v e.values wide.0, refl)) (λ _ _ _. refl) refl;
  teller = λ k v. sets_by bank.teller SET_TELLER.now set_first first_set k v (writes.teller k v)
      (λ _ _ _ has. rw (has.low, has.found))
      (λ _ _. refl) (λ _. refl) (λ _ _. (refl, refl)) (λ _ _ _. refl) refl;
  account = λ k v. sets_by bank.account SET_ACCOUNT.now set_first first_set k v (writes.account k v)
      (λ _ _ _ has. rw (has.low, has.found))
      (λ _ _. refl) (λ _. refl) (λ _ _. (refl, refl)) (λ _ _ _. refl) refl;
  version = λ v. sets_by bank.meta SET_VERSION.now set_version version_set (pos 1) v (writes.version v)
      (λ _ _ _ has. rw (has.low, has.found))
      (λ e wide. version_shown (pos 1) v e.key e.values e.texts wide.0) (λ _. refl)
      (λ e wide. (first_wide v e.values wide.0, refl))
      (λ e _. meta_checked e.key (Null ∷ (numbers (first_as v e.values) ++ []))) refl;
}
