-- Changes of one table are made one after another, or new rows several at a time: what is so of all is so of the
-- next ones, after those before them.
use Rattle.std.proofs.Common.{◌≡◌, ℕ, List, [], ◌∷◌, ◌++◌, Option, Some, None, refl, sym, ap, subst, ◌∙◌}
use Rattle.std.specs.Prelude.{ℤ, IsSome, IfSome}
use Rattle.std.specs.List.{AllByRecursion, IsDistinct}
use Rattle.posting_rules.specs.believed.Changes.{row_put}
use Rattle.posting_rules.specs.ChangesByKey.{with_branch_balance, with_teller_balance, with_account_balance}
use Rattle.posting_rules.specs.believed.Tables.{Tables, HasKeys, row_at, branch_key, teller_key, account_key}
use Rattle.posting_rules.specs.believed.Tables.{history_key, request_key, reference_key}
use Rattle.posting_batch.specs.Batch.{PutsFree}
use Rattle.posting_batch.specs.Overlay.{each_put, over, changed_to, accounts_over, tellers_over}
use Rattle.posting_batch.specs.Overlay.{branches_over, history_put, requests_put, references_put}
use Rattle.posting_batch.specs.Slots.{account_slot_key, teller_slot_key, branch_slot_key}
use Rattle.posting_batch.proofs.NewRows.{account_same, teller_same, branch_same}
use Rattle.posting_batch.proofs.SlotsWritten.{not_before, over_none, over_more, over_there}
use Rattle.bank_transactions.specs.Writing.{MayChange, MayChangeAccounts, MayChangeTellers, MayChangeBranches}
use Rattle.bank_transactions.specs.Writing.{MayAddPostings, MayAddRequests, MayAddReferences}

-- No change leaves the tables as they were. Changes that may be made together may be made one after another,
-- and come to the same.
pub record InTurn {A : Type 0} (made : List A → Tables → Tables)
    (May : List A → Tables → Type 0) : Type 0 where
  pub none : (t : Tables) → t ≡ made [] t
  pub next : (front : List A) (change : A) (rest : List A) (t : Tables) → May (front ++ change ∷ rest) t
      → May (change ∷ []) (made front t) × (made (change ∷ []) (made front t) ≡ made (front ++ change ∷ []) t)

-- Changes that may be made together may be made some of them after others, and come to the same.
pub record InParts {A : Type 0} (made : List A → Tables → Tables)
    (May : List A → Tables → Type 0) : Type 0 where
  pub next : (front some rest : List A) (t : Tables) → May (front ++ (some ++ rest)) t
      → May some (made front t) × (made some (made front t) ≡ made (front ++ some) t)

-- the rows of one of the tables, and the tables with other rows there
pub record ArePlaced {R : Type 0} (rows : Tables → List R)
    (with_rows : Tables → List R → Tables) : Type 0 where
  pub own : (t : Tables) → t ≡ with_rows t (rows t)
  pub held : (t : Tables) (rs : List R) → rows (with_rows t rs) ≡ rs
  pub again : (t : Tables) (rs others : List R) → with_rows (with_rows t rs) others ≡ with_rows t others

all_after : {A : Type 0} (P : A → Type 0) (front : List A) (x : A) (rest : List A)
    → AllByRecursion P (front ++ x ∷ rest) → P x
all_after P [] x rest all = all.0
all_after P (y ∷ front) x rest all = all_after P front x rest all.1

-- ---- slots

one_key : {A : Type 0} (key : A → ℕ) (s : A) → HasKeys key (s ∷ [])
unfolding IsDistinct
one_key key s = (tt, tt)

-- slots with a key, the rows under such keys, and the balances that the slots change
module _ {A R : Type 0} (slot_key : A → ℕ) (key : R → ℕ) (changed : A → Option ℤ) (set : ℤ → R → R)
    (same : (s : A) (r : R) → key (changed_to set (changed s) r) ≡ key r) where
  abbrev under : List A → List R → List R
  under slots rows = over slot_key key (λ s r. changed_to set (changed s) r) slots rows

  there : (c : Option ℤ) (front : List A) (rows : List R) (n : ℕ) → IfSome c (λ z. IsSome (row_at key rows n))
      → IfSome c (λ z. IsSome (row_at key (under front rows) n))
  there None front rows n h = tt
  there (Some z) front rows n h = over_there slot_key key changed set same front rows n h

  may_next : (front : List A) (s : A) (rest : List A) (rows : List R)
      → MayChange slot_key changed key rows (front ++ s ∷ rest)
      → MayChange slot_key changed key (under front rows) (s ∷ [])
  may_next front s rest rows may =
      let asked = all_after
      (λ x. IfSome (changed x) (λ z. IsSome (row_at key rows (slot_key x)))) front s rest may.1 in
      (one_key slot_key s, (there (changed s) front rows (slot_key s) asked, tt))

  under_next : (front : List A) (s : A) (rest : List A) (rows : List R) → HasKeys slot_key (front ++ s ∷ rest)
      → under (s ∷ []) (under front rows) ≡ under (front ++ s ∷ []) rows
  under_next front s rest rows keys =
      over_more slot_key key changed set same front s (not_before slot_key front s rest keys) rows

  slots_in_turn : (rows : Tables → List R) (with_rows : Tables → List R → Tables) → ArePlaced rows with_rows
      → InTurn (λ slots t. with_rows t (under slots (rows t)))
      (λ slots t. MayChange slot_key changed key (rows t) slots)
  slots_in_turn rows with_rows placed = record {
    none = λ t. placed.own t ∙ ap (with_rows t) (sym (over_none slot_key key changed set same (rows t)));
    next = λ front s rest t may.
        let before = under front (rows t) in (
          subst (λ (rs : List R). MayChange slot_key changed key rs (s ∷ [])) (sym (placed.held t before))
              (may_next front s rest (rows t) may),
          placed.again t before (under (s ∷ []) (rows (with_rows t before)))
              ∙ ap (λ (rs : List R). with_rows t (under (s ∷ []) rs)) (placed.held t before)
              ∙ ap (with_rows t) (under_next front s rest (rows t) may.0),
        );
  }

pub accounts_in_turn : InTurn accounts_over MayChangeAccounts
accounts_in_turn =
    slots_in_turn account_slot_key account_key (λ s. s.changed) with_account_balance account_same
    (λ t. t.accounts)
    (λ t rows. record t { accounts = rows })
    (record { own = λ t. refl; held = λ t rs. refl; again = λ t rs others. refl })

pub tellers_in_turn : InTurn tellers_over MayChangeTellers
tellers_in_turn =
    slots_in_turn teller_slot_key teller_key (λ s. s.changed) with_teller_balance teller_same (λ t. t.tellers)
    (λ t rows. record t { tellers = rows })
    (record { own = λ t. refl; held = λ t rs. refl; again = λ t rs others. refl })

-- and their numbers are those of branches
pub branches_in_turn : InTurn branches_over MayChangeBranches
branches_in_turn =
    let slots = slots_in_turn branch_slot_key branch_key (λ s. s.changed) with_branch_balance branch_same
    (λ t. t.branches)
    (λ t rows. record t { branches = rows })
    (record { own = λ t. refl; held = λ t rs. refl; again = λ t rs others. refl }) in
    record {
      none = slots.none;
      next = λ front s rest t may.
          let it = slots.next front s rest t may.0 in
          ((it.0, (all_after _ front s rest may.1, tt)), it.1);
    }

-- ---- new rows

module _ {R : Type 0} (key : R → ℕ) where
  free_first : (some rest rows : List R) → PutsFree key (some ++ rest) rows → PutsFree key some rows
  free_first [] rest rows free = tt
  free_first (r ∷ some) rest rows free = (free.0, free_first some rest (row_put key r rows) free.1)

  free_after : (front rest rows : List R) → PutsFree key (front ++ rest) rows
      → PutsFree key rest (each_put key front rows)
  free_after [] rest rows free = free
  free_after (r ∷ front) rest rows free = free_after front rest (row_put key r rows) free.1

  put_after : (front some rows : List R)
      → each_put key some (each_put key front rows) ≡ each_put key (front ++ some) rows
  put_after [] some rows = refl
  put_after (r ∷ front) some rows = put_after front some (row_put key r rows)

  rows_in_parts : (rows : Tables → List R) (with_rows : Tables → List R → Tables) → ArePlaced rows with_rows
      → InParts (λ news t. with_rows t (each_put key news (rows t))) (λ news t. PutsFree key news (rows t))
  rows_in_parts rows with_rows placed = record {
    next = λ front some rest t free.
        let before = each_put key front (rows t) in (
          subst (λ (rs : List R). PutsFree key some rs) (sym (placed.held t before))
              (free_first some rest before (free_after front (some ++ rest) (rows t) free)),
          placed.again t before (each_put key some (rows (with_rows t before)))
              ∙ ap (λ (rs : List R). with_rows t (each_put key some rs)) (placed.held t before)
              ∙ ap (with_rows t) (put_after front some (rows t)),
        );
  }

  rows_in_turn : (rows : Tables → List R) (with_rows : Tables → List R → Tables) → ArePlaced rows with_rows
      → InTurn (λ news t. with_rows t (each_put key news (rows t))) (λ news t. PutsFree key news (rows t))
  rows_in_turn rows with_rows placed = record {
    none = placed.own;
    next = λ front x. (rows_in_parts rows with_rows placed).next front (x ∷ []);
  }

pub postings_in_turn : InTurn history_put MayAddPostings
postings_in_turn =
    rows_in_turn history_key (λ t. t.history) (λ t rows. record t { history = rows })
    (record { own = λ t. refl; held = λ t rs. refl; again = λ t rs others. refl })

pub requests_in_turn : InTurn requests_put MayAddRequests
requests_in_turn =
    rows_in_turn request_key (λ t. t.requests) (λ t rows. record t { requests = rows })
    (record { own = λ t. refl; held = λ t rs. refl; again = λ t rs others. refl })

pub references_in_turn : InTurn references_put MayAddReferences
references_in_turn =
    rows_in_turn reference_key (λ t. t.references) (λ t rows. record t { references = rows })
    (record { own = λ t. refl; held = λ t rs. refl; again = λ t rs others. refl })

pub postings_in_parts : InParts history_put MayAddPostings
postings_in_parts =
    rows_in_parts history_key (λ t. t.history) (λ t rows. record t { history = rows })
    (record { own = λ t. refl; held = λ t rs. refl; again = λ t rs others. refl })

pub requests_in_parts : InParts requests_put MayAddRequests
requests_in_parts =
    rows_in_parts request_key (λ t. t.requests) (λ t rows. record t { requests = rows })
    (record { own = λ t. refl; held = λ t rs. refl; again = λ t rs others. refl })
