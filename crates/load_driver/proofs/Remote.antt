-- Where the account at a place stands.
use Rattle.std.proofs.Common.{◌≡◌, ◌<◌, ◌≤◌, ◌+◌, ◌-◌, ◌∷◌, ◌∙◌, ℕ, List, Bool, true, false, length, drop}
use Rattle.std.proofs.Common.{get_or, ap, ◌⊎◌, inl, inr, arith, refl, nat_eq, nat_lt}
use Rattle.std.specs.Prelude.{◌||◌}
use Rattle.std.proofs.lemmas.Bool.Decides.{nat_tests}
use Rattle.std.proofs.lemmas.List.{drop_more, get_or-append_right, get_or_append_left}
use Rattle.std.proofs.lemmas.List.FromFn.{get_or-range_with_len, length-range_with_len}
use Rattle.posting_rules.specs.believed.Numbering.{first_account}
use Rattle.load_driver.specs.believed.Draw.{draw}
use Rattle.load_driver.specs.believed.Requests.{account_by, accounts_of, count_of, is_home, remote_accounts}
use Rattle.branch_loader.specs.believed.Plans.{Rows, Row}

-- the row of the branch itself is passed over
pub at-home : (branch : ℕ) (p : Row) (rest : Rows) → p.0 ≡ branch
    → remote_accounts branch (p ∷ rest) ≡ remote_accounts branch rest
at-home branch p rest e = let t : nat_eq p.0 branch ≡ true = grind (arith, nat_tests, e) in rw t refl

-- an account of another row
pub at-other : (branch : ℕ) (p : Row) (rest : Rows) (left : ℕ) → ¬ (p.0 ≡ branch) → left < p.1
    → get_or (remote_accounts branch (p ∷ rest)) left 0 ≡ first_account p.0 + left
at-other branch p rest left e here =
    let t : nat_eq p.0 branch ≡ false = grind (arith, nat_tests, e) in
    let size = length-range_with_len (first_account p.0) p.1 in
    rw t (get_or_append_left (accounts_of p) (remote_accounts branch rest) 0 left (omega arith)
    ∙ get_or-range_with_len (first_account p.0) p.1 left 0 here)

-- an account after another row
pub at-after : (branch : ℕ) (p : Row) (rest : Rows) (left : ℕ) → ¬ (p.0 ≡ branch) → p.1 ≤ left
    → get_or (remote_accounts branch (p ∷ rest)) left 0 ≡ get_or (remote_accounts branch rest) (left - p.1) 0
at-after branch p rest left e past =
    let t : nat_eq p.0 branch ≡ false = grind (arith, nat_tests, e) in
    rw t (get_or-append_right (accounts_of p) (remote_accounts branch rest) p.1 left 0
    (length-range_with_len (first_account p.0) p.1) past)

-- the account of the teller's branch
pub account-home : (rows : Rows) (home : Row) (choice pick : ℕ) → is_home rows (draw choice 100) ≡ true
    → first_account home.0 + draw pick home.1 ≡ account_by rows home choice pick
unfolding account_by
account-home rows home choice pick e = rw e refl

-- the account of another branch
pub account-remote : (rows : Rows) (home : Row) (choice pick : ℕ) → is_home rows (draw choice 100) ≡ false
    → get_or (remote_accounts home.0 rows) (draw pick (count_of rows - home.1)) 0
    ≡ account_by rows home choice pick
unfolding account_by
account-remote rows home choice pick e = rw e refl

-- the account at a place of the accounts of the other branches
abbrev pub remote : ℕ → Rows → ℕ → ℕ
remote branch rows place = get_or (remote_accounts branch rows) place 0

here : (rows : Rows) (i : ℕ) (x : Row) → i < length rows → x ≡ get_or rows i x
    → drop i rows ≡ x ∷ drop (i + 1) rows
here rows i x within read = drop_more rows i x within ∙ rw (← read) refl

-- the walk passes over the branch itself
pub go-home : (rows : Rows) (i : ℕ) (x : Row) (branch place left : ℕ) → i < length rows → x ≡ get_or rows i x
    → x.0 ≡ branch
    → remote branch rows place ≡ remote branch (drop i rows) left
    → remote branch rows place ≡ remote branch (drop (i + 1) rows) left
go-home rows i x branch place left within read e states =
    states ∙ rw (here rows i x within read)
    (ap (λ (l : List ℕ). get_or l left 0) (at-home branch x (drop (i + 1) rows) e))

-- it passes over a row whose accounts are all before the place
pub go-after : (rows : Rows) (i : ℕ) (x : Row) (branch place left : ℕ) → i < length rows
    → x ≡ get_or rows i x → ¬ (x.0 ≡ branch)
    → x.1 ≤ left
    → remote branch rows place ≡ remote branch (drop i rows) left
    → remote branch rows place ≡ remote branch (drop (i + 1) rows) (left - x.1)
go-after rows i x branch place left within read e past states =
    states ∙ rw (here rows i x within read) (at-after branch x (drop (i + 1) rows) left e past)

-- it ends at the row that has the place
pub go-other : (rows : Rows) (i : ℕ) (x : Row) (branch place left : ℕ) → i < length rows → x ≡ get_or rows i x
    → ¬ (x.0 ≡ branch)
    → left < x.1
    → remote branch rows place ≡ remote branch (drop i rows) left
    → remote branch rows place ≡ first_account x.0 + left
go-other rows i x branch place left within read e past states =
    states ∙ rw (here rows i x within read) (at-other branch x (drop (i + 1) rows) left e past)

-- X below 85, or one branch
pub home-either : (rows : Rows) (x : ℕ) → (x < 85) ⊎ ((85 ≤ x) × (length rows ≡ 1)) → is_home rows x ≡ true
home-either rows x (inl low) = let t : nat_lt x 85 ≡ true = grind (arith, nat_tests, low) in rw t refl
home-either rows x (inr one) = let t : nat_eq (length rows) 1 ≡ true = grind (arith, nat_tests, one.1) in rw t
    (or_true (nat_lt x 85))
  where
    or_true : (b : Bool) → (b || true) ≡ true
    or_true true = refl
    or_true false = refl

-- neither of the two
pub home-neither : (rows : Rows) (x : ℕ) → 85 ≤ x → ¬ (length rows ≡ 1) → is_home rows x ≡ false
home-neither rows x low more =
    let t : nat_lt x 85 ≡ false = grind (arith, nat_tests, low) in
    let u : nat_eq (length rows) 1 ≡ false = grind (arith, nat_tests, more) in
    rw (t, u) refl
