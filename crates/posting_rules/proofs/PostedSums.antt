-- What was posted, summed under keys, and the rows that keep balances.
use Rattle.std.proofs.Common.{◌≡◌, ℕ, ◌+◌, Bool, true, false, cond, eqb, List, [], ◌∷◌, length, map, Option, Some}
use Rattle.std.proofs.Common.{None, refl, sym, ap, ◌∙◌, inl, inr}
use Rattle.std.specs.Prelude.{ℤ, ◌+ℤ◌, filter, is_some}
use Rattle.std.specs.{List.AllByRecursion, Option.option_map}
use Rattle.message_records.specs.believed.Records.{RequestFields}
use Rattle.posting_rules.specs.{declared.rows.BranchRow.BranchRow, believed.Laws.total}
use Rattle.posting_rules.specs.believed.Commands.{opened, is_teller_open, is_account_open, Terms}
use Rattle.posting_rules.specs.believed.Entries.{DecidedRequest, is_posted, posted_sum, account_balance}
use Rattle.posting_rules.specs.believed.Entries.{teller_balance, branch_balance}
use Rattle.posting_rules.specs.believed.Tables.{Tables, HasRows, HasKeys, row_at, branch_key, teller_key, account_key}
use Rattle.posting_rules.specs.believed.Tables.{branch_row_of, teller_row_of, account_row_of}
use Rattle.posting_rules.specs.believed.LookUps.{balance_of_branch, balance_of_teller, balance_of_account}
use Rattle.posting_rules.proofs.{Keyed.by_test, NamedOpen.AllNameOpen, NamedOpen.NamesOpen, NamedOpen.open_home}
use Rattle.posting_rules.proofs.Totals.{sum_where, HaveRows, spread, values_are, each_under_its_key, all_follow}
use Rattle.posting_rules.specs.declared.rows.ClosingRow.{ClosingRow}

-- ---- what was posted, under the keys of one kind

-- the amounts posted, each under what its request names
abbrev posted_under : (RequestFields → ℕ) → List DecidedRequest → List (ℕ × ℤ)
posted_under name [] = []
posted_under name (e ∷ es) = cond (is_posted e) ((name e.request, e.request.delta) ∷ posted_under name es)
    (posted_under name es)

-- the amounts posted, each under its ordinal
abbrev pub posted_at : List DecidedRequest → List (ℕ × ℤ)
posted_at [] = []
posted_at (e ∷ es) = cond (is_posted e) ((length es + 1, e.request.delta) ∷ posted_at es) (posted_at es)

-- all that was posted
abbrev pub all_posted : List DecidedRequest → ℤ
all_posted es = posted_sum (λ r. true) es

sum_under : (name : RequestFields → ℕ) (test : ℕ → Bool) (es : List DecidedRequest)
    → sum_where test (posted_under name es) ≡ posted_sum (λ r. test (name r)) es
sum_under name test [] = refl
sum_under name test (e ∷ es) =
    elim (by_test (is_posted e)) [
      | inl p ↦ rw p (ap (λ (z : ℤ). cond (test (name e.request)) (z +ℤ e.request.delta) z)
          (sum_under name test es))
      | inr f ↦ rw f (sum_under name test es)
    ]

pub sum_at : (es : List DecidedRequest) → sum_where (λ o. true) (posted_at es) ≡ all_posted es
sum_at [] = refl
sum_at (e ∷ es) =
    elim (by_test (is_posted e)) [
      | inl p ↦ rw p (ap (λ (z : ℤ). z +ℤ e.request.delta) (sum_at es))
      | inr f ↦ rw f (sum_at es)
    ]

-- ---- rows that keep balances

-- rows of one kind: each has what was posted under its key, and each key that was posted to has one
pub one_sum : {R : Type 0} (key : R → ℕ) (balance : R → ℤ) (name : RequestFields → ℕ) (test : ℕ → Bool)
    (rows : List R) (es : List DecidedRequest) → HasKeys key rows
    → AllByRecursion (λ r. balance r ≡ posted_sum (λ x. eqb (name x) (key r)) es) rows
    → HaveRows key rows (posted_under name es)
    → total (map balance (filter (λ r. test (key r)) rows)) ≡ posted_sum (λ r. test (name r)) es
one_sum key balance name test rows es keys each have =
    values_are balance (λ r. sum_where (λ k. eqb k (key r)) (posted_under name es)) (λ r. test (key r)) rows
    (all_follow (λ r. balance r ≡ posted_sum (λ x. eqb (name x) (key r)) es)
    (λ r. balance r ≡ sum_where (λ k. eqb k (key r)) (posted_under name es)) rows
    (λ r e. e ∙ sym (sum_under name (λ k. eqb k (key r)) es)) each)
    ∙ spread key test rows (posted_under name es) keys have ∙ sum_under name test es

some_if : {R : Type 0} (b : Bool) (r x : R) → cond b (Some r) None ≡ Some x → x ≡ r
some_if true r x e = cc
some_if false r x e = absurd cc

pub teller_has : {runs : List ClosingRow} (t : Tables) (opened : ℕ → Option Terms) (es : List DecidedRequest) → HasRows t opened runs es
    → AllByRecursion (λ r. balance_of_teller r ≡ posted_sum (λ x. eqb x.teller (teller_key r)) es) t.tellers
teller_has t opened es s =
    all_follow (λ r. row_at teller_key t.tellers (teller_key r) ≡ Some r)
    (λ r. balance_of_teller r ≡ teller_balance es (teller_key r)) t.tellers
    (λ r e. ap balance_of_teller (some_if (is_teller_open opened r.teller)
    (teller_row_of r.teller (teller_balance es r.teller)) r (sym (s.tellers r.teller) ∙ e)))
    (each_under_its_key teller_key t.tellers s.teller_keys)

pub account_has : {runs : List ClosingRow} (t : Tables) (opened : ℕ → Option Terms) (es : List DecidedRequest) → HasRows t opened runs es
    → AllByRecursion (λ r. balance_of_account r ≡ posted_sum (λ x. eqb x.account (account_key r)) es)
    t.accounts
account_has t opened es s =
    all_follow (λ r. row_at account_key t.accounts (account_key r) ≡ Some r)
    (λ r. balance_of_account r ≡ account_balance es (account_key r)) t.accounts
    (λ r e. ap balance_of_account (some_if (is_account_open opened r.account)
    (account_row_of r.account (account_balance es r.account)) r (sym (s.accounts r.account) ∙ e)))
    (each_under_its_key account_key t.accounts s.account_keys)

branch_balance_is : (o : Option Terms) (b : ℕ) (z : ℤ) (r : BranchRow)
    → option_map (branch_row_of b z) o ≡ Some r
    → balance_of_branch r ≡ z
branch_balance_is (Some count) b z r e = let is : branch_row_of b z count ≡ r = cc in sym
    (ap balance_of_branch is)
branch_balance_is None b z r e = absurd cc

pub branch_has : {runs : List ClosingRow} (t : Tables) (opened : ℕ → Option Terms) (es : List DecidedRequest) → HasRows t opened runs es
    → AllByRecursion (λ r. balance_of_branch r ≡ posted_sum (λ x. eqb x.branch (branch_key r)) es) t.branches
branch_has t opened es s =
    all_follow (λ r. row_at branch_key t.branches (branch_key r) ≡ Some r)
    (λ r. balance_of_branch r ≡ branch_balance es (branch_key r)) t.branches
    (λ r e. branch_balance_is (opened r.branch) r.branch (branch_balance es r.branch) r
    (sym (s.branches r.branch) ∙ e))
    (each_under_its_key branch_key t.branches s.branch_keys)

-- ---- what was posted to has a row

some_is : {A : Type 0} (b : Bool) (x : A) → b ≡ true → is_some (cond b (Some x) None) ≡ true
some_is true x e = refl
some_is false x e = absurd cc

mapped_is : {A B : Type 0} (f : A → B) (o : Option A) → is_some o ≡ true → is_some (option_map f o) ≡ true
mapped_is f (Some x) e = refl
mapped_is f None e = absurd cc

-- each posting names a number under which there is a row
rows_have : {R : Type 0} (key : R → ℕ) (rows : List R) (name : RequestFields → ℕ) (es : List DecidedRequest)
    → AllByRecursion (λ e. is_posted e ≡ true → is_some (row_at key rows (name e.request)) ≡ true) es
    → HaveRows key rows (posted_under name es)
rows_have key rows name [] h = tt
rows_have key rows name (e ∷ es) h =
    elim (by_test (is_posted e)) [
      | inl p ↦ rw p (h.0 p, rows_have key rows name es h.1)
      | inr f ↦ rw f (rows_have key rows name es h.1)
    ]

pub tellers_have : {runs : List ClosingRow} (t : Tables) (opened : ℕ → Option Terms) (all es : List DecidedRequest)
    → HasRows t opened runs all
    → AllNameOpen opened es → HaveRows teller_key t.tellers (posted_under (λ r. r.teller) es)
tellers_have t opened all es s h =
    rows_have teller_key t.tellers (λ r. r.teller) es (all_follow (NamesOpen opened) _ es
    (λ e named p. let n = e.request.teller in ap is_some (s.tellers n)
    ∙ some_is (is_teller_open opened n) (teller_row_of n (teller_balance all n)) (named.teller p)) h)

pub accounts_have : {runs : List ClosingRow} (t : Tables) (opened : ℕ → Option Terms) (all es : List DecidedRequest)
    → HasRows t opened runs all
    → AllNameOpen opened es → HaveRows account_key t.accounts (posted_under (λ r. r.account) es)
accounts_have t opened all es s h =
    rows_have account_key t.accounts (λ r. r.account) es (all_follow (NamesOpen opened) _ es
    (λ e named p. let n = e.request.account in ap is_some (s.accounts n)
    ∙ some_is (is_account_open opened n) (account_row_of n (account_balance all n)) (named.account p)) h)

pub branches_have : {runs : List ClosingRow} (t : Tables) (opened : ℕ → Option Terms) (all es : List DecidedRequest)
    → HasRows t opened runs all
    → AllNameOpen opened es → HaveRows branch_key t.branches (posted_under (λ r. r.branch) es)
branches_have t opened all es s h =
    rows_have branch_key t.branches (λ r. r.branch) es (all_follow (NamesOpen opened) _ es
    (λ e named p. let n = e.request.branch in ap is_some (s.branches n)
    ∙ mapped_is (branch_row_of n (branch_balance all n)) (opened n) (open_home opened e named p)) h)
