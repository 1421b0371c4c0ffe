-- How many accounts there are, of which row an account is, and that a teller has one place.
use Rattle.std.proofs.Common.{◌≡◌, ◌≢◌, ◌<◌, ◌≤◌, ◌+◌, ◌-◌, ◌*◌, ◌/◌, ◌∷◌, ◌∙◌, ◌⊎◌, inl, inr, ℕ, zero, suc, [], Bool}
use Rattle.std.proofs.Common.{true, false, not, length, get_or, map, All, arith, refl, sym, ap, None, subst, nat_eq}
use Rattle.std.proofs.Common.{nat_lt, cond}
use Rattle.std.specs.{Prelude.Contains, List.AllByRecursion, List.IsDistinct, List.flat_map}
use Rattle.std.proofs.lemmas.{Bool.cases_Bool, Bool.false≢true, Bool.Decides.nat_tests, List.Elements.All-tail}
use Rattle.std.proofs.lemmas.{List.FromFn.length-range_with_len, List.Sums.sum_by-cons, Map.Keys.apart_from_distinct}
use Rattle.std.proofs.lemmas.List.{get_or-map, length-append, length-map}
use Rattle.posting_rules.specs.{declared.limits.TheConstants.TELLERS_PER_BRANCH, believed.Numbering.first_account}
use Rattle.branch_loader.specs.{believed.Plans.Rows, believed.Plans.Row, Plans.IsPlan, Plans.IsRow}
use Rattle.load_driver.specs.{OfPlan.IsAccountFor, OfPlan.IsAccountOf, Requests.CountsOthers}
use Rattle.load_driver.specs.believed.Requests.{accounts_of, count_of, home_of, others, remote_accounts, teller_of}
use Rattle.load_driver.proofs.Remote.{at-after, at-home, at-other}

-- an element is the first, or one of the rest
first_or_rest : (p : Row) (rows : Rows) (q : Row) → Contains (p ∷ rows) q → (p ≡ q) ⊎ Contains rows q
first_or_rest p rows q (zero, within, is) = inl is
first_or_rest p rows q (suc k, within, is) = inr (k, omega arith, is)

in_rest : (p : Row) (rows : Rows) (q : Row) → Contains rows q → Contains (p ∷ rows) q
in_rest p rows q (k, within, is) = (suc k, omega arith, is)

-- ---- counts of accounts

count-cons : (p : Row) (rows : Rows) → count_of (p ∷ rows) ≡ p.1 + count_of rows
count-cons p rows = sum_by-cons (λ (x : Row). x.1) p rows

-- the accounts of rows are as many as their counts say
pub length-accounts : (rows : Rows) → length (flat_map accounts_of rows) ≡ count_of rows
length-accounts [] = refl
length-accounts (p ∷ rows) =
    length-append (accounts_of p) (flat_map accounts_of rows)
    ∙ rw (length-range_with_len (first_account p.0) p.1, length-accounts rows) (sym (count-cons p rows))

-- where no row is the branch's, all are the others'
none-here : (branch : ℕ) (rows : Rows) → AllByRecursion (λ y. nat_eq branch y ≡ false) (map (λ p. p.0) rows)
    → others branch rows ≡ rows
none-here branch [] h = refl
none-here branch (p ∷ rows) h =
    let f : nat_eq p.0 branch ≡ false = (let e = h.0 in grind (arith, nat_tests, e)) in
    rw f (ap (λ (rest : Rows). p ∷ rest) (none-here branch rows h.1))

-- a branch that no row names
not-named : (branch : ℕ) (rows : Rows) (q : Row)
    → AllByRecursion (λ y. nat_eq branch y ≡ false) (map (λ p. p.0) rows) → Contains rows q
    → nat_eq branch q.0 ≡ false
not-named branch [] q h (k, within, is) = absurd (omega arith)
not-named branch (p ∷ rows) q h there = by (first_or_rest p rows q there)
    (λ rest. not-named branch rows q h.1 rest)
  where
    by : (p ≡ q) ⊎ Contains rows q → (Contains rows q → nat_eq branch q.0 ≡ false) → nat_eq branch q.0 ≡ false
    by (inl e) more = rw (← e) h.0
    by (inr rest) more = more rest

-- the other branches have all accounts but the branch's
pub count-others : (rows : Rows) (home : Row) → IsDistinct nat_eq (map (λ p. p.0) rows) → Contains rows home
    → count_of rows ≡ home.1 + count_of (others home.0 rows)
unfolding IsDistinct
count-others [] home distinct (k, within, is) = absurd (omega arith)
count-others (p ∷ rows) home distinct there = by (first_or_rest p rows home there)
    (λ rest. count-others rows home distinct.1 rest)
  where
    by : (p ≡ home) ⊎ Contains rows home
        → (Contains rows home → count_of rows ≡ home.1 + count_of (others home.0 rows))
        → count_of (p ∷ rows) ≡ home.1 + count_of (others home.0 (p ∷ rows))
    by (inl e) more =
        let t : nat_eq p.0 p.0 ≡ true = grind (arith, nat_tests) in
        let same : count_of (p ∷ rows) ≡ p.1 + count_of (others p.0 (p ∷ rows)) =
        rw t (count-cons p rows ∙ ap (λ (rest : Rows). p.1 + count_of rest)
        (sym (none-here p.0 rows distinct.0))) in
        subst (λ (h : Row). count_of (p ∷ rows) ≡ h.1 + count_of (others h.0 (p ∷ rows))) e same
    by (inr rest) more =
        let t : nat_eq p.0 home.0 ≡ false = not-named p.0 rows home distinct.0 rest in
        let after = more rest in
        rw t (omega (arith, count-cons p rows, count-cons p (others home.0 rows)))

-- the others' accounts are all but the branch's own
pub counts-others : (rows : Rows) → IsPlan rows → CountsOthers rows
counts-others rows plan home there =
    let all = count-others rows home plan.distinct there in
    let list = length-accounts (others home.0 rows) in
    omega arith

-- a plan of more branches than one has accounts beside those of any
pub others-some : (rows : Rows) (branch : ℕ) → IsPlan rows → 0 < length rows → ¬ (length rows ≡ 1)
    → 0 < count_of (others branch rows)
unfolding IsDistinct
others-some [] branch plan some more = absurd (omega arith)
others-some (p ∷ []) branch plan some more = absurd (more refl)
others-some (p ∷ q ∷ rows) branch plan some more =
    by (nat_eq p.0 branch) (nat_eq q.0 branch)
    (λ a b. let apart = plan.distinct.0.0 in grind (arith, nat_tests, a, b, apart))
    (plan.in_range 0 p (omega arith)).2 (plan.in_range 1 p (omega arith)).2
  where
    by : (a b : Bool) (distinct : a ≡ true → b ≡ true → ⊥) → 1 ≤ p.1 → 1 ≤ q.1
        → 0 < count_of (cond (not a) (p ∷ cond (not b) (q ∷ others branch rows) (others branch rows))
        (cond (not b) (q ∷ others branch rows) (others branch rows)))
    by true true distinct h k = absurd (distinct refl refl)
    by true false distinct h k = rw (count-cons q (others branch rows)) (omega arith)
    by false true distinct h k = rw (count-cons p (others branch rows)) (omega arith)
    by false false distinct h k = rw (count-cons p (q ∷ others branch rows)) (omega arith)

-- ---- of which row an account is

-- an account at a place below the row's count
pub within-row : (p : Row) (k : ℕ) → IsRow p → k < p.1 → IsAccountOf p (first_account p.0 + k)
within-row p k row small =
    let low = row.0 in
    let high = row.3 in
    record { some = omega arith; branch = omega arith; place = omega arith }

-- an account of another branch of the plan
pub record IsElsewhere (rows : Rows) (branch account : ℕ) : Type 0 where
  pub row : Row
  pub planned : Contains rows row
  pub other : row.0 ≢ branch
  pub within : IsAccountOf row account

elsewhere-more : (p : Row) (rows : Rows) (branch account : ℕ) → IsElsewhere rows branch account
    → IsElsewhere (p ∷ rows) branch account
elsewhere-more p rows branch account e =
    record { row = e.row; planned = in_rest p rows e.row e.planned; other = e.other; within = e.within }

-- the accounts of the other branches are such
pub elsewhere : (branch : ℕ) (rows : Rows) (place : ℕ) → All IsRow rows
    → place < count_of (others branch rows)
    → IsElsewhere rows branch (get_or (remote_accounts branch rows) place 0)
elsewhere branch [] place all within = absurd (omega arith)
elsewhere branch (p ∷ rows) place all within =
    by (cases_Bool (nat_eq p.0 branch)) (cases_Bool (nat_lt place p.1))
    (λ left small. elsewhere branch rows left (All-tail IsRow p rows all) small)
  where
    by : (nat_eq p.0 branch ≡ true) ⊎ (nat_eq p.0 branch ≡ false)
        → (nat_lt place p.1 ≡ true) ⊎ (nat_lt place p.1 ≡ false)
        → ((left : ℕ) → left < count_of (others branch rows)
        → IsElsewhere rows branch (get_or (remote_accounts branch rows) left 0))
        → IsElsewhere (p ∷ rows) branch (get_or (remote_accounts branch (p ∷ rows)) place 0)
    by (inl same) c more =
        let here : p.0 ≡ branch = grind (arith, nat_tests, same) in
        rw (at-home branch p rows here)
        (elsewhere-more p rows branch _ (more place (rw same at within)))
    by (inr apart) (inl first) more =
        let other : p.0 ≢ branch = grind (arith, nat_tests, apart) in
        let small : place < p.1 = grind (arith, nat_tests, first) in
        rw (at-other branch p rows place other small)
        (record {
          row = p;
          planned = (0, omega arith, refl);
          other = other;
          within = within-row p place (all 0 p (omega arith)) small;
        })
    by (inr apart) (inr after) more =
        let other : p.0 ≢ branch = grind (arith, nat_tests, apart) in
        let large : p.1 ≤ place = grind (arith, nat_tests, after) in
        let rest : place < count_of (p ∷ others branch rows) = rw apart at within in
        let left : place - p.1 < count_of (others branch rows) = omega
        (arith, count-cons p (others branch rows)) in
        rw (at-after branch p rows place other large)
        (elsewhere-more p rows branch _ (more (place - p.1) left))

-- an account of another branch
pub remote-for : (rows : Rows) (home : Row) (test : Bool) (place : ℕ) → IsPlan rows → test ≡ false
    → place < count_of (others home.0 rows)
    → IsAccountFor rows home test (get_or (remote_accounts home.0 rows) place 0)
remote-for rows home test place plan is small =
    let there = elsewhere home.0 rows place plan.in_range small in
    record {
      row = there.row;
      planned = there.planned;
      within = there.within;
      at_home = (
        λ t. absurd (false≢true (sym is ∙ t)),
        λ e. absurd (there.other (sym there.within.branch ∙ e)),
      );
    }

-- ---- a teller has one place

differ : (a b : ℕ) → nat_eq a b ≡ false → a ≡ b → ⊥
differ a b e f = grind (arith, nat_tests, e, f)

-- rows of one branch stand at one place
one_row : (rows : Rows) (i j : ℕ) → IsPlan rows → i < length rows → j < length rows
    → (get_or rows i (0, 0, None)).0 ≡ (get_or rows j (0, 0, None)).0
    → i ≤ j
one_row rows i j plan small within same = by (cases_Bool (nat_lt j i))
  where
    by : (nat_lt j i ≡ true) ⊎ (nat_lt j i ≡ false) → i ≤ j
    by (inr e) = grind (arith, nat_tests, e)
    by (inl e) =
        let lt : j < i = grind (arith, nat_tests, e) in
        let last : i < length (map (λ (p : Row). p.0) rows) = rw length-map small in
        let apart = apart_from_distinct nat_eq (map (λ (p : Row). p.0) rows) j i 0 plan.distinct lt last in
        let first : get_or (map (λ (p : Row). p.0) rows) j 0 ≡ (get_or rows j (0, 0, None)).0 =
        get_or-map (λ (p : Row). p.0) rows j (0, 0, None) 0 within in
        let second : get_or (map (λ (p : Row). p.0) rows) i 0 ≡ (get_or rows i (0, 0, None)).0 =
        get_or-map (λ (p : Row). p.0) rows i (0, 0, None) 0 small in
        absurd (differ _ _ apart (first ∙ sym same ∙ sym second))

some-branch : (rows : Rows) (t : ℕ) → IsPlan rows → t < TELLERS_PER_BRANCH * length rows
    → 1 ≤ (home_of rows t).0
some-branch rows t plan small = let row = plan.in_range (t / TELLERS_PER_BRANCH) (0, 0, None) (omega arith) in row.0

-- two places have two tellers
pub one_teller : (rows : Rows) (t u : ℕ) → IsPlan rows → t < TELLERS_PER_BRANCH * length rows
    → u < TELLERS_PER_BRANCH * length rows → teller_of rows t ≡ teller_of rows u
    → t ≡ u
one_teller rows t u plan small within same =
    let first = some-branch rows t plan small in
    let second = some-branch rows u plan within in
    let branch : (home_of rows t).0 ≡ (home_of rows u).0 = omega arith in
    let up = one_row rows (t / TELLERS_PER_BRANCH) (u / TELLERS_PER_BRANCH) plan (omega arith)
    (omega arith) branch in
    let down = one_row rows (u / TELLERS_PER_BRANCH) (t / TELLERS_PER_BRANCH) plan (omega arith) (omega arith)
    (sym branch) in
    omega arith
