-- The tellers and the accounts of a branch are numbers in a row.
use Rattle.std.proofs.Common.{◌≡◌, ℕ, ◌+◌, ◌-◌, ◌*◌, ◌/◌, ◌%◌, ◌<◌, ◌≤◌, Bool, true, false, eqb, leb, ltb, refl, sym}
use Rattle.std.proofs.Common.{arith}
use Rattle.std.specs.Prelude.{◌&&◌}
use Rattle.std.proofs.lemmas.Bool.{and_parts, eqb-true, eq-eqb, leb-true, ltb-true, le-leb, lt-ltb}
use Rattle.posting_rules.specs.declared.limits.TheConstants.{MAX_ACCOUNTS, ACCOUNTS_PER_BRANCH}
use Rattle.posting_rules.specs.ChangesByKey.{is_from}
use Rattle.posting_rules.specs.believed.Numbering.{branch_of_teller, branch_of_account, place_of_account}
use Rattle.posting_rules.specs.believed.Numbering.{first_teller, first_account}

same_tests : (p q : Bool) → (p ≡ true → q ≡ true) → (q ≡ true → p ≡ true) → p ≡ q
same_tests true q f g = sym (f refl)
same_tests false true f g = g refl
same_tests false false f g = refl

and_true : (p q : Bool) → p ≡ true → q ≡ true → (p && q) ≡ true
and_true p q e f = rw (e, f) refl

pub tellers_in_a_row : (b n : ℕ) → 1 ≤ b
    → (leb 1 n && eqb b (branch_of_teller n)) ≡ is_from (first_teller b) 10 n
tellers_in_a_row b n hb =
    same_tests (leb 1 n && eqb b (branch_of_teller n)) (is_from (first_teller b) 10 n)
    (λ e. let two = and_parts (leb 1 n) (eqb b (branch_of_teller n)) e in
    let hn : 1 ≤ n = leb-true _ _ two.0 in
    let h : b ≡ (n - 1) / 10 + 1 = eqb-true _ _ two.1 in
    let low : first_teller b ≤ n = omega arith in
    let high : n < first_teller b + 10 = omega arith in
    and_true (leb (first_teller b) n) (ltb n (first_teller b + 10)) (le-leb _ _ low) (lt-ltb _ _ high))
    (λ e. let two = and_parts (leb (first_teller b) n) (ltb n (first_teller b + 10)) e in
    let low : 10 * (b - 1) + 1 ≤ n = leb-true _ _ two.0 in
    let high : n < 10 * (b - 1) + 1 + 10 = ltb-true _ _ two.1 in
    let hn : 1 ≤ n = omega arith in
    let h : b ≡ branch_of_teller n = omega arith in
    and_true (leb 1 n) (eqb b (branch_of_teller n)) (le-leb _ _ hn) (eq-eqb _ _ h))

pub accounts_in_a_row : (b n count : ℕ) → 1 ≤ b → count ≤ MAX_ACCOUNTS
    → (leb 1 n && (eqb b (branch_of_account n) && leb (place_of_account n) count)) ≡ is_from
    (first_account b) count n
accounts_in_a_row b n count hb hc =
    same_tests (leb 1 n && (eqb b (branch_of_account n) && leb (place_of_account n) count))
    (is_from (first_account b) count n)
    (λ e. let one = and_parts (leb 1 n) (eqb b (branch_of_account n) && leb (place_of_account n) count) e in
    let two = and_parts (eqb b (branch_of_account n)) (leb (place_of_account n) count) one.1 in
    let hn : 1 ≤ n = leb-true _ _ one.0 in
    let h : b ≡ (n - 1) / ACCOUNTS_PER_BRANCH + 1 = eqb-true _ _ two.0 in
    let p : (n - 1) % ACCOUNTS_PER_BRANCH + 1 ≤ count = leb-true _ _ two.1 in
    let low : first_account b ≤ n = omega arith in
    let high : n < first_account b + count = omega arith in
    and_true (leb (first_account b) n) (ltb n (first_account b + count)) (le-leb _ _ low) (lt-ltb _ _ high))
    (λ e. let two = and_parts (leb (first_account b) n) (ltb n (first_account b + count)) e in
    let low : ACCOUNTS_PER_BRANCH * (b - 1) + 1 ≤ n = leb-true _ _ two.0 in
    let high : n < ACCOUNTS_PER_BRANCH * (b - 1) + 1 + count = ltb-true _ _ two.1 in
    let hn : 1 ≤ n = omega arith in
    let h : b ≡ branch_of_account n = omega arith in
    let p : place_of_account n ≤ count = omega arith in
    and_true (leb 1 n) (eqb b (branch_of_account n) && leb (place_of_account n) count) (le-leb _ _ hn)
    (and_true (eqb b (branch_of_account n)) (leb (place_of_account n) count) (eq-eqb _ _ h) (le-leb _ _ p)))
