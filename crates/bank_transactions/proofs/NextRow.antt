-- The first row above a number, where rows stand by rising numbers.
use Rattle.std.proofs.Common.{◌≡◌, ℕ, suc, pos, ◌<◌, ◌≤◌, nat_lt, true, false, List, [], ◌∷◌, map, Option, Some, None}
use Rattle.std.proofs.Common.{refl, arith, inl, inr}
use Rattle.std.specs.Prelude.{All, find}
use Rattle.std.specs.{List.AllByRecursion, Ordering.int_cmp, declared.cmp.Ordering.TheVariants.Less}
use Rattle.std.proofs.lemmas.{Bool.Decides.nat_tests, Int.ints, List.Elements.All-cons, List.Elements.All-nil}
use Rattle.posting_rules.specs.{Branches.IsNextIn, believed.Tables.Tables, declared.rows.BranchRow.BranchRow}
use Rattle.posting_rules.proofs.Keyed.{by_test}
use Rattle.sqlite.specs.Effect.{Database}
use Rattle.sql_meanings.specs.believed.Entries.{Rise}
use Rattle.store_rows.specs.Columns.{branch_above}
use Rattle.store_rows.specs.believed.View.{Shows, branch_entry}

rising : (a b : ℕ) → int_cmp (pos a) (pos b) ≡ Less → a < b
rising a b h = grind (arith, ints)

is_above : (a b : ℕ) → nat_lt a b ≡ true → a < b
is_above a b h = grind (arith, nat_tests)

not_above : (a b : ℕ) → nat_lt a b ≡ false → b ≤ a
not_above a b h = grind (arith, nat_tests)

-- the rows after the first are above it
after_first : (row : BranchRow) (rows : List BranchRow) (after : ℕ)
    → AllByRecursion (λ e. int_cmp (pos row.branch) e.key ≡ Less) (map branch_entry rows)
    → All (λ r. after < r.branch → row.branch ≤ r.branch) rows
after_first row [] after h = All-nil (λ r. after < r.branch → row.branch ≤ r.branch)
after_first row (r ∷ rows) after h =
    All-cons (λ x. after < x.branch → row.branch ≤ x.branch) r rows
    (λ high. let lt = rising row.branch r.branch h.0 in omega arith) (after_first row rows after h.1)

-- a row that isn't above the number, in front of the others
next_after : (row : BranchRow) (rows : List BranchRow) (after : ℕ) (next : Option BranchRow)
    → row.branch ≤ after
    → IsNextIn rows after next → IsNextIn (row ∷ rows) after next
next_after row rows after None low is = All-cons (λ r. r.branch ≤ after) row rows low is
next_after row rows after (Some found) low is =
    let place = is.stands in
    let lt = place.1 in
    record {
      stands = (suc place.0, omega arith, place.2);
      above = is.above;
      least =
          All-cons (λ r. after < r.branch → found.branch ≤ r.branch) row rows
          (λ high. absurd (omega arith)) is.least;
    }

first_above : (rows : List BranchRow) (after : ℕ) → Rise (map branch_entry rows)
    → IsNextIn rows after (find (λ r. nat_lt after r.branch) rows)
first_above [] after rise = All-nil (λ r. r.branch ≤ after)
first_above (row ∷ rows) after rise =
    elim (by_test (nat_lt after row.branch)) [
      | inl high ↦ rw high (record {
        stands = (0, omega arith, refl);
        above = is_above after row.branch high;
        least =
            All-cons (λ r. after < r.branch → row.branch ≤ r.branch) row rows (λ _. omega arith)
            (after_first row rows after rise.0);
      })
      | inr low ↦ rw low (next_after row rows after (find (λ r. nat_lt after r.branch) rows)
          (not_above after row.branch low) (first_above rows after rise.1))
    ]

-- the branch above a number that a database shows is the one with the least number
pub next_is : (db : Database) (t : Tables) (after : ℕ) → Shows db t
    → IsNextIn t.branches after (branch_above t after)
next_is db t after shows = first_above t.branches after shows.each.1.0.rows.rise
