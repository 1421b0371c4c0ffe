use Rattle.std.proofs.Common.{◌≡◌, ◌<◌, map, nat_eq, arith, rules, length, None}
use Rattle.std.specs.{Prelude.IsPermutation, List.Sorted.IsNonDecreasing, List.Sorted.IsNonDecreasingBy}
use Rattle.std.proofs.lemmas.{Bool.Decides.nat_tests, List.get_or-map, List.length-map}
use Rattle.std.proofs.lemmas.Map.Keys.{IsDistinct-IsPermutation, IsStrictlyIncreasing-from_distinct}
use Rattle.std.proofs.lemmas.List.Sorted.{All-permutation, IsNonDecreasingBy-from_sort_by_key, IsPermutation-map}
use Rattle.branch_loader.specs.{believed.Plans.Rows, believed.Plans.Row, Plans.IsPlan, Plans.IsRow}
use Rattle.load_driver.specs.believed.Requests.{IsAscending}
use Rattle.load_driver.proofs.driver.ascending.Goals as goal

-- a plan in another order is a plan
moved : (xs ys : Rows) → IsPermutation xs ys → IsPlan xs → IsPlan ys
moved xs ys p plan = record {
  in_range = All-permutation IsRow xs ys p plan.in_range;
  distinct = IsDistinct-IsPermutation nat_eq (λ x y. grind (arith, nat_tests)) (map (λ q. q.0) xs)
      (map (λ q. q.0) ys)
      (IsPermutation-map (λ (q : Row). q.0) xs ys p) plan.distinct;
}

-- branches in order
rising : (ys : Rows) → IsNonDecreasingBy (λ p. p.0) ys → IsNonDecreasing (map (λ p. p.0) ys)
rising ys h i j d le lt =
    let within : j < length ys = rw length-map at lt in
    let before : i < length ys = omega arith in
    rw (
      get_or-map (λ (q : Row). q.0) ys i (d, 0, None) d before,
      get_or-map (λ (q : Row). q.0) ys j (d, 0, None) d within,
    ) (h i j (d, 0, None) le within)

sorted : (xs ys : Rows) → IsPermutation xs ys → IsPlan xs → IsNonDecreasingBy (λ p. p.0) ys
    → IsAscending xs ys
sorted xs ys same plan sorted_by =
    let plan_ys = moved xs ys same plan in
    record {
      same = same;
      rising = IsStrictlyIncreasing-from_distinct _ (rising ys sorted_by)
          plan_ys.distinct;
    }

pub returns-clause-plan : goal.returns-clause-plan
returns-clause-plan c =
    moved c.args.rows.now _
    (let e : c.in_ok-rows.rows.items ≡ c.args.rows.now = search rules in
    rw e at c.sort_unstable_by_key.ensures.permutation) c.requires

pub returns-clause-ascending : goal.returns-clause-ascending
returns-clause-ascending c =
    sorted c.args.rows.now c.sort_unstable_by_key.new.self.items
    (let e : c.in_ok-rows.rows.items ≡ c.args.rows.now = search rules in
    rw e at c.sort_unstable_by_key.ensures.permutation) c.requires
    (IsNonDecreasingBy-from_sort_by_key (λ (p : Row). p.0) _ c.sort_unstable_by_key.ensures.sorted
    (λ a r q k. search rules))
