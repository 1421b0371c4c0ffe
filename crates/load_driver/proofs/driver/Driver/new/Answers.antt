use Rattle.std.proofs.Common.{◌≡◌, ◌<◌, ◌*◌, ◌∙◌, ℕ, arith, rules, refl, length, ap, ◌≢◌, ◌∷◌, [], List}
use Rattle.std.proofs.lemmas.List.{get_or-replicate, length-replicate, Sorted.length_permutation}
use Rattle.posting_rules.specs.declared.limits.TheConstants.{TELLERS_PER_BRANCH}
use Rattle.load_driver.specs.believed.Requests.{earlier}
use Rattle.load_driver.proofs.Totals.{counts-others}
use Rattle.load_driver.proofs.driver.Driver.new.Goals as goal

-- a list that isn't empty
positive : {X : Type 0} (xs : List X) → xs ≢ [] → 0 < length xs
positive [] h = absurd (h refl)
positive (x ∷ xs) h = omega arith

pub invariant_of-result : goal.invariant_of-result
unfolding earlier
invariant_of-result c =
    let items = c.in-Ok-vec.ensures.items_if_clones_equal (λ y e. e) in
    let many : c.len.result ≡ length c.in-Ok.rows.items = c.len.ensures ∙ c.in-Ok.rows.ok.0 in
    let same = length_permutation c.rows-2.result.now c.in-Ok.rows.items c.in-Ok.ensures.ascending.same in
    let again : c.rows-2.result.now ≡ c.rows.result.now = cc (c.rows.ensures.rows, c.rows-2.ensures.rows) in
    let some : c.rows.result.now ≢ [] = search rules in
    record {
      plan = c.in-Ok.ensures.plan;
      some = rw same (positive c.rows-2.result.now (rw again some));
      within = omega arith;
      words_at = c.words_of.ensures;
      counts_at = record {
        len = rw items (length-replicate (TELLERS_PER_BRANCH * c.len.result) 0
            ∙ ap (λ (n : ℕ). TELLERS_PER_BRANCH * n) many);
        of_each = λ place small. rw items
            (get_or-replicate (TELLERS_PER_BRANCH * c.len.result) place 0 0 (omega arith));
      };
    }

pub returns-clause-others : goal.returns-clause-others
returns-clause-others c = counts-others c.in-Ok.rows.items c.in-Ok.ensures.plan
