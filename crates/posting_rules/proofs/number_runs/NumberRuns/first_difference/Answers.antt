-- The first place at which they differ, or none.
use Rattle.std.proofs.Common.{rules, ◌≡◌, ◌∙◌, sym, subst, arith}
use Rattle.posting_rules.specs.Numbers.{RiseFrom}
use Rattle.posting_rules.proofs.FirstApart.{differ_here, none_here, of_places, same_all}
use Rattle.posting_rules.proofs.number_runs.NumberRuns.first_difference.Goals as goal

pub returns-in-Some : goal.returns-in-Some
returns-in-Some c =
    let one = c.as_slice-one.result.now in
    let two = c.as_slice-two.result.now in
    let first : one ≡ c.args.self.now = search rules in
    let second : two ≡ c.args.other.now = search rules in
    let rise : RiseFrom 0 one = subst (RiseFrom 0) (sym c.as_slice-one.ensures.value) c.self.invariant in
    let other : RiseFrom 0 two = subst (RiseFrom 0) (sym c.as_slice-two.ensures.value) c.other.invariant in
    rw (first, second) at
    (differ_here one two c.loop-place.place c.in-Some.number rise other c.loop-place.invariant
    (of_places one two c.loop-place.place _ _ _ _ c.apart_at.ensures c.run_at.ensures c.run_at-in-loop-place.ensures c.in-Some.is))

pub loop-place-preserved : goal.loop-place-preserved
loop-place-preserved c =
    let one = c.as_slice-one.result.now in
    let two = c.as_slice-two.result.now in
    c.loop-place.invariant
    ∙ none_here c.loop-place.place one two
    (of_places one two c.loop-place.place _ _ _ _ c.apart_at.ensures c.run_at.ensures c.run_at-in-loop-place.ensures c.in-None.is)

pub returns : goal.returns
returns c x =
    let one = c.as_slice-one.result.now in
    let two = c.as_slice-two.result.now in
    let first : one ≡ c.args.self.now = search rules in
    let second : two ≡ c.args.other.now = search rules in
    rw (first, second) at (same_all one two c.loop-place.place (omega arith) (omega arith) c.loop-place.invariant x)
