-- One run after another, by rising first numbers.
use Rattle.std.proofs.Common.{rules, ◌≡◌, ◌<◌, ◌++◌, ◌∙◌, List, length, take, get_or, ap, sym, subst, arith}
use Rattle.std.proofs.lemmas.List.{take_all}
use Rattle.std.specs.Prelude.{IsPermutation}
use Rattle.std.specs.List.Sorted.{IsNonDecreasingBy}
use Rattle.std.proofs.lemmas.List.Sorted.{IsNonDecreasingBy-from_sort_by_key}
use Rattle.posting_rules.specs.declared.rows.ClosingRow.{ClosingRow as Run}
use Rattle.posting_rules.specs.believed.Closings.{is_closed_in, meets}
use Rattle.posting_rules.specs.Numbers.{SameNumbers, as_list}
use Rattle.posting_rules.proofs.Joined.{begins_then, if_ok, none_begins, numbers_then}
use Rattle.posting_rules.proofs.Runs.{any_permuted}
use Rattle.posting_rules.proofs.number_runs.NumberRuns.of.Goals as goal

pub loop-run-init : goal.loop-run-init
loop-run-init c =
    let items = c.deref-run-items.result.now in
    let is : items ≡ c.sort_unstable_by_key.new.self.items = search rules in
    record {
      done = c.none-joining.ensures.done;
      order = λ k d low high.
          none_begins c.none-joining.result.done.items c.none-joining.result.longer (get_or items k d).first
          c.none-joining.ensures.none;
      numbers = λ x. ap (λ (l : List Run). is_closed_in l x) c.none-joining.ensures.none;
      rising = subst (λ (l : List Run). IsNonDecreasingBy (λ (r : Run). r.first) l) (sym is)
          (IsNonDecreasingBy-from_sort_by_key (λ (r : Run). r.first) _ c.sort_unstable_by_key.ensures.sorted
          (λ a r q k. search rules));
      same = subst (λ (l : List Run). IsPermutation c.args.runs.items l) (sym is)
          c.sort_unstable_by_key.ensures.permutation;
    }

pub loop-run-preserved : goal.loop-run-preserved
loop-run-preserved c =
    let items = c.deref-run-items.result.now in
    let i = c.loop-run.run-index in
    let lt : i < length items = omega arith in
    record {
      done = c.in_ok-add.ensures.done;
      order = λ k d low high.
          begins_then items i k _ d c.add.new.self.longer lt c.loop-run.invariant.rising low high
          c.in_ok-add.ensures.order;
      numbers = λ x. numbers_then items i _ x _ _ lt (c.in_ok-add.ensures.numbers x) (c.loop-run.invariant.numbers x);
      rising = c.loop-run.invariant.rising;
      same = c.loop-run.invariant.same;
    }

pub returns : goal.returns
returns c =
    let items = c.deref-run-items.result.now in
    let i = c.loop-run.run-index in
    let all : take i items ≡ items = take_all i items (omega arith) in
    if_ok (λ (numbers : List Run). numbers ≡ c.loop-run.joining.done.items ++ as_list c.loop-run.joining.longer)
    (λ numbers. SameNumbers numbers c.args.runs.items)
    (λ numbers is x. ap (λ (l : List Run). is_closed_in l x) is ∙ c.loop-run.invariant.numbers x
    ∙ ap (λ (l : List Run). is_closed_in l x) all ∙ any_permuted (meets x x) c.args.runs.items items c.loop-run.invariant.same)
    c.finish.result c.finish.ensures
