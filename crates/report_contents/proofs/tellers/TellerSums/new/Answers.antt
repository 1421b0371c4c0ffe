-- Zeros, of which there is one for each branch.
use Rattle.std.proofs.Common.{◌≡◌, ◌≤◌, ◌-◌, ◌*◌, ◌∙◌, List, get_or, ap, subst, sym, arith}
use Rattle.std.specs.Prelude.{ℤ, pos, nat_abs}
use Rattle.report_contents.proofs.OneMore.{zeros}
use Rattle.report_contents.proofs.tellers.TellerSums.new.Goals as goal

pub invariant_of-result-clause-small : goal.invariant_of-result-clause-small
invariant_of-result-clause-small c i =
    let items = c.in_ok-by_branch.ensures.items_if_clones_equal (λ y e. e) in
    let none : get_or c.in_ok-by_branch.by_branch.items i (pos 0) ≡ pos 0 =
    ap (λ (l : List ℤ). get_or l i (pos 0)) items ∙ zeros 9999 i in
    subst (λ (z : ℤ). nat_abs z ≤ 9223372036854775808 * c.zero.result.count) (sym none) (omega arith)

pub returns : goal.returns
returns c =
    let items = c.in_ok-by_branch.ensures.items_if_clones_equal (λ y e. e) in
    record {
      all = record { count = c.zero.ensures.count; sum = c.zero.ensures.sum };
      by_branch = λ b some few. ap (λ (l : List ℤ). get_or l (b - 1) (pos 0)) items
          ∙ zeros 9999 (b - 1);
    }
