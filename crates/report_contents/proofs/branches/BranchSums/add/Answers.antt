-- One more branch.
use Rattle.std.proofs.Common.{rules, ◌<◌, ◌∙◌, length, sym, arith, w64, FitsSigned}
use Rattle.std.specs.Int.{w128}
use Rattle.std.proofs.{lemmas.Int.to_z-of_z, lemmas.List.length-map}
use Rattle.report_contents.specs.Audit.{branch_balance}
use Rattle.report_contents.proofs.OneMore.{sum_more_64, line_is, line_none, lines_after, branch_differs}
use Rattle.report_contents.proofs.OneMore.{branch_agrees}
use Rattle.report_contents.proofs.branches.BranchSums.add.Goals as goal

pub returns-then-tellers-from : goal.returns-then-tellers-from
returns-then-tellers-from c = record {
  added = λ tellers branches h k.
      let s = c.args.self.now in
      let b = c.args.branch in
      let fit : FitsSigned w64 b.balance = search rules in
      let wide : FitsSigned w128 c.of-tellers.result = search rules in
      let sum = c.of-tellers.ensures tellers h in
      let balance = to_z-of_z w64 b.balance fit in
      let (before, rows, had, few) = c.requires.room in
      let all = had.all.count in
      let same = length-map rows branch_balance in
      let below = s.few in
      let room = s.room in
      let low : s.differing < length s.lines.items = omega (arith, all, same, few, below, room) in
      record {
        all = sum_more_64 branch_balance s.all c.plus-self.result branches b fit k.all
            c.plus-self.ensures.count c.plus-self.ensures.sum;
        lines = lines_after s.lines.items s.differing _ tellers branches b low k.lines
            (line_is tellers b c.get.result _ _ c.get.ensures.value
            (to_z-of_z w128 c.of-tellers.result wide ∙ sum) balance)
            (branch_differs tellers b c.of-tellers.result c.from.result sum (c.from.ensures ∙ balance)
            c.if-tellers-from.true);
      };
}

pub returns-else-tellers-from : goal.returns-else-tellers-from
returns-else-tellers-from c = record {
  added = λ tellers branches h k.
      let b = c.args.branch in
      let fit : FitsSigned w64 b.balance = search rules in
      let wide : FitsSigned w128 c.of-tellers.result = search rules in
      let from_wide : FitsSigned w128 c.from.result = search rules in
      record {
        all = sum_more_64 branch_balance c.args.self.now.all c.plus-self.result branches b fit k.all
            c.plus-self.ensures.count c.plus-self.ensures.sum;
        lines = k.lines ∙ sym (line_none tellers branches b
            (branch_agrees tellers b c.of-tellers.result c.from.result wide from_wide
            (c.of-tellers.ensures tellers h) (c.from.ensures ∙ to_z-of_z w64 b.balance fit)
            c.if-tellers-from.false));
      };
}
