-- The run that was made longer comes before the next.
use Rattle.std.proofs.Common.{sym, ◌∙◌, arith}
use Rattle.posting_rules.proofs.Joined.{next_apart}
use Rattle.posting_rules.proofs.number_runs.Joining.add.Goals as goal

pub returns-clause-done : goal.returns-clause-done
returns-clause-done c = (
  next_apart c.args.self.now.done.items c.push.new.self.items c.in-Some.run' c.args.next c.args.self.now.longer
      c.in-Some.is c.requires.done (sym c.touches.ensures ∙ c.if-touches.false) c.in_ok-push.ensures.items,
  omega arith,
)
