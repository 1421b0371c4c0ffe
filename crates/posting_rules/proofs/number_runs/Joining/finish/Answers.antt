-- All of them rise.
use Rattle.posting_rules.proofs.Joined.{run_rises}
use Rattle.posting_rules.proofs.number_runs.Joining.finish.Goals as goal

pub invariant_of-result-2 : goal.invariant_of-result-2
invariant_of-result-2 c =
    run_rises c.args.self.done.items c.push.new.self.items c.in-Some.run' c.args.self.longer c.in-Some.is c.requires
    c.in_ok-push.ensures.items
