-- The branches so far are open, and the rest is posted.
use Rattle.std.proofs.Common.{◌≡◌, Err}
use Rattle.bank_replays.proofs.Filled.{all_open, below_first, below_more}
use Rattle.bank_replays.proofs.Exits.{fails_by}
use Rattle.bank_replays.proofs.refill.Refill.finish.Goals as goal

pub branches-init : goal.branches-init
branches-init g c = record {
  below = λ sure plan is log holds. below_first plan is log c.args.self.now holds;
}

pub branches-preserved : goal.branches-preserved
branches-preserved g c = record {
  below = λ sure plan is log holds.
      let it = c.branches.invariant.below sure plan is log holds in
      below_more plan is log c.branches.self c.open.new.self c.branches.branch it
      (c.in_ok-open.ensures.holds sure plan is it.now it.holds);
}

pub returns-clause-rest : goal.returns-clause-rest
returns-clause-rest g c sure plan is log holds =
    all_open plan is log c.branches.self c.post.new.self c.branches.branch c.branches-test.false
    (c.branches.invariant.below sure plan is log holds) c.post.result
    (λ now held. c.post.ensures.holds sure plan now held) c.post.ensures.empty

pub returns-in_err-open : goal.returns-in_err-open
returns-in_err-open g c =
    let same : c.from_residual.result ≡ Err c.in_err-open.field-0.0 = fails_by c.from_residual.ensures.1 in
    record {
      rest = λ sure plan is log holds. rw same tt;
      memory = rw same c.in_err-open.ensures.memory;
    }

pub returns-clause-memory : goal.returns-clause-memory
returns-clause-memory g c = c.post.ensures.memory
