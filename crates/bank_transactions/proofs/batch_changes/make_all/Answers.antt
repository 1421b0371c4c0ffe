-- One change more is made.
use Rattle.std.proofs.Common.{◌≡◌, ◌<◌, take, length, arith, ap}
use Rattle.std.proofs.Math.Seq.{take-length}
use Rattle.bank_transactions.proofs.{Loops.make_more, Running.writes_err, Running.writes_for, Running.writes_none}
use Rattle.bank_transactions.proofs.Remembered.{followed_next, followed_none}
use Rattle.bank_transactions.proofs.Exits.{clean_at, handed_on, survives_itself}
use Rattle.bank_transactions.proofs.batch_changes.make_all.Goals as goal

pub loop-change-init : goal.loop-change-init
loop-change-init g c = record {
  writes = writes_for (writes_none (survives_itself _)) (λ t so. (so, g.met.C.Change.in_turn.none t));
  follows = followed_none g.S.Store c.args.tx.now c.args.memory.now;
}

pub loop-change-preserved : goal.loop-change-preserved
loop-change-preserved g c =
    let i = c.loop-change.change-index in
    let lt : i < length c.args.changes.now = omega arith in
    let so_far = c.loop-change.invariant in
    let one = c.in_ok-make.ensures in
    record {
      writes = make_more g.C.Change.made g.C.Change.May g.met.C.Change.in_turn g.met.C.Change.alike c.args.changes.now i
          c.change-item.result lt c.change-item.is so_far.writes one.writes;
      follows = followed_next c.make.new.tx c.args.memory.now c.loop-change.memory c.make.new.memory so_far.writes.does
          (clean_at one.writes.does.says.survives) so_far.follows one.follows;
    }

pub returns-in_err-make : goal.returns-in_err-make
returns-in_err-make g c =
    let same = handed_on c.from_residual.result c.from_residual.ensures.1 in
    let i = c.loop-change.change-index in
    let lt : i < length c.args.changes.now = omega arith in
    rw same (record {
      writes = writes_err
          (make_more g.C.Change.made g.C.Change.May g.met.C.Change.in_turn g.met.C.Change.alike c.args.changes.now i
          c.change-item.result
          lt c.change-item.is
          c.loop-change.invariant.writes c.in_err-make.ensures.writes) (λ t so. so);
      follows = tt;
    })

pub returns-clause-writes : goal.returns-clause-writes
returns-clause-writes g c =
    let xs = c.args.changes.now in
    let at_end : take c.loop-change.change-index xs
    ≡ xs = (let e : c.loop-change.change-index ≡ length xs = omega arith in rw e (take-length xs)) in
    writes_for c.loop-change.invariant.writes (λ t so. (so, ap (λ ys. g.C.Change.made ys t) at_end))

pub returns-clause-follows : goal.returns-clause-follows
returns-clause-follows g c = c.loop-change.invariant.follows
