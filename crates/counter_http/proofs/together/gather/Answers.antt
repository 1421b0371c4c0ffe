use Rattle.std.proofs.Common.{◌≡◌, ◌≤◌, Ok, arith}
use Rattle.std.proofs.lemmas.Result.{err_from_is_err_and}
use Rattle.counter_http.proofs.Gathering.{all_from, elsewhere, gathers_err, gathers_nothing, gathers_then}
use Rattle.counter_http.proofs.Gathering.{passed_at_first, passed_then}
use Rattle.counter_http.proofs.Still.{as_many, differ_still}
use Rattle.counter_http.proofs.Moves.{over_more, over_none}
use Rattle.counter_http.proofs.together.gather.Goals as goal

pub loop-place-init : goal.loop-place-init
loop-place-init g c = record {
  gathers = gathers_nothing g.C.Counter.seen c.args.bank.now c.args.here.now.items c.args.batch.now c.requires.gives;
  over = over_none c.args.here.now.items c.args.from c.args.batch.now;
  passed = passed_at_first c.args.from c.args.to c.args.batch.now.senders.items c.requires.order c.requires.beyond;
  spares = g.met.C.Counter.spares_itself c.args.bank.now;
}

pub gather_at-requires : goal.gather_at-requires
gather_at-requires g c =
    let same = c.loop-place.invariant.gathers.beside.same in record {
      within = omega (
        arith,
        c.loop-place-test.true,
        c.requires.within,
        as_many c.args.here.now.items c.loop-place.here.items same,
      );
      others = differ_still c.args.here.now.items c.loop-place.here.items same c.requires.others;
      gives = c.loop-place.invariant.gathers.gives;
      elsewhere = elsewhere c.args.from c.loop-place.place c.args.to c.loop-place.batch.senders.items
          c.loop-place-test.true c.loop-place.invariant.passed;
    }

-- the bank refused a call
pub returns-in_err-gather_at : goal.returns-in_err-gather_at
returns-in_err-gather_at g c =
    let failed = err_from_is_err_and c.from_residual.result c.from_residual.ensures.1 in record {
      gathers = rw (failed.1, failed.2) (gathers_err (gathers_then g.C.Counter.seen c.args.bank.now c.loop-place.bank
          c.gather_at.new.bank c.args.here.now.items c.loop-place.here.items c.gather_at.new.here.items c.loop-place.batch
          c.gather_at.new.batch _ c.loop-place.invariant.gathers c.in_err-gather_at.ensures.gathers));
      places = rw failed.1 tt;
      looks = rw failed.1 tt;
      spares = g.met.C.Counter.spares_then c.args.bank.now c.loop-place.bank c.gather_at.new.bank
          c.loop-place.invariant.spares c.in_err-gather_at.ensures.spares;
    }

pub loop-place-preserved : goal.loop-place-preserved
loop-place-preserved g c =
    let order : c.args.from ≤ c.loop-place.place = omega arith in
    record {
      gathers = gathers_then g.C.Counter.seen c.args.bank.now c.loop-place.bank c.gather_at.new.bank
          c.args.here.now.items c.loop-place.here.items c.gather_at.new.here.items c.loop-place.batch
          c.gather_at.new.batch (Ok tt) c.loop-place.invariant.gathers c.in_ok-gather_at.ensures.gathers;
      over = over_more c.args.here.now.items c.loop-place.here.items c.gather_at.new.here.items c.args.from
          c.loop-place.place c.args.batch.now c.loop-place.batch c.gather_at.new.batch order c.loop-place.invariant.over
          c.in_ok-gather_at.ensures.looks c.in_ok-gather_at.ensures.adds;
      passed = passed_then c.args.from c.loop-place.place c.args.to c.loop-place.batch c.gather_at.new.batch order
          c.in_ok-gather_at.ensures.adds c.loop-place.invariant.passed;
      spares = g.met.C.Counter.spares_then c.args.bank.now c.loop-place.bank c.gather_at.new.bank
          c.loop-place.invariant.spares c.in_ok-gather_at.ensures.spares;
    }

pub returns : goal.returns
returns g c =
    let last : c.args.to ≡ c.loop-place.place = omega arith in record {
      gathers = c.loop-place.invariant.gathers;
      places = all_from c.args.from c.loop-place.place c.args.to c.loop-place.batch.senders.items
          c.loop-place.invariant.passed;
      looks = rw last c.loop-place.invariant.over;
      spares = c.loop-place.invariant.spares;
    }
