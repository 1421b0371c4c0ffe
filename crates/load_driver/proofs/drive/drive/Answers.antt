use Rattle.std.proofs.Common.{◌≡◌, ◌+◌, ℕ, length, drop, ap, ◌∙◌, arith, refl, inl}
use Rattle.std.proofs.lemmas.{List.length-append, List.length-drop, List.length-map, Result.err_from_is_err_and}
use Rattle.posting_rules.specs.believed.Runs.{posts}
use Rattle.load_driver.specs.Counts.{Driving}
use Rattle.posting_rules.proofs.CounterCalls.{refused_after}
use Rattle.load_driver.proofs.DriveLoop.{end_done, end_refused, going_first, going_on, part_of, up_refused}
use Rattle.load_driver.proofs.drive.drive.Goals as goal

pub loop-left-init : goal.loop-left-init
loop-left-init g c = record {
  room = refl;
  going = going_first g.C.Counter.seen c.args.counter.now (g.K.Clock.readings c.args.clock.now)
      c.args.driver.now c.args.count
      c.requires.first c.requires.up;
  spares = g.met.C.Counter.spares_itself c.args.counter.now;
}

-- a batch was refused
pub returns-in_err-posted-clause-submits : goal.returns-in_err-posted-clause-submits
returns-in_err-posted-clause-submits g c =
    let size = c.min-size.result in
    let records = c.submit_batch.new.batch in
    let driver = c.loop-left.driver in
    let part =
    part_of driver c.loop-left.left size c.loop-left.records records
    (let more = c.loop-left-test.true in omega arith)
    c.min-size.ensures c.loop-left.invariant.room c.in_err-posted.ensures.drawn c.submit_batch.auto.batch in
    let a = c.in_err-posted.ensures.answers in
    let p = err_from_is_err_and c.from_residual.result c.from_residual.ensures.1 in
    rw (p.1, p.2)
    (end_refused g.C.Counter.seen c.args.counter.now c.loop-left.counter c.submit_batch.new.counter
    (g.K.Clock.readings c.args.clock.now)
    (g.K.Clock.readings c.loop-left.clock) (g.K.Clock.readings c.submit_batch.new.clock) c.args.driver.now
    driver c.args.count
    c.loop-left.left size a.0 records c.loop-left.driven c.loop-left.invariant.going part.is part.long
    part.some
    part.few part.within a.1
    c.in_err-posted.ensures.honest c.in_err-posted.field-0.0 a.2)

-- a batch was answered
pub loop-left-preserved : goal.loop-left-preserved
loop-left-preserved g c =
    let size = c.min-size.result in
    let records = c.submit_batch.new.batch in
    let driver = c.loop-left.driver in
    let part =
    part_of driver c.loop-left.left size c.loop-left.records records
    (let more = c.loop-left-test.true in omega arith)
    c.min-size.ensures c.loop-left.invariant.room c.in_ok-posted.ensures.drawn c.submit_batch.auto.batch in
    let a = c.in_ok-posted.ensures.answers in
    let most : length (posts a.0 records) ≡ length records = rw length-map refl in
    let goes_on = c.in_ok-posted.ensures.goes_on
    ∙ ap (λ (n : ℕ). let d : Driving = record driver { given = driver.given + n } in d) part.room in
    let rest = drop size c.loop-left.records in
    record {
      room = omega (
        arith,
        length-append records rest,
        length-drop size c.loop-left.records,
        part.long,
        part.few,
        c.loop-left.invariant.room,
      );
      going = going_on g.C.Counter.seen c.args.counter.now c.loop-left.counter c.submit_batch.new.counter
          (g.K.Clock.readings c.args.clock.now)
          (g.K.Clock.readings c.loop-left.clock) (g.K.Clock.readings c.submit_batch.new.clock)
          c.args.driver.now driver c.args.count
          c.loop-left.left size a.0 records c.loop-left.driven c.loop-left.invariant.going part.is part.long
          part.some
          part.few part.within a.1
          c.in_ok-posted.ensures.honest c.in_ok-posted.posted c.submit_batch.new.driver _ goes_on refl refl
          part.full a.2
          (omega (arith, a.2.few, most, part.long)) c.in_ok-posted.ensures.up;
      spares = g.met.C.Counter.spares_then c.args.counter.now c.loop-left.counter c.submit_batch.new.counter
          c.loop-left.invariant.spares c.in_ok-posted.ensures.spares;
    }

pub returns-clause-submits : goal.returns-clause-submits
returns-clause-submits g c =
    end_done g.C.Counter.seen c.args.counter.now c.loop-left.counter (g.K.Clock.readings c.args.clock.now)
    (g.K.Clock.readings c.loop-left.clock)
    c.args.driver.now c.loop-left.driver c.args.count c.loop-left.left c.loop-left.driven
    c.loop-left.invariant.going
    (let none = c.loop-left-test.false in omega arith)

pub returns-in_err-posted-clause-why : goal.returns-in_err-posted-clause-why
returns-in_err-posted-clause-why g c =
    let going = c.loop-left.invariant.going in
    let p = err_from_is_err_and c.from_residual.result c.from_residual.ensures.1 in
    rw (p.1, p.2)
    (inl (refused_after g.C.Counter.seen g.C.Counter.reason c.args.counter.now c.loop-left.counter
    c.submit_batch.new.counter _ going.takes going.honest (λ down. absurd (c.requires.up down))
    c.in_err-posted.field-0.0
    c.in_err-posted.ensures.why))

pub returns-in_err-posted-clause-up : goal.returns-in_err-posted-clause-up
returns-in_err-posted-clause-up g c =
    let p = err_from_is_err_and c.from_residual.result c.from_residual.ensures.1 in
    rw (p.1, p.2)
    (up_refused (g.C.Counter.seen c.loop-left.counter) (g.C.Counter.seen c.submit_batch.new.counter) _
    c.in_err-posted.field-0.0 c.in_err-posted.ensures.answers.2 c.loop-left.invariant.going.up)

pub returns-clause-up : goal.returns-clause-up
returns-clause-up g c = c.loop-left.invariant.going.up

-- what no call of the counter touches
pub returns-in_err-posted-clause-spares : goal.returns-in_err-posted-clause-spares
returns-in_err-posted-clause-spares g c =
    g.met.C.Counter.spares_then c.args.counter.now c.loop-left.counter c.submit_batch.new.counter
    c.loop-left.invariant.spares c.in_err-posted.ensures.spares
