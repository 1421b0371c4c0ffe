use Rattle.std.proofs.Common.{◌≡◌, ◌<◌, ◌+◌, ◌∷◌, ◌++◌, ◌∙◌, ℕ, [], length, get_or, take, arith, refl, subst, sym}
use Rattle.std.proofs.{lemmas.List.length-take-le, lemmas.List.take_more, lemmas.Result.err_from_is_err_and}
use Rattle.posting_rules.proofs.CounterCalls.{call_idle_after, call_refused_after}
use Rattle.branch_loader.proofs.Openings.{after-idle, after-more, after-none, after-refused, loaded_all, loaded_counts}
use Rattle.branch_loader.proofs.Rows.{plan-short}
use Rattle.branch_loader.specs.{Plans.IsPlan, Plans.IsRow, believed.Plans.Row, believed.Plans.Rows}
use Rattle.branch_loader.proofs.loader.load.Goals as goal

row_in_range : (rows : Rows) (i : ℕ) (p : Row) → IsPlan rows → i < length rows → p ≡ get_or rows i p → IsRow p
row_in_range rows i p plan low is = subst IsRow (sym is) (plan.in_range i p low)

pub loop-row-init : goal.loop-row-init
loop-row-init g c = record {
  after = after-none g.C.Counter.seen c.args.counter.now;
  spares = g.met.C.Counter.spares_itself c.args.counter.now;
}

pub with_answer-loaded-requires : goal.with_answer-loaded-requires
with_answer-loaded-requires g c =
    let rows = c.rows-row-items.result.now in
    let short = plan-short rows c.rows-row-items.ensures.plan in
    let front = length-take-le c.loop-row.row-index rows (omega arith) in
    let sum = c.loop-row.invariant.after.sum in
    omega arith

pub loop-row-preserved : goal.loop-row-preserved
loop-row-preserved g c =
    let rows = c.rows-row-items.result.now in
    let i = c.loop-row.row-index in
    let p = c.row-item.result in
    let more : take (i + 1) rows ≡ take i rows ++ p ∷ [] = take_more rows i p (omega arith) ∙ rw
    (← c.row-item.is) refl in
    record {
      after = rw (more, c.with_answer-loaded.ensures)
          (after-more g.C.Counter.seen c.args.counter.now c.loop-row.counter c.open_branch.new.self
          (take i rows) p c.loop-row.loaded c.in_ok-opening.opening c.loop-row.invariant.after
          c.in_ok-opening.ensures.call.done c.in_ok-opening.ensures.answer
          (λ down. cc (c.in_ok-opening.ensures.call.down down)) c.in_ok-opening.ensures.call.up
          c.in_ok-opening.ensures.call.honest c.in_ok-opening.ensures.by_tables
          (row_in_range rows i p c.rows-row-items.ensures.plan (omega arith) c.row-item.is));
      spares = g.met.C.Counter.spares_then c.args.counter.now c.loop-row.counter c.open_branch.new.self
          c.loop-row.invariant.spares c.in_ok-opening.ensures.spares;
    }

pub returns-in_err-opening-clause-fault : goal.returns-in_err-opening-clause-fault
returns-in_err-opening-clause-fault g c =
    let rows = c.rows-row-items.result.now in
    let refused =
    after-refused g.C.Counter.seen c.args.counter.now c.loop-row.counter c.open_branch.new.self rows
    c.loop-row.row-index
    c.row-item.result c.loop-row.loaded c.in_err-opening.field-0.0 c.loop-row.invariant.after
    (omega arith) c.row-item.is
    c.in_err-opening.ensures.call.fault c.in_err-opening.ensures.call.honest
    (λ down. let e = c.in_err-opening.ensures.call.down down in cc e) in
    let p = err_from_is_err_and c.from_residual.result c.from_residual.ensures.1 in
    rw (p.1, p.2) (c.loop-row.row-index, rw c.rows-row-items.ensures.rows at refused)

pub returns-in_err-opening-clause-why : goal.returns-in_err-opening-clause-why
returns-in_err-opening-clause-why g c =
    let p = err_from_is_err_and c.from_residual.result c.from_residual.ensures.1 in
    rw (p.1, p.2)
    (call_refused_after g.C.Counter.seen g.C.Counter.reason c.args.counter.now c.loop-row.counter
    c.open_branch.new.self _ c.loop-row.invariant.after.taken c.loop-row.invariant.after.honest
    (after-idle g.C.Counter.seen c.args.counter.now c.loop-row.counter _ _ c.loop-row.invariant.after)
    c.in_err-opening.field-0.0 g.C.Counter.contents _ c.in_err-opening.ensures.call)

-- a counter that was down
pub returns-in_err-opening-clause-idle : goal.returns-in_err-opening-clause-idle
returns-in_err-opening-clause-idle g c =
    call_idle_after g.C.Counter.seen c.args.counter.now c.loop-row.counter
    (after-idle g.C.Counter.seen c.args.counter.now c.loop-row.counter _ _ c.loop-row.invariant.after)
    g.C.Counter.contents g.C.Counter.reason c.open_branch.new.self _ _ c.open_branch.ensures.call

pub returns-clause-idle : goal.returns-clause-idle
returns-clause-idle g c =
    after-idle g.C.Counter.seen c.args.counter.now c.loop-row.counter _ _ c.loop-row.invariant.after

pub returns-clause-counts : goal.returns-clause-counts
returns-clause-counts g c =
    loaded_counts g.C.Counter.seen c.args.counter.now c.loop-row.counter c.rows-row-items.result.now
    c.args.plan.now c.loop-row.row-index c.loop-row.loaded
    c.loop-row.invariant.after c.loop-row-test.false c.rows-row-items.ensures.rows

pub returns-clause-done : goal.returns-clause-done
returns-clause-done g c =
    loaded_all g.C.Counter.seen c.args.counter.now c.loop-row.counter c.rows-row-items.result.now
    c.args.plan.now c.loop-row.row-index c.loop-row.loaded
    c.loop-row.invariant.after c.loop-row-test.false c.rows-row-items.ensures.rows

-- what no call of the counter touches
pub returns-in_err-opening-clause-spared : goal.returns-in_err-opening-clause-spared
returns-in_err-opening-clause-spared g c = record {
  honest = λ h. c.loop-row.invariant.after.honest (c.in_err-opening.ensures.call.honest h);
  others = g.met.C.Counter.spares_then c.args.counter.now c.loop-row.counter c.open_branch.new.self
      c.loop-row.invariant.spares c.in_err-opening.ensures.spares;
}

pub returns-clause-spared : goal.returns-clause-spared
returns-clause-spared g c =
    record { honest = c.loop-row.invariant.after.honest; others = c.loop-row.invariant.spares }
