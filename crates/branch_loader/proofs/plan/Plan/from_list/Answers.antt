use Rattle.std.proofs.{Common.arith, Common.refl, Common.sym, lemmas.Result.err_from_is_err_and}
use Rattle.branch_loader.proofs.Rows.{no-rows, plan-short}
use Rattle.branch_loader.proofs.Stated.{listed-all, listed-fault, listed-more}
use Rattle.branch_loader.proofs.plan.Plan.from_list.Goals as goal

pub loop-i-init : goal.loop-i-init
loop-i-init c = record { plan = no-rows; states = refl }

pub row_of_listed-requires : goal.row_of_listed-requires
row_of_listed-requires c = rw c.deref.ensures.value
    (let short = plan-short _ c.loop-i.invariant.plan in omega arith)

pub loop-i-preserved : goal.loop-i-preserved
loop-i-preserved c =
    let more = listed-more c.args.rows.items c.loop-i.i c.index.result.now c.in_ok-row_of_listed.field-0
    (omega arith) c.index.ensures
    (sym (rw c.deref.ensures.value at c.in_ok-row_of_listed.ensures)) c.loop-i.invariant.states
    c.loop-i.invariant.plan in
    record { plan = more.0; states = more.1 }

pub returns-in_err-row_of_listed : goal.returns-in_err-row_of_listed
returns-in_err-row_of_listed c =
    let fault = listed-fault c.args.rows.items c.loop-i.i c.index.result.now c.in_err-row_of_listed.field-0.0
    (omega arith) c.index.ensures
    (sym (rw c.deref.ensures.value at c.in_err-row_of_listed.ensures)) c.loop-i.invariant.states in
    let p = err_from_is_err_and c.from_residual.result c.from_residual.ensures.1 in
    rw (p.1, p.2) (sym fault)

pub returns : goal.returns
returns c = sym (listed-all c.args.rows.items c.loop-i.i (omega arith) c.loop-i.invariant.states
    c.loop-i.invariant.plan).0
