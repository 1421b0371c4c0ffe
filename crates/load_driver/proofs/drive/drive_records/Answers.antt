use Rattle.std.proofs.Common.{◌≡◌, Err, sym, ap, subst, ◌∙◌}
use Rattle.std.proofs.lemmas.Result.{err_from_is_err_and}
use Rattle.load_driver.specs.{declared.drive_fault.DriveFault.TheVariants.NoBranches, Drives.MayRefuse}
use Rattle.load_driver.proofs.DriveEnds.{drives, ended_empty, ended_unlisted, none_listed, none_open, on_ok, resends}
use Rattle.load_driver.proofs.DriveEnds.{up_of_drive, up_empty, up_unlisted, why_after, why_empty}
use Rattle.load_driver.proofs.drive.drive_records.Goals as goal

-- the branches weren't listed
pub returns-in_err-plan-clause-drives : goal.returns-in_err-plan-clause-drives
returns-in_err-plan-clause-drives g c =
    let p = err_from_is_err_and c.from_residual.result c.from_residual.ensures.1 in
    rw (p.1, p.2)
    (ended_unlisted g.C.Counter.seen c.args.counter.now c.list_branches.new.counter
    (g.K.Clock.readings c.args.clock.now) c.args.seed c.args.count
    c.in_err-plan.field-0.0 c.in_err-plan.ensures.fault)

-- there is no driver
pub returns-in_err-driver-clause-drives : goal.returns-in_err-driver-clause-drives
returns-in_err-driver-clause-drives g c =
    let p = err_from_is_err_and c.from_residual-in_err-driver.result c.from_residual-in_err-driver.ensures.1
    in
    rw (p.1, p.2)
    (ended_empty g.C.Counter.seen c.args.counter.now c.list_branches.new.counter
    (g.K.Clock.readings c.args.clock.now) c.args.seed c.args.count
    c.in_ok-plan.plan c.in_err-driver.field-0.0 c.in_err-driver.ensures.fault c.in_ok-plan.ensures.done.takes
    c.in_ok-plan.ensures.done.by_tables
    c.in_ok-plan.ensures.done.honest c.in_ok-plan.ensures.listed
    (λ down. absurd (let e = c.in_ok-plan.ensures.down.1 down in cc e)))

pub returns-in_err-driver-clause-none : goal.returns-in_err-driver-clause-none
returns-in_err-driver-clause-none g c none h log s =
    let p = err_from_is_err_and c.from_residual-in_err-driver.result c.from_residual-in_err-driver.ensures.1
    in
    let is : c.in_err-driver.field-0.0 ≡ NoBranches = (let e = sym p.1 ∙ none in let f = p.2 in cc) in
    let empty = subst (MayRefuse c.in_ok-plan.plan) is c.in_err-driver.ensures.fault in
    none_open log s.commands (sym (c.in_ok-plan.ensures.listed h log s) ∙ empty)

pub returns-clause-drives : goal.returns-clause-drives
returns-clause-drives g c =
    let d = c.in_ok-driver.driver in
    drives g.C.Counter.seen c.args.counter.now c.list_branches.new.counter c.drive.new.counter
    (g.K.Clock.readings c.args.clock.now)
    (g.K.Clock.readings c.drive.new.clock) d.rows c.args.seed c.args.count c.in_ok-plan.ensures.done.takes
    c.in_ok-plan.ensures.done.by_tables
    c.in_ok-plan.ensures.done.honest
    c.drive.ensures.honest c.in_ok-plan.plan c.drive.result
    (rw (← c.in_ok-driver.ensures.seed) c.drive.ensures.submits)
    c.in_ok-plan.ensures.listed c.in_ok-driver.ensures.rows
    (λ down. absurd (let e = c.in_ok-plan.ensures.down.1 down in cc e))

pub returns-clause-some : goal.returns-clause-some
returns-clause-some g c =
    on_ok _ c.drive.result
    (λ h log s none. c.in_ok-driver.ensures.some
    (c.in_ok-plan.ensures.listed (c.drive.ensures.honest h) log s ∙ none_listed log none))

pub returns-clause-resend : goal.returns-clause-resend
returns-clause-resend g c =
    resends g.C.Counter.seen c.args.counter.now c.drive.new.counter (g.K.Clock.readings c.args.clock.now)
    (g.K.Clock.readings c.drive.new.clock) c.args.seed c.args.count c.drive.result (returns-clause-drives g c)

-- ---- whether it is up, and why it was refused

pub returns-in_err-plan-clause-up : goal.returns-in_err-plan-clause-up
returns-in_err-plan-clause-up g c =
    let p = err_from_is_err_and c.from_residual.result c.from_residual.ensures.1 in
    rw (p.1, p.2) (up_unlisted c.in_err-plan.field-0.0 _ (λ is. c.in_err-plan.ensures.spared (ap Err is)))

pub returns-in_err-plan-clause-why : goal.returns-in_err-plan-clause-why
returns-in_err-plan-clause-why g c =
    let p = err_from_is_err_and c.from_residual.result c.from_residual.ensures.1 in
    rw (p.1, p.2) c.in_err-plan.ensures.why

pub returns-in_err-driver-clause-up : goal.returns-in_err-driver-clause-up
returns-in_err-driver-clause-up g c =
    let p = err_from_is_err_and c.from_residual-in_err-driver.result c.from_residual-in_err-driver.ensures.1
    in
    rw (p.1, p.2) (up_empty c.in_ok-plan.plan c.in_err-driver.field-0.0 _ c.in_err-driver.ensures.fault
    (λ down. absurd (c.in_ok-plan.ensures.done.up down)))

pub returns-in_err-driver-clause-why : goal.returns-in_err-driver-clause-why
returns-in_err-driver-clause-why g c =
    let p = err_from_is_err_and c.from_residual-in_err-driver.result c.from_residual-in_err-driver.ensures.1
    in
    rw (p.1, p.2) (why_empty g.C.Counter.seen g.C.Counter.reason c.args.counter.now
    c.list_branches.new.counter c.in_ok-plan.plan c.in_err-driver.field-0.0 c.in_err-driver.ensures.fault
    c.in_ok-plan.ensures.done.up)

pub returns-clause-up : goal.returns-clause-up
returns-clause-up g c = up_of_drive c.drive.result _ _ c.drive.ensures.up

pub returns-clause-why : goal.returns-clause-why
returns-clause-why g c =
    why_after g.C.Counter.seen g.C.Counter.reason c.args.counter.now c.list_branches.new.counter
    c.drive.new.counter c.in_ok-plan.ensures.done.takes c.in_ok-plan.ensures.done.honest
    (λ down. absurd (let e = c.in_ok-plan.ensures.down.1 down in cc e)) c.drive.result
    c.drive.ensures.why

-- what no call of the counter touches
pub returns-clause-spares : goal.returns-clause-spares
returns-clause-spares g c =
    g.met.C.Counter.spares_then c.args.counter.now c.list_branches.new.counter c.drive.new.counter
    c.in_ok-plan.ensures.spares c.drive.ensures.spares
