use Rattle.std.proofs.Common.{◌<◌, arith}
use Rattle.load_driver.specs.believed.{Draw.draw, Requests.count_of, Requests.is_home, Requests.others}
use Rattle.branch_loader.proofs.Rows.{plan-short}
use Rattle.load_driver.proofs.Remote.{account-home, account-remote, home-either, home-neither}
use Rattle.load_driver.proofs.Totals.{count-others, others-some, remote-for}
use Rattle.load_driver.proofs.accounts.account_by.Goals as goal

pub count_of-requires : goal.count_of-requires
count_of-requires c = plan-short c.args.rows.now c.requires.plan

pub draw-place-requires : goal.draw-place-requires
draw-place-requires c =
    let rows = c.args.rows.now in
    let there = c.requires.home.1 in
    let rest = others-some rows c.args.home.0 c.requires.plan (omega arith) c.if-rows-eq1.false.1 in
    let all = count-others rows c.args.home c.requires.plan.distinct c.requires.home in
    omega (arith, c.count_of.ensures, c.from-accounts.ensures)

pub returns-then-rows-eq1-clause-value : goal.returns-then-rows-eq1-clause-value
returns-then-rows-eq1-clause-value c =
    let home = rw c.draw-x.ensures.value at
    (home-either c.args.rows.now c.draw-x.result c.if-rows-eq1.either) in
    rw (c.first_account.ensures.value, c.draw.ensures.value, c.from-accounts.ensures)
    (account-home c.args.rows.now c.args.home c.args.choice c.args.pick home)

pub returns-else-rows-eq1-clause-value : goal.returns-else-rows-eq1-clause-value
returns-else-rows-eq1-clause-value c =
    let away = rw c.draw-x.ensures.value at
    (home-neither c.args.rows.now c.draw-x.result c.if-rows-eq1.false.0 c.if-rows-eq1.false.1) in
    rw (c.remote_account.ensures, c.draw-place.ensures.value, c.count_of.ensures, c.from-accounts.ensures)
    (account-remote c.args.rows.now c.args.home c.args.choice c.args.pick away)

pub returns-else-rows-eq1-clause-of_plan : goal.returns-else-rows-eq1-clause-of_plan
returns-else-rows-eq1-clause-of_plan c =
    let rows = c.args.rows.now in
    let away = rw c.draw-x.ensures.value at
    (home-neither rows c.draw-x.result c.if-rows-eq1.false.0 c.if-rows-eq1.false.1) in
    let all = count-others rows c.args.home c.requires.plan.distinct c.requires.home in
    let within : c.draw-place.result < count_of (others c.args.home.0 rows) =
    omega (arith, c.draw-place.ensures.below, c.count_of.ensures, c.from-accounts.ensures) in
    rw c.remote_account.ensures
    (remote-for rows c.args.home (is_home rows (draw c.args.choice 100)) c.draw-place.result c.requires.plan
    away within)
