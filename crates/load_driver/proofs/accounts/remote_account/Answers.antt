use Rattle.std.proofs.Common.{◌<◌, ◌≤◌, arith, sym}
use Rattle.load_driver.proofs.Remote.{go-after, go-home, go-other}
use Rattle.load_driver.proofs.accounts.remote_account.Goals as goal
use Rattle.load_driver.proofs.accounts.remote_account.Goals.{then-get+else-left-accounts, else-get}

pub returns-then-left-accounts : goal.returns-then-left-accounts
returns-then-left-accounts c =
    let ne = rw (c.get-in-loop-row.ensures.value, c.get.ensures.value) at c.if-get.true in
    let lt : c.loop-row.left < c.row-item.result.1 = omega arith in
    rw c.first_account.ensures.value
    (sym (go-other c.args.rows.now c.loop-row.row-index c.row-item.result c.args.branch c.args.place
    c.loop-row.left (omega arith)
    c.row-item.is ne lt c.loop-row.invariant))

pub loop-row-preserved : goal.loop-row-preserved
loop-row-preserved c = elim c.if-get.branch [
  | then-get+else-left-accounts w ↦
      let ne = rw (c.get-in-loop-row.ensures.value, c.get.ensures.value) at w.if-get.true in
      let le : c.row-item.result.1 ≤ c.loop-row.left = omega arith in
      rw (w.left-is, c.from-accounts.ensures)
      (go-after c.args.rows.now c.loop-row.row-index c.row-item.result c.args.branch c.args.place
      c.loop-row.left (omega arith)
      c.row-item.is ne le c.loop-row.invariant)
  | else-get w ↦
      let eq = rw (c.get-in-loop-row.ensures.value, c.get.ensures.value) at w.if-get.false in
      rw w.left-is (go-home c.args.rows.now c.loop-row.row-index c.row-item.result c.args.branch c.args.place
      c.loop-row.left (omega arith)
      c.row-item.is eq c.loop-row.invariant)
]
