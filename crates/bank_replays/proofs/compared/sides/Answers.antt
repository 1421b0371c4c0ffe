-- The rows under the lesser of the two keys.
use Rattle.bank_replays.proofs.FirstDifference.{both_first, due_first, stands_first}
use Rattle.bank_replays.proofs.compared.sides.Goals as goal

pub returns-then-stood-ruled : goal.returns-then-stood-ruled
returns-then-stood-ruled g c =
    stands_first g.R.WalkedRow.key g.R.WalkedRow.item c.args.stands c.args.due c.number-stood.result
    c.number-ruled.result c.number-stood.ensures c.number-ruled.ensures c.if-stood-ruled.true

pub returns-then-ruled-stood : goal.returns-then-ruled-stood
returns-then-ruled-stood g c =
    due_first g.R.WalkedRow.key g.R.WalkedRow.item c.args.stands c.args.due c.number-stood.result
    c.number-ruled.result c.number-stood.ensures c.number-ruled.ensures c.if-ruled-stood.true

pub returns : goal.returns
returns g c =
    both_first g.R.WalkedRow.key g.R.WalkedRow.item c.args.stands c.args.due c.number-stood.result
    c.number-ruled.result c.number-stood.ensures c.number-ruled.ensures c.if-ruled-stood.false c.if-stood-ruled.false
    c.requires
