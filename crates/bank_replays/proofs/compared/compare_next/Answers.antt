-- One table has a row more, or each has one: the same, or they differ. Each goal has its answer, so that swapped sides
-- are refused at once.
use Rattle.bank_replays.proofs.{Exits.not_same, FirstDifference.due_alone, FirstDifference.stands_alone}
use Rattle.bank_replays.proofs.compared.compare_next.Goals as goal

pub sides-requires : goal.sides-requires
sides-requires g c = λ same. not_same c.is_same.result c.is_same.ensures c.if-is_same.false (cc)

pub returns-in-None-None : goal.returns-in-None-None
returns-in-None-None g c = (c.in-None-None.is-0, c.in-None-None.is-1)

pub returns-then-is_same : goal.returns-then-is_same
returns-then-is_same g c =
    (_, _, c.in-Some-Some.is-0, c.in-Some-Some.is-1, c.is_same.ensures.0 c.if-is_same.true)

pub returns-else-is_same : goal.returns-else-is_same
returns-else-is_same g c =
    rw (c.in-Some-Some.is-0, c.in-Some-Some.is-1) (c.sides.result, c.sides.ensures, c.difference-in-Some-Some.ensures)

pub returns-in-None-Some : goal.returns-in-None-Some
returns-in-None-Some g c =
    rw (c.in-None-Some.is-0, c.in-None-Some.is-1)
    (_, due_alone g.R.WalkedRow.key g.R.WalkedRow.item c.in-None-Some.due, c.difference.ensures)

pub returns-in-Some-None : goal.returns-in-Some-None
returns-in-Some-None g c =
    rw (c.in-Some-None.is-0, c.in-Some-None.is-1)
    (_, stands_alone g.R.WalkedRow.key g.R.WalkedRow.item c.in-Some-None.stands, c.difference-in-Some-None.ensures)
