-- What was read is noted with the same numbers.
use Rattle.std.proofs.Common.{◌≡◌, subst}
use Rattle.posting_rules.specs.Numbers.{SameNumbers}
use Rattle.bank_transactions.proofs.ClosedRows.{has_numbers}
use Rattle.bank_transactions.proofs.closed.note_read.Goals as goal

pub returns-in-Ok : goal.returns-in-Ok
returns-in-Ok c db runs kept reads fits =
    let same : c.in-Some.rows.items ≡ runs = rw c.in-Some.is at kept in
    let numbers : SameNumbers c.in-Ok.closed c.in-Some.rows.items = rw c.in-Some.is at c.in-Ok.ensures in
    c.note_closed.ensures.fits db (λ rows tree. has_numbers rows runs c.in-Ok.closed (reads rows tree)
    (subst (SameNumbers c.in-Ok.closed) same numbers)) fits
