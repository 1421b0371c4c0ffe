-- What there is under the number.
use Rattle.store_rows.specs.believed.Readings.{balance_of}
use Rattle.store_rows.proofs.{LyingRows.account_found, LyingRows.teller_found}
use Rattle.store_rows.proofs.{Seeking.seeks_account, Seeking.seeks_teller, Telling.looks_up}
use Rattle.store_rows.proofs.holders.balance_of.Goals as goal

pub returns-in-Account-clause-looks_up : goal.returns-in-Account-clause-looks_up
returns-in-Account-clause-looks_up g c =
    rw c.in-Account.is
    (looks_up g.S.Store _ _ balance_of (seeks_account c.in-Account.account) c.row_under.result c.found.result
    c.found.ensures (rw c.get.ensures.value at c.row_under.ensures))

pub returns-in-Account-clause-lies : goal.returns-in-Account-clause-lies
returns-in-Account-clause-lies g c =
    rw c.in-Account.is
    (account_found g.S.Store c.args.tx.now c.row_under.new.tx c.row_under.result c.in-Account.account c.found.result c.found.ensures
    (rw c.get.ensures.value at c.row_under.ensures.answers))

pub returns-in-Teller-clause-looks_up : goal.returns-in-Teller-clause-looks_up
returns-in-Teller-clause-looks_up g c =
    rw c.in-Teller.is
    (looks_up g.S.Store _ _ balance_of (seeks_teller c.in-Teller.teller) c.row_under-in-Teller.result
    c.found-in-Teller.result c.found-in-Teller.ensures
    (rw c.get-in-Teller.ensures.value at c.row_under-in-Teller.ensures))

pub returns-in-Teller-clause-lies : goal.returns-in-Teller-clause-lies
returns-in-Teller-clause-lies g c =
    rw c.in-Teller.is
    (teller_found g.S.Store c.args.tx.now c.row_under-in-Teller.new.tx c.row_under-in-Teller.result c.in-Teller.teller c.found-in-Teller.result
    c.found-in-Teller.ensures (rw c.get-in-Teller.ensures.value at c.row_under-in-Teller.ensures.answers))
