-- What there is under the number.
use Rattle.store_rows.specs.believed.Readings.{branch_of}
use Rattle.store_rows.proofs.{LyingRows.branch_found, Seeking.seeks_branch, Telling.looks_up}
use Rattle.store_rows.proofs.branches.find_branch.Goals as goal

pub returns-clause-looks_up : goal.returns-clause-looks_up
returns-clause-looks_up g c = looks_up g.S.Store _ _ branch_of (seeks_branch c.args.branch) c.row_under.result
    c.found.result c.found.ensures (rw c.get.ensures.value at c.row_under.ensures)

pub returns-clause-lies : goal.returns-clause-lies
returns-clause-lies g c = branch_found g.S.Store c.args.tx.now c.row_under.new.tx c.row_under.result c.args.branch c.found.result c.found.ensures
    (rw c.get.ensures.value at c.row_under.ensures.answers)
