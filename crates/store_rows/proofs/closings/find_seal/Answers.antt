-- What there is under the key of the seal.
use Rattle.store_rows.specs.believed.Readings.{closing_of}
use Rattle.store_rows.proofs.{LyingClosings.seal_found, Seeking.seeks_closing, Telling.looks_up}
use Rattle.store_rows.proofs.closings.find_seal.Goals as goal

pub returns-clause-looks_up : goal.returns-clause-looks_up
returns-clause-looks_up g c = looks_up g.S.Store _ _ closing_of (seeks_closing 0) c.row_under.result c.found.result c.found.ensures
    c.row_under.ensures

pub returns-clause-lies : goal.returns-clause-lies
returns-clause-lies g c = seal_found g.S.Store c.args.tx.now c.row_under.new.tx c.row_under.result c.found.result
    c.found.ensures c.row_under.ensures.answers
