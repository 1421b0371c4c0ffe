-- What there is under the number.
use Rattle.std.proofs.Common.{◌≤ℤ◌, pos, Result, Option, Ok, Err, Some, None}
use Rattle.std.specs.Prelude.{IfOk, IfSome}
use Rattle.sqlite.specs.{Order.Row, declared.error.Error.Error}
use Rattle.posting_rules.specs.declared.rows.FloorRow.{FloorRow}
use Rattle.store_rows.specs.{Failures.ReadsAnswer, believed.Readings.floor_of, declared.fault.TableFault.TableFault}
use Rattle.store_rows.proofs.{LyingRows.floor_found, Readings.low_floor, Seeking.seeks_floor, Telling.looks_up}
use Rattle.store_rows.proofs.floors.find_floor.Goals as goal

within : (answer : Result Row Error) (result : Result (Option FloorRow) TableFault)
    → ReadsAnswer floor_of answer result → IfOk result (λ found. IfSome found (λ row. row.lowest ≤ℤ pos 0))
within (Ok row) (Ok (Some f)) reads = low_floor row f reads
within (Err e) (Ok (Some f)) reads = absurd reads
within answer (Ok None) reads = tt
within answer (Err fault) reads = tt

pub returns-clause-looks_up : goal.returns-clause-looks_up
returns-clause-looks_up g c = looks_up g.S.Store _ _ floor_of (seeks_floor c.args.branch) c.row_under.result
    c.found.result c.found.ensures (rw c.get.ensures.value at c.row_under.ensures)

pub returns-clause-within : goal.returns-clause-within
returns-clause-within g c = within c.row_under.result c.found.result c.found.ensures

pub returns-clause-lies : goal.returns-clause-lies
returns-clause-lies g c = floor_found g.S.Store c.args.tx.now c.row_under.new.tx c.row_under.result c.args.branch c.found.result c.found.ensures
    (rw c.get.ensures.value at c.row_under.ensures.answers)
