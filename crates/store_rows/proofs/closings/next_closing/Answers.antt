-- What there is under the least last key above.
use Rattle.std.proofs.Common.{◌≤◌, Result, Option, Ok, Err, Some, None}
use Rattle.std.specs.Prelude.{IfOk, IfSome}
use Rattle.sqlite.specs.{Order.Row, declared.error.Error.Error}
use Rattle.posting_rules.specs.declared.{limits.TheConstants.LAST_KEY, rows.ClosingRow.ClosingRow}
use Rattle.store_rows.specs.{Failures.ReadsAnswer, believed.Readings.closing_of, declared.fault.TableFault.TableFault}
use Rattle.store_rows.proofs.{LyingClosings.next_found, Readings.closing_parts, Seeking.seeks_next_closing, Telling.looks_up}
use Rattle.store_rows.proofs.closings.next_closing.Goals as goal

within : (answer : Result Row Error) (result : Result (Option ClosingRow) TableFault)
    → ReadsAnswer closing_of answer result → IfOk result (λ found. IfSome found (λ row. row.last ≤ LAST_KEY))
within (Ok row) (Ok (Some r)) reads = (closing_parts row r reads).2
within (Err e) (Ok (Some r)) reads = absurd reads
within answer (Ok None) reads = tt
within answer (Err fault) reads = tt

pub returns-clause-within : goal.returns-clause-within
returns-clause-within g c = within c.row_under.result c.found.result c.found.ensures

pub returns-clause-looks_up : goal.returns-clause-looks_up
returns-clause-looks_up g c = looks_up g.S.Store _ _ closing_of (seeks_next_closing c.args.after) c.row_under.result c.found.result
    c.found.ensures c.row_under.ensures

pub returns-clause-lies : goal.returns-clause-lies
returns-clause-lies g c = next_found g.S.Store c.args.tx.now c.row_under.new.tx c.row_under.result c.found.result
    c.found.ensures c.args.after c.row_under.ensures.answers
