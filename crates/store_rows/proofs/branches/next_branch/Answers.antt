-- What there is under the least number above.
use Rattle.std.proofs.Common.{Result, Option, Ok, Err, Some, None}
use Rattle.std.specs.Prelude.{IfOk, IfSome}
use Rattle.sqlite.specs.{Order.Row, declared.error.Error.Error}
use Rattle.posting_rules.specs.{believed.Damage.IsSoundBranch, declared.rows.BranchRow.BranchRow}
use Rattle.store_rows.specs.{Failures.ReadsAnswer, believed.Readings.branch_of, declared.fault.TableFault.TableFault}
use Rattle.store_rows.proofs.{Readings.sound_branch, Seeking.seeks_next, Telling.looks_up}
use Rattle.store_rows.proofs.branches.next_branch.Goals as goal

within : (answer : Result Row Error) (result : Result (Option BranchRow) TableFault)
    → ReadsAnswer branch_of answer result → IfOk result (λ found. IfSome found IsSoundBranch)
within (Ok row) (Ok (Some b)) reads = sound_branch row b reads
within (Err e) (Ok (Some b)) reads = absurd reads
within answer (Ok None) reads = tt
within answer (Err fault) reads = tt

pub returns-clause-looks_up : goal.returns-clause-looks_up
returns-clause-looks_up g c = looks_up g.S.Store _ _ branch_of (seeks_next c.args.after) c.row_under.result
    c.found.result c.found.ensures (rw c.from.ensures at c.row_under.ensures)

pub returns-clause-within : goal.returns-clause-within
returns-clause-within g c = within c.row_under.result c.found.result c.found.ensures
