use Rattle.std.proofs.Common.{Some}
use Rattle.branch_loader.proofs.{Remain.start, SourceRead.not_csv}
use Rattle.branch_loader.proofs.read.plan_of_text.Goals as goal

pub returns-clause-plan : goal.returns-clause-plan
returns-clause-plan c =
    c.read_rows-plan.ensures.plan _ (start _ c.from_reader-records.result (Some c.args.text.now)
    c.from_reader-records.ensures.source c.from_reader-records.ensures.state)

pub returns-clause-read : goal.returns-clause-read
returns-clause-read c is = not_csv c.read_rows-plan.result _ _ c.read_rows-plan.ensures.calls is
