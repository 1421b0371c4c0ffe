use Rattle.command_line.proofs.Joining.{no_rows}
use Rattle.command_line.proofs.sharing.empty_plan.Goals as goal

pub returns-in-Ok-clause-none : goal.returns-in-Ok-clause-none
returns-in-Ok-clause-none c = no_rows c.new.result.items c.in-Ok.plan c.new.ensures.items c.in-Ok.ensures
