use Rattle.command_line.proofs.Printed.{drive_printed, told_driven}
use Rattle.command_line.proofs.driving.drive_into.Goals as goal

pub returns-clause-drives : goal.returns-clause-drives
returns-clause-drives g c =
    drive_printed g.C.Counter.seen g.C.Counter.reason _ _ _ _ c.args.seed c.args.count _ _ _ _
    c.print_driven.result c.in_ok-driven.driven c.in_ok-driven.ensures.drives c.print_driven.ensures.prints
    c.print_driven.ensures.fault

pub returns-clause-line : goal.returns-clause-line
returns-clause-line g c =
    told_driven g.C.Counter.seen _ _ _ _ c.args.seed c.args.count _ _ c.print_driven.result
    c.in_ok-driven.driven
    c.in_ok-driven.ensures.drives c.print_driven.ensures.prints.line
