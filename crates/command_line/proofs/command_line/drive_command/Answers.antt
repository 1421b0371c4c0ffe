-- Each argument is added in its turn.
use Rattle.command_line.specs.CommandLine.{count_rule, seed_rule}
use Rattle.command_line.proofs.command_line.drive_command.Goals as goal

pub returns : goal.returns
returns c =
    let seed = c.with_argument.ensures _ seed_rule c.command_on_file-drive.ensures c.number_option-seed.ensures.rule in
    c.with_argument-2.ensures _ count_rule seed c.number_option-count.ensures.rule
