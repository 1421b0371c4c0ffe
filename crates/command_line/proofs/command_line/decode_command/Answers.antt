-- Each argument is added in its turn.
use Rattle.std.proofs.Common.{codes}
use Rattle.command_line.specs.CommandLine.{flag_rule, sheet_rule}
use Rattle.command_line.proofs.command_line.decode_command.Goals as goal

pub returns : goal.returns
returns c =
    let words = c.with_argument.ensures _ (flag_rule (codes "words")) c.command_alone-decode.ensures c.flag.ensures.rule in
    c.with_argument-2.ensures _ sheet_rule words c.optional_text-sheet.ensures.rule
