-- Each argument is added in its turn.
use Rattle.command_line.specs.CommandLine.{name_rule, quorum_rule, standby_rule}
use Rattle.command_line.proofs.command_line.serve_command.Goals as goal

pub returns : goal.returns
returns c =
    let quorum = c.with_argument.ensures _ quorum_rule c.alone_command-serve.ensures c.optional_text-quorum.ensures.rule in
    let name = c.with_argument-2.ensures _ name_rule quorum c.optional_text-name.ensures.rule in
    c.with_argument-3.ensures _ standby_rule name c.flag-standby.ensures.rule
