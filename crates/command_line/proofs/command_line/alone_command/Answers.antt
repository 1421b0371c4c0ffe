-- Each argument is added in its turn.
use Rattle.command_line.specs.CommandLine.{address_rule, connections_rule}
use Rattle.command_line.proofs.command_line.alone_command.Goals as goal

pub returns : goal.returns
returns c =
    let address = c.with_argument.ensures _ address_rule c.command_on_file-serve.ensures
    c.required_argument-address.ensures.rule in
    c.with_argument-2.ensures _ connections_rule address c.optional_number-connections.ensures.rule
