-- The line, or a prefix of it, was written; or nothing, where none is due.
use Rattle.std.proofs.Common.{◌≡◌, rules, true}
use Rattle.command_line.specs.Prompting.{prompt_line}
use Rattle.command_line.proofs.Printed.{none_due}
use Rattle.command_line.proofs.prompting.prompt.Goals as goal

pub returns-then-typed : goal.returns-then-typed
returns-then-typed g c =
    let same : c.prompt_text.result.now ≡ prompt_line true c.args.command.now = search rules in
    rw (c.if-typed.true, ← same) c.say.ensures

pub returns-else-typed : goal.returns-else-typed
returns-else-typed g c =
    rw c.if-typed.false (none_due (g.E.Sink.contents c.args.faults.now) (g.E.Sink.calls c.args.faults.now))
