use Rattle.std.proofs.Common.{◌≡◌, rules}
use Rattle.command_line.proofs.Printed.{written_out}
use Rattle.command_line.proofs.lines.say.Goals as goal

pub returns : goal.returns
returns g c =
    let out = c.write_out.ensures in
    let same : c.as_bytes.result.now ≡ c.args.line.now = search rules in
    rw (← same) (written_out _ _ _ _ _ c.write_out.result out.written out.flushed out.failed)
