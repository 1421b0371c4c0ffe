use Rattle.std.proofs.Common.{◌≤◌, length, arith}
use Rattle.posting_core.proofs.Transferred.{fill_ok}
use Rattle.posting_core.proofs.transfer.fill_buffer.Goals as goal

pub returns-clause-ok : goal.returns-clause-ok
returns-clause-ok g c =
    let within : c.args.filled ≤ length c.args.buffer.now = omega arith in
    fill_ok c.give.result _ _ c.args.buffer.now c.give.new.buffer c.args.filled _ within c.give.ensures.bound
    c.give.ensures.bytes
