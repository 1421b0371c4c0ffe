use Rattle.std.proofs.Common.{◌≤◌, length, arith}
use Rattle.posting_core.proofs.Transferred.{fill_ok}
use Rattle.posting_core.proofs.transfer.fill_buffer_beside_counter.Goals as goal

pub returns-clause-ok : goal.returns-clause-ok
returns-clause-ok g c =
    let within : c.args.filled ≤ length c.args.buffer.now = omega arith in
    fill_ok c.give_beside_counter.result _ _ c.args.buffer.now c.give_beside_counter.new.buffer c.args.filled _ within
    c.give_beside_counter.ensures.bound c.give_beside_counter.ensures.bytes

pub returns-clause-tells : goal.returns-clause-tells
returns-clause-tells g c = c.give_beside_counter.ensures.tells

pub returns-clause-beside : goal.returns-clause-beside
returns-clause-beside g c = c.give_beside_counter.ensures.beside

pub returns-clause-stays : goal.returns-clause-stays
returns-clause-stays g c = c.give_beside_counter.ensures.stays
