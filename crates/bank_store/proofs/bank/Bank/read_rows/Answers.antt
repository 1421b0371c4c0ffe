-- A walk leaves the bank as it was.
use Rattle.std.proofs.Common.{refl, w64}
use Rattle.std.proofs.lemmas.Int.{to_z-of_z}
use Rattle.sqlite.specs.Held.{state}
use Rattle.bank_transactions.proofs.Remembered.{blank}
use Rattle.bank_store.proofs.FileTables.{tables_read}
use Rattle.bank_store.proofs.StepsKeep.{read_still, read_undone}
use Rattle.bank_store.proofs.bank.Bank.read_rows.Goals as goal

pub note_settled-requires : goal.note_settled-requires
note_settled-requires g c = c.args.self.now.idle

pub invariant_of-self : goal.invariant_of-self
invariant_of-self g c = record {
  idle = c.read_some.ensures.reads.mode c.args.self.now.idle;
  remembers = blank g.S.Store c.read_some.new.conn c.forget.new.self c.forget.ensures.blank;
  tables = tables_read g.S.Store c.args.self.now.conn c.read_some.new.conn c.read_some.ensures.reads.survives
      (λ clean. read_undone (state g.S.Store c.args.self.now.conn) (state g.S.Store c.read_some.new.conn)
      c.read_some.result (c.read_some.ensures.reads.same clean) c.note_settled.ensures c.args.self.now.idle
      (c.read_some.ensures.reads.err clean)) c.args.self.now.tables;
}

pub returns : goal.returns
returns g c =
    let old = state g.S.Store c.args.self.now.conn in
    let new = state g.S.Store c.read_some.new.conn in
    let says = c.read_some.ensures in
    let same = to_z-of_z w64 c.args.from c.ranges.from in
    record {
      answers = rw same at says.answers;
      ended = says.ended;
      rises = rw same at says.rises;
      same = λ clean. read_still old new c.read_some.result (says.reads.same clean);
      undone = λ clean.
          read_undone old new c.read_some.result (says.reads.same clean) c.note_settled.ensures c.args.self.now.idle
          (says.reads.err clean);
      up = refl;
      survives = says.reads.survives;
    }
