-- How the bank goes down where the store doesn't answer, and that its file is as it was.
use Rattle.std.proofs.Common.{◌∙◌, refl, sym, inl, inr}
use Rattle.sqlite.specs.Held.{state}
use Rattle.bank_transactions.proofs.Remembered.{blank}
use Rattle.bank_store.proofs.{AsFound.idle_as_found, FileTables.tables_read, OtherTables.probe_unchanged, Settled.back, StepsKeep.untouched}
use Rattle.bank_store.proofs.bank.Bank.go_down.Goals as goal

pub note_settled-requires : goal.note_settled-requires
note_settled-requires g c = c.args.self.now.idle

pub returns-in_default : goal.returns-in_default
returns-in_default g c = record {
  down = rw c.in_default.is (refl, refl);
  survives = (idle_as_found g.S.Store c.args.self.now).left;
  undone = λ clean. untouched (state g.S.Store c.args.self.now.conn);
}

-- the store answered
pub returns-in-Ok : goal.returns-in-Ok
returns-in-Ok g c =
    let old = state g.S.Store c.args.self.now.conn in
    let new = state g.S.Store c.probe_table.new.conn in
    record {
      down = rw c.in-Damaged.is
          (inl (refl, refl, λ clean. probe_unchanged old new _ _ (c.in-Ok.ensures.answers clean)));
      survives = c.in-Ok.ensures.survives;
      undone = λ clean still. (probe_unchanged old new _ _ (c.in-Ok.ensures.answers clean)).0;
    }

-- it failed, and undid all
pub returns-in-Err : goal.returns-in-Err
returns-in-Err g c =
    let old = state g.S.Store c.args.self.now.conn in
    let idle = c.args.self.now.idle in
    record {
      down = rw c.in-Damaged.is (inr (refl, (c.in-Err.e, refl, c.in-Err.ensures.answers)));
      survives = c.in-Err.ensures.survives;
      undone = λ clean.
          back old old (state g.S.Store c.probe_table.new.conn) c.in-Err.e c.note_settled.ensures (untouched old)
          (c.in-Err.ensures.mode idle ∙ sym idle) (c.in-Err.ensures.answers clean);
    }

-- it remembers nothing more
pub invariant_of-self : goal.invariant_of-self
invariant_of-self g c = record {
  idle = c.args.self.now.idle;
  remembers = blank g.S.Store c.args.self.now.conn c.forget.new.self c.forget.ensures.blank;
  tables = c.args.self.now.tables;
}

pub invariant_of-self-in-Ok : goal.invariant_of-self-in-Ok
invariant_of-self-in-Ok g c = record {
  idle = c.in-Ok.ensures.mode c.args.self.now.idle;
  remembers = blank g.S.Store c.probe_table.new.conn c.forget.new.self c.forget.ensures.blank;
  tables = tables_read g.S.Store c.args.self.now.conn c.probe_table.new.conn c.in-Ok.ensures.survives
      (λ clean still. (probe_unchanged (state g.S.Store c.args.self.now.conn) (state g.S.Store c.probe_table.new.conn) _ _
      (c.in-Ok.ensures.answers clean)).0) c.args.self.now.tables;
}

pub invariant_of-self-in-Err : goal.invariant_of-self-in-Err
invariant_of-self-in-Err g c =
    let old = state g.S.Store c.args.self.now.conn in
    let idle = c.args.self.now.idle in
    record {
      idle = c.in-Err.ensures.mode c.args.self.now.idle;
      remembers = blank g.S.Store c.probe_table.new.conn c.forget.new.self c.forget.ensures.blank;
      tables = tables_read g.S.Store c.args.self.now.conn c.probe_table.new.conn c.in-Err.ensures.survives
          (λ clean. back old old (state g.S.Store c.probe_table.new.conn) c.in-Err.e c.note_settled.ensures (untouched old)
          (c.in-Err.ensures.mode idle ∙ sym idle) (c.in-Err.ensures.answers clean)) c.args.self.now.tables;
    }
