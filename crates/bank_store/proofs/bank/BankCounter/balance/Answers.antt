-- What a balance comes to.
use Rattle.std.proofs.Common.{[], ◌∙◌, Err, sym}
use Rattle.posting_rules.specs.declared.fault.Fault.TheVariants.{Down}
use Rattle.posting_rules.proofs.{Calls.stays, Looked.balance_shown, ChangesByKey.sound_tables}
use Rattle.bank_store.proofs.AsFound.{idle_reads, reads_done, reads_down}
use Rattle.bank_store.proofs.bank.BankCounter.balance.Given.{Over}
use Rattle.bank_store.proofs.OtherTables.{spares_done, spares_down, spares_untouched}
use Rattle.bank_store.proofs.Refusing.{committed_call, consult_refused, is_up, refused_call, untried_call, Refusal}
use Rattle.bank_transactions.specs.Causes.{IsFirstBroken}
use Rattle.bank_transactions.proofs.Remembered.{blank}
use Rattle.bank_store.proofs.FileTables.{tables_kept}
use Rattle.bank_store.proofs.bank.BankCounter.balance.Goals as goal

-- what its refusal says
refused : (g : Over) (c : goal.After-go_down g)
    → Refusal g.S.Store c.args.self.now c.go_down.new.self [] (IsFirstBroken g.S.Store) c.go_down.result
refused g c =
    consult_refused g.S.Store c.args.self.now c.go_down.new.self c.read_balance.new.conn sound_tables [] stays
    tt c.in-Err.fault
    c.go_down.result c.go_down.ensures.down c.go_down.ensures.survives c.in-Err.ensures.undone
    c.go_down.ensures.undone c.in-Err.ensures.says

pub read_balance-requires : goal.read_balance-requires
read_balance-requires g c = c.args.self.now.idle

pub invariant_of-self : goal.invariant_of-self
invariant_of-self g c = record {
  idle = c.read_balance.ensures.says.mode;
  remembers = blank g.S.Store c.read_balance.new.conn c.forget.new.self c.forget.ensures.blank;
  tables = tables_kept g.S.Store c.args.self.now.conn c.read_balance.new.conn c.read_balance.result c.read_balance.ensures.says.spares
      c.read_balance.ensures.undone c.args.self.now.tables;
}

pub returns-in-Ok : goal.returns-in-Ok
returns-in-Ok g c =
    let says = c.in-Ok.ensures.says in
    record {
      answer =
          λ clean log s. (says.answers clean s.tables s.are (sound_tables s.tables log s.commands s.shows)).0
          ∙ balance_shown s.tables log c.args.account s.shows;
      call =
          committed_call g.S.Store c.args.self.now _ sound_tables [] stays tt _ (is_up c.args.self.now.fault c.is_down.ensures c.if-is_down.false) (is_up c.args.self.now.fault c.is_down.ensures c.if-is_down.false)
          says;
      frugal = λ same. (let it = same in cc);
      stored = c.in-Ok.ensures.stored;
      reads = reads_done g.S.Store c.args.self.now _ c.in-Ok.balance c.in-Ok.ensures.still c.in-Ok.ensures.left;
      broken = tt;
      spares = spares_done g.S.Store c.args.self.now _ _ (is_up c.args.self.now.fault c.is_down.ensures c.if-is_down.false) says.spares;
    }

pub returns-in-Err : goal.returns-in-Err
returns-in-Err g c =
    let no = refused g c in
    record {
      answer = tt;
      call = refused_call g.S.Store c.args.self.now c.go_down.new.self [] c.go_down.result no (is_up c.args.self.now.fault c.is_down.ensures c.if-is_down.false);
      frugal = λ same. no.frugal (let it = same in cc);
      stored = tt;
      reads = reads_down g.S.Store c.args.self.now c.go_down.new.self c.read_balance.new.conn c.go_down.result
          c.in-Err.ensures.undone c.in-Err.ensures.left c.go_down.ensures.undone c.go_down.ensures.survives;
      broken = no.broken;
      spares = spares_down g.S.Store c.args.self.now c.go_down.new.self c.read_balance.new.conn c.in-Err.fault
          c.go_down.result (is_up c.args.self.now.fault c.is_down.ensures c.if-is_down.false) c.in-Err.ensures.says.spares c.in-Err.ensures.undone
          c.go_down.ensures.down c.go_down.ensures.undone c.go_down.ensures.survives;
    }

pub returns-then-is_down : goal.returns-then-is_down
returns-then-is_down g c =
    let down = sym c.is_down.ensures ∙ c.if-is_down.true in
    record {
      answer = tt;
      call = untried_call g.S.Store c.args.self.now [] down;
      frugal = λ same. (let it = same in cc);
      stored = tt;
      reads = idle_reads g.S.Store c.args.self.now (Err Down);
      broken = tt;
      spares = spares_untouched g.S.Store c.args.self.now;
    }
