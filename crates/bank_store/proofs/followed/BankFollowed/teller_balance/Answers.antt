-- What a teller's balance comes to.
use Rattle.std.proofs.Common.{[], ◌∙◌, Err, ap, sym}
use Rattle.std.specs.{Option.option_map}
use Rattle.posting_rules.proofs.{Calls.stays, ChangesByKey.sound_tables}
use Rattle.bank_store.specs.Tills.{own_balance}
use Rattle.posting_rules.specs.declared.fault.Fault.TheVariants.{Down}
use Rattle.bank_store.proofs.{AsFound.idle_reads, AsFound.reads_done, AsFound.reads_down, Tills.till_shown}
use Rattle.bank_store.proofs.OtherTables.{spares_done, spares_down, spares_untouched}
use Rattle.bank_store.proofs.Refusing.{committed_call, consult_refused, is_up, refused_call, untried_call}
use Rattle.bank_transactions.proofs.Remembered.{blank}
use Rattle.bank_store.proofs.FileTables.{tables_kept}
use Rattle.bank_store.proofs.followed.BankFollowed.teller_balance.Goals as goal

pub read_teller-requires : goal.read_teller-requires
read_teller-requires g c = c.args.self.now.idle

pub invariant_of-self : goal.invariant_of-self
invariant_of-self g c = record {
  idle = c.read_teller.ensures.says.mode;
  remembers = blank g.S.Store c.read_teller.new.conn c.forget.new.self c.forget.ensures.blank;
  tables = tables_kept g.S.Store c.args.self.now.conn c.read_teller.new.conn c.read_teller.result c.read_teller.ensures.says.spares
      c.read_teller.ensures.undone c.args.self.now.tables;
}

pub returns-in-Ok : goal.returns-in-Ok
returns-in-Ok g c =
    let it = c.in-Ok.ensures in
    record {
      answer = λ clean log s.
          c.own_balance.ensures
          ∙ ap (option_map own_balance)
          (it.says.answers clean s.tables s.are (sound_tables s.tables log s.commands s.shows)).0
          ∙ till_shown s.tables log c.args.teller s.shows;
      call =
          committed_call g.S.Store c.args.self.now _ sound_tables [] stays tt _ (is_up c.args.self.now.fault c.is_down.ensures c.if-is_down.false) (is_up c.args.self.now.fault c.is_down.ensures c.if-is_down.false)
          it.says;
      frugal = λ same. (let it = same in cc);
      spares = spares_done g.S.Store c.args.self.now _ _ (is_up c.args.self.now.fault c.is_down.ensures c.if-is_down.false) it.says.spares;
      stored = λ clean.
          record { balances = c.in-Ok.balances; stored = it.stored clean; own = c.own_balance.ensures };
      reads = reads_done g.S.Store c.args.self.now _ c.own_balance.result it.still it.left;
      broken = tt;
    }

pub returns-in-Err : goal.returns-in-Err
returns-in-Err g c =
    let it = c.in-Err.ensures in
    let down = c.go_down.ensures in
    let no = consult_refused g.S.Store c.args.self.now c.go_down.new.self c.read_teller.new.conn sound_tables [] stays
    tt c.in-Err.fault c.go_down.result down.down down.survives it.undone down.undone it.says in
    record {
      answer = tt;
      call = refused_call g.S.Store c.args.self.now c.go_down.new.self [] c.go_down.result no (is_up c.args.self.now.fault c.is_down.ensures c.if-is_down.false);
      frugal = λ same. no.frugal (let it = same in cc);
      spares = spares_down g.S.Store c.args.self.now c.go_down.new.self c.read_teller.new.conn c.in-Err.fault
          c.go_down.result (is_up c.args.self.now.fault c.is_down.ensures c.if-is_down.false) it.says.spares it.undone down.down down.undone down.survives;
      stored = tt;
      reads = reads_down g.S.Store c.args.self.now c.go_down.new.self c.read_teller.new.conn c.go_down.result it.undone
          it.left down.undone down.survives;
      broken = no.broken;
    }

pub returns-then-is_down : goal.returns-then-is_down
returns-then-is_down g c =
    let down = sym c.is_down.ensures ∙ c.if-is_down.true in
    record {
      answer = tt;
      call = untried_call g.S.Store c.args.self.now [] down;
      frugal = λ same. (let it = same in cc);
      spares = spares_untouched g.S.Store c.args.self.now;
      stored = tt;
      reads = idle_reads g.S.Store c.args.self.now (Err Down);
      broken = tt;
    }
