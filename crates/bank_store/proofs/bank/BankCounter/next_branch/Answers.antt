-- What the next branch comes to.
use Rattle.std.proofs.Common.{◌≡◌, [], ◌∙◌, Err, sym}
use Rattle.posting_rules.specs.declared.fault.Fault.TheVariants.{Down}
use Rattle.posting_rules.proofs.{Calls.stays, NextBranch.next_shown, ChangesByKey.sound_tables}
use Rattle.store_rows.specs.Columns.{branch_above}
use Rattle.bank_store.proofs.AsFound.{idle_reads, reads_done, reads_down}
use Rattle.bank_store.proofs.{bank.BankCounter.next_branch.Given.Over}
use Rattle.bank_store.proofs.OtherTables.{spares_done, spares_down, spares_untouched}
use Rattle.bank_store.proofs.Refusing.{committed_call, consult_refused, is_up, refused_call, untried_call, Refusal}
use Rattle.bank_transactions.specs.{NextBranch.line_above, Causes.IsFirstBroken}
use Rattle.bank_transactions.proofs.{NextRow.next_is, Remembered.blank}
use Rattle.bank_store.proofs.FileTables.{tables_kept}
use Rattle.bank_store.proofs.bank.BankCounter.next_branch.Goals as goal

-- what its refusal says
refused : (g : Over) (c : goal.After-go_down g)
    → Refusal g.S.Store c.args.self.now c.go_down.new.self [] (IsFirstBroken g.S.Store) c.go_down.result
refused g c =
    consult_refused g.S.Store c.args.self.now c.go_down.new.self c.read_next_branch.new.conn sound_tables []
    stays tt c.in-Err.fault
    c.go_down.result c.go_down.ensures.down c.go_down.ensures.survives c.in-Err.ensures.undone
    c.go_down.ensures.undone c.in-Err.ensures.says

pub read_next_branch-requires : goal.read_next_branch-requires
read_next_branch-requires g c = c.args.self.now.idle

pub invariant_of-self : goal.invariant_of-self
invariant_of-self g c = record {
  idle = c.read_next_branch.ensures.says.mode;
  remembers = blank g.S.Store c.read_next_branch.new.conn c.forget.new.self c.forget.ensures.blank;
  tables = tables_kept g.S.Store c.args.self.now.conn c.read_next_branch.new.conn c.read_next_branch.result c.read_next_branch.ensures.says.spares
      c.read_next_branch.ensures.undone c.args.self.now.tables;
}

pub returns-in-Ok : goal.returns-in-Ok
returns-in-Ok g c =
    let after = c.args.after in
    let says = c.in-Ok.ensures.says in
    record {
      answer =
          λ clean log s.
          let found : c.in-Ok.next ≡ line_above s.tables after =
          (says.answers clean s.tables s.are (sound_tables s.tables log s.commands s.shows)).0 in
          rw found (next_shown s.tables log s.shows after (branch_above s.tables after)
          (next_is _ s.tables after s.are));
      within = c.in-Ok.ensures.within;
      call =
          committed_call g.S.Store c.args.self.now _ sound_tables [] stays tt _ (is_up c.args.self.now.fault c.is_down.ensures c.if-is_down.false) (is_up c.args.self.now.fault c.is_down.ensures c.if-is_down.false)
          says;
      stored = c.in-Ok.ensures.stored;
      reads = reads_done g.S.Store c.args.self.now _ c.in-Ok.next c.in-Ok.ensures.still c.in-Ok.ensures.left;
      frugal = λ same. (let it = same in cc);
      broken = tt;
      spares = spares_done g.S.Store c.args.self.now _ _ (is_up c.args.self.now.fault c.is_down.ensures c.if-is_down.false) says.spares;
    }

pub returns-in-Err : goal.returns-in-Err
returns-in-Err g c =
    let no = refused g c in
    record {
      answer = tt;
      within = tt;
      call = refused_call g.S.Store c.args.self.now c.go_down.new.self [] c.go_down.result no
          (is_up c.args.self.now.fault c.is_down.ensures c.if-is_down.false);
      frugal = λ same. no.frugal (let it = same in cc);
      stored = tt;
      reads = reads_down g.S.Store c.args.self.now c.go_down.new.self c.read_next_branch.new.conn
          c.go_down.result c.in-Err.ensures.undone c.in-Err.ensures.left c.go_down.ensures.undone
          c.go_down.ensures.survives;
      broken = no.broken;
      spares = spares_down g.S.Store c.args.self.now c.go_down.new.self c.read_next_branch.new.conn
          c.in-Err.fault c.go_down.result (is_up c.args.self.now.fault c.is_down.ensures c.if-is_down.false) c.in-Err.ensures.says.spares
          c.in-Err.ensures.undone
          c.go_down.ensures.down c.go_down.ensures.undone c.go_down.ensures.survives;
    }

pub returns-then-is_down : goal.returns-then-is_down
returns-then-is_down g c =
    let down = sym c.is_down.ensures ∙ c.if-is_down.true in
    record {
      answer = tt;
      within = tt;
      call = untried_call g.S.Store c.args.self.now [] down;
      frugal = λ same. (let it = same in cc);
      stored = tt;
      reads = idle_reads g.S.Store c.args.self.now (Err Down);
      broken = tt;
      spares = spares_untouched g.S.Store c.args.self.now;
    }
