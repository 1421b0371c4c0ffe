-- What a closing comes to.
use Rattle.std.proofs.Common.{[], ◌∷◌, ◌∙◌, refl, sym}
use Rattle.posting_rules.specs.declared.fault.Fault.TheVariants.{Down}
use Rattle.posting_rules.specs.believed.{Changes.tables_closed, Closings.closings, Commands.AreCommands, Commands.Close}
use Rattle.posting_rules.proofs.{Calls.IsChange, ClosedTables.closing_shown}
use Rattle.posting_rules.proofs.Closings.{answer_shown, closing_keys}
use Rattle.bank_transactions.specs.believed.{Additions.AddsClosing, Causes.IsBrokenOrMet, Closed.AreClosed}
use Rattle.bank_transactions.proofs.Remembered.{blank}
use Rattle.bank_store.proofs.bank.Bank.close_run.Given.{Over}
use Rattle.bank_store.proofs.{ApartRows.closed_of_log, ApartRows.sound_command, AsFound.down_keeps, AsFound.idle_keeps}
use Rattle.bank_store.proofs.{Countered.HoldsOfLogs, Either.either_after, Either.untried_closing, FileTables.tables_kept}
use Rattle.bank_store.proofs.OtherTables.{spares_done, spares_down, spares_untouched}
use Rattle.bank_store.proofs.Refusing.{committed_call, is_up, refused_call, transaction_refused, untried_call, Refusal}
use Rattle.bank_store.proofs.bank.Bank.close_run.Goals as goal

-- the tables of a log are so
sound : HoldsOfLogs (λ t. AreClosed t.closings)
sound t log are shows = closed_of_log t log are shows

-- what its refusal says
refused : (g : Over) (c : goal.After-go_down g)
    → Refusal g.S.Store c.args.self.now c.go_down.new.self (Close c.args.row.now.first c.args.row.now.last ∷ [])
    (IsBrokenOrMet g.S.Store (AddsClosing c.args.row.now)) c.go_down.result
refused g c =
    let row = c.args.row.now in
    let are : AreCommands (Close row.first row.last ∷ []) = (sound_command c.args.row.now c.requires, tt) in
    transaction_refused g.S.Store c.args.self.now c.go_down.new.self c.close_numbers.new.conn sound
    (Close row.first row.last ∷ []) (λ t log shows. closing_shown t log row.first row.last shows) are
    c.in-Err.fault c.go_down.result c.go_down.ensures.down
    c.go_down.ensures.survives c.in-Err.ensures.undone c.go_down.ensures.undone
    c.in-Err.ensures.transacts

pub close_numbers-requires : goal.close_numbers-requires
close_numbers-requires g c = record { mode = c.args.self.now.idle; sound = c.requires }

pub invariant_of-self : goal.invariant_of-self
invariant_of-self g c = record {
  idle = c.close_numbers.ensures.transacts.mode;
  remembers = blank g.S.Store c.close_numbers.new.conn c.forget.new.self c.forget.ensures.blank;
  tables = tables_kept g.S.Store c.args.self.now.conn c.close_numbers.new.conn c.close_numbers.result
      c.close_numbers.ensures.transacts.spares c.close_numbers.ensures.undone c.args.self.now.tables;
}

pub returns-in-Ok : goal.returns-in-Ok
returns-in-Ok g c =
    let row = c.args.row.now in
    let are : AreCommands (Close row.first row.last ∷ []) = (sound_command c.args.row.now c.requires, tt) in
    let says = c.in-Ok.ensures.transacts in
    let up = is_up c.args.self.now.fault c.is_down.ensures c.if-is_down.false in
    record {
      answer =
          λ clean log s.
          let rows = s.shows.rows in
          (says.answers clean s.tables s.are (sound s.tables log s.commands s.shows)).0
          ∙ answer_shown s.tables.closings (closings log) rows.closing_keys (closing_keys log) rows.closings row.first row.last;
      call = committed_call g.S.Store c.args.self.now _ sound (Close row.first row.last ∷ [])
          (λ t log shows. closing_shown t log row.first row.last shows) are _ up up says;
      frugal = λ same. (let it = same in cc);
      stored = record { answers = c.in-Ok.ensures.stored; whole = c.in-Ok.ensures.whole };
      own = tt;
      spares = spares_done g.S.Store c.args.self.now _ _ up says.spares;
    }

pub returns-in-Err : goal.returns-in-Err
returns-in-Err g c =
    let no = refused g c in
    let up = is_up c.args.self.now.fault c.is_down.ensures c.if-is_down.false in
    record {
      answer = tt;
      call = refused_call g.S.Store c.args.self.now c.go_down.new.self _ c.go_down.result no up;
      frugal = λ same. no.frugal (let it = same in cc);
      stored = record {
        answers = tt;
        whole = down_keeps g.S.Store c.args.self.now c.go_down.new.self c.close_numbers.new.conn _ c.in-Err.ensures.whole
            c.go_down.ensures.survives;
      };
      own = record {
        damage = no.broken;
        left = either_after g.S.Store c.args.self.now c.go_down.new.self c.close_numbers.new.conn c.in-Err.ensures.transacts
            c.go_down.ensures.survives;
      };
      spares = spares_down g.S.Store c.args.self.now c.go_down.new.self c.close_numbers.new.conn c.in-Err.fault
          c.go_down.result up c.in-Err.ensures.transacts.spares
          c.in-Err.ensures.undone
          c.go_down.ensures.down c.go_down.ensures.undone c.go_down.ensures.survives;
    }

pub returns-then-is_down : goal.returns-then-is_down
returns-then-is_down g c = record {
  answer = tt;
  call = untried_call g.S.Store c.args.self.now _ (sym c.is_down.ensures ∙ c.if-is_down.true);
  frugal = λ same. (let it = same in cc);
  stored = record { answers = tt; whole = idle_keeps g.S.Store c.args.self.now _ };
  own = untried_closing g.S.Store c.args.self.now c.args.row.now Down refl;
  spares = spares_untouched g.S.Store c.args.self.now;
}
