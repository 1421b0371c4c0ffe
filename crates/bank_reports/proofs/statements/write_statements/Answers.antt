-- The statements of all accounts of a file, and of a bank that shows a log.
use Rattle.std.proofs.Common.{rules, ◌≡◌, ◌∙◌, ℕ, List, [], Option, Err, refl, sym, subst, inl, inr}
use Rattle.std.specs.Prelude.{All}
use Rattle.sqlite.specs.{State.HasCleanDisk, Held.state}
use Rattle.posting_rules.specs.{declared.fault.Fault.TheVariants.Down, believed.Commands.Command}
use Rattle.posting_rules.specs.{believed.Counter.ShowsLog}
use Rattle.posting_core.proofs.Telling.{more_last}
use Rattle.store_rows.specs.believed.BankTables.{history as history_table, reference as reference_table}
use Rattle.walked_rows.specs.{Pairs.HasPairs, Pairs.Pair}
use Rattle.posting_core.specs.EndCalls.{IsFlush}
use Rattle.std.proofs.lemmas.Result.{on_ok_weaker}
use Rattle.report_contents.specs.declared.query.Query.{Query}
use Rattle.report_contents.proofs.Written.{later_failed}
use Rattle.bank_store.specs.believed.Seen.{bank_seen, database_of}
use Rattle.bank_store.proofs.AsFound.{idle_as_found, untouched_as_found}
use Rattle.bank_store.proofs.ReadsLeave.{idle_takes, reads_take_none}
use Rattle.bank_reports.specs.declared.fault.ReportFault.TheVariants.{Bank}
use Rattle.bank_reports.specs.AllPostings.{IsOfAccount, WritesStatements}
use Rattle.bank_reports.proofs.AllOnLogs.{all_part, all_sound, all_whole}
use Rattle.bank_reports.proofs.FaultsTold.{down_is_sound, unstated_all}
use Rattle.bank_reports.proofs.Gathers.{gathered_ends, gathered_then, silent_so_far, ungathered}
use Rattle.bank_reports.proofs.OnLogs.{all_rows, has_stated, stated_rows}
use Rattle.bank_reports.proofs.{BankReads.was_down, Further.error_is}
use Rattle.bank_reports.proofs.ReportEnds.{down_not_store, of_err, of_ok, tested_up, unwritten, was_down_tells}
use Rattle.bank_reports.proofs.ReportEnds.{was_up_tells, written_of}
use Rattle.bank_reports.proofs.statements.write_statements.Goals as goal

-- ---- a bank that was down

nothing_read : (query : Query) (w : Option (List ℕ)) (rows : List Pair)
    → WritesStatements query rows w w (Err (Bank Down))
nothing_read query w rows = record {
  gathered = [];
  rest = rows;
  are = refl;
  ends = inr (Bank Down, refl, tt, refl);
}

pub returns-then-is_down : goal.returns-then-is_down
returns-then-is_down g c =
    let seen = bank_seen g.S.Store c.args.bank.now in
    let w = g.W.Sink.contents c.args.writer.now in
    let was = sym c.is_down.ensures ∙ c.if-is_down.true in
    record {
      bank = unstated_all seen seen c.args.query w _ Down refl (down_is_sound seen seen) (idle_takes seen _);
      file = λ clean. record {
        rows = λ rows has. nothing_read c.args.query w rows;
        tables = λ t shown. nothing_read c.args.query w (stated_rows t);
        store = λ is. absurd (down_not_store _ Down refl refl is);
      };
      writer = unwritten Down refl;
      memory = λ is. refl;
      down = was_down_tells was refl (refl, refl);
      up = λ down. down;
      leaves = idle_as_found g.S.Store c.args.bank.now;
    }

-- ---- where not all was gathered

pub returns-in_err-visit_postings : goal.returns-in_err-visit_postings
returns-in_err-visit_postings g c =
    let old = state g.S.Store c.args.bank.now.conn in
    let new = state g.S.Store c.visit_postings.new.bank.conn in
    let db = database_of g.S.Store c.args.bank.now in
    let w = g.W.Sink.contents c.args.writer.now in
    let fault = c.in_err-visit_postings.field-0.0 in
    let same : c.from_residual.result ≡ Err fault = search rules in
    let says = c.in_err-visit_postings.ensures in
    let silent = silent_so_far _ _ _ _ fault says.ends in
    let was_up = λ (down : (bank_seen g.S.Store c.args.bank.now).is_down).
    tested_up _ _ c.is_down.ensures c.if-is_down.false down in
    let written = λ (clean : HasCleanDisk new) (rows : List Pair) (has : HasPairs db history_table reference_table rows).
    ungathered c.args.query fault (says.answers clean rows has) in
    let on_log = λ (clean : HasCleanDisk new) (log : List Command) (s : ShowsLog (bank_seen g.S.Store c.args.bank.now) log).
    written clean (stated_rows s.tables) (has_stated db s.tables s.are) in
    record {
      bank = record {
        text = rw same tt;
        part = rw same (λ clean log s.
            all_part log s.commands c.args.query (stated_rows s.tables) (all_rows db s.tables log s.are s.shows) w _
            fault (on_log clean log s));
        found = λ none. says.reads.found (sym same ∙ none);
        sound = λ rule is clean log s.
            all_sound log s.commands c.args.query (stated_rows s.tables) (all_rows db s.tables log s.are s.shows) w _
            rule (rw (error_is _ _ (sym same ∙ is)) at (on_log clean log s));
        takes = reads_take_none old new _ _ _
            (λ answered clean. says.reads.still clean (written_of (Err fault) says.reads.found (rw same at answered)))
            says.reads.survives (was_down says.reads);
      };
      file = λ clean. record {
        rows = λ rows has. rw same (written clean rows has);
        tables = λ t shown. rw same (written clean (stated_rows t) (has_stated db t shown));
        store = λ is rows has. says.reads.store (sym same ∙ is) clean rows has;
      };
      writer = record {
        silent = λ none. elim none [
          | inl missing ↦ absurd (says.reads.found (sym same ∙ missing))
          | inr down ↦ absurd (was_up (was_down says.reads down))
        ];
        flushed = rw same tt;
        failed = λ write. says.failed (sym same ∙ write);
      };
      memory = λ is. silent;
      down = was_up_tells was_up (λ is. says.reads.tried (sym same ∙ is));
      up = was_down says.reads;
      leaves = untouched_as_found g.S.Store c.args.bank.now c.visit_postings.new.bank says.reads.undone
          says.reads.survives;
    }

-- ---- where all was gathered

pub write_gathered-requires : goal.write_gathered-requires
write_gathered-requires g c =
    let it = c.in_ok-visit_postings.ensures.ends in
    subst (λ rows. All IsOfAccount rows) (sym it.1.rows) it.1.numbers

pub returns : goal.returns
returns g c =
    let old = state g.S.Store c.args.bank.now.conn in
    let new = state g.S.Store c.visit_postings.new.bank.conn in
    let db = database_of g.S.Store c.args.bank.now in
    let w = g.W.Sink.contents c.args.writer.now in
    let first = c.in_ok-visit_postings.ensures in
    let second = c.write_gathered.ensures in
    let end = c.write_gathered.result in
    let silent = first.ends.1.silent in
    let was_up = λ (down : (bank_seen g.S.Store c.args.bank.now).is_down).
    tested_up _ _ c.is_down.ensures c.if-is_down.false down in
    let written = λ (clean : HasCleanDisk new) (rows : List Pair) (has : HasPairs db history_table reference_table rows).
    gathered_then c.args.query (g.W.Sink.contents c.write_gathered.new.writer) end (first.answers clean rows has)
    second.written in
    let on_log = λ (clean : HasCleanDisk new) (log : List Command) (s : ShowsLog (bank_seen g.S.Store c.args.bank.now) log).
    written clean (stated_rows s.tables) (has_stated db s.tables s.are) in
    let only = gathered_ends c.args.query _ _ _ end second.written in
    record {
      bank = record {
        text = of_ok end (λ is clean log s.
            all_whole log s.commands c.args.query (stated_rows s.tables) (all_rows db s.tables log s.are s.shows) w _
            (rw is at (on_log clean log s)));
        part = of_err end (λ fault is clean log s.
            all_part log s.commands c.args.query (stated_rows s.tables) (all_rows db s.tables log s.are s.shows) w _
            fault (rw is at (on_log clean log s)));
        found = only.found;
        sound = λ rule is clean log s.
            all_sound log s.commands c.args.query (stated_rows s.tables) (all_rows db s.tables log s.are s.shows) w _
            rule (rw is at (on_log clean log s));
        takes = reads_take_none old new _ _ _ (λ answered clean. first.reads.still clean tt) first.reads.survives
            (was_down first.reads);
      };
      file = λ clean. record {
        rows = λ rows has. written clean rows has;
        tables = λ t shown. written clean (stated_rows t) (has_stated db t shown);
        store = λ is. absurd (only.store is);
      };
      writer = record {
        silent = λ none. elim none [
          | inl missing ↦ absurd (only.found missing)
          | inr down ↦ absurd (was_up (was_down first.reads down))
        ];
        flushed = on_ok_weaker end (λ e. more_last IsFlush first.more e) second.flushed;
        failed = λ write. later_failed first.more (second.failed write);
      };
      memory = λ is. only.memory is ∙ silent;
      down = was_up_tells was_up (λ is. absurd (only.down is));
      up = was_down first.reads;
      leaves = untouched_as_found g.S.Store c.args.bank.now c.visit_postings.new.bank first.reads.undone
          first.reads.survives;
    }
