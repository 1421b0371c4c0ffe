-- The statement of an account of a bank that shows a log.
use Rattle.std.proofs.Common.{◌≡◌, ◌∙◌, List, [], filter, Some, Err, refl, sym, ap, subst}
use Rattle.std.proofs.Common.{inl, inr, arith}
use Rattle.std.specs.Prelude.{IsSome}
use Rattle.sqlite.specs.{State.HasCleanDisk, Held.state}
use Rattle.posting_rules.specs.{declared.fault.Fault.TheVariants.Down, believed.Commands.Command}
use Rattle.posting_rules.specs.{believed.Counter.ShowsLog}
use Rattle.store_rows.specs.believed.BankTables.{history as history_table, reference as reference_table}
use Rattle.walked_rows.specs.{Pairs.HasPairs, Pairs.Pair, Stored.is_stated_of}
use Rattle.bank_store.specs.{believed.Down.OfDamage, Down.WasBroken, believed.Down.bank_reason}
use Rattle.bank_store.specs.{believed.Seen.bank_seen, believed.Seen.database_of}
use Rattle.bank_reports.specs.{declared.fault.ReportFault.TheVariants.Bank, StatedLines.statement_after}
use Rattle.bank_reports.specs.{Postings.StatesRows}
use Rattle.report_contents.proofs.Written.{nothing_written}
use Rattle.bank_reports.proofs.FaultsTold.{down_is_sound, unstated}
use Rattle.bank_reports.proofs.{BankReads.failed_later, BankReads.was_down, statement.write_selected.Given.Over}
use Rattle.bank_reports.proofs.OnLogs.{account_rows, has_stated, stated_rows}
use Rattle.bank_reports.proofs.ReportEnds.{damaged_not_down, down_not_memory, down_not_store, not_both, not_missing}
use Rattle.bank_reports.proofs.ReportEnds.{of_err, of_ok, refused_before, refused_down}
use Rattle.bank_reports.proofs.ReportEnds.{refused_leaves, refused_sound, same_fault, tested_up, unwritten, was_down_tells}
use Rattle.bank_reports.proofs.ReportEnds.{was_up_tells, written_of}
use Rattle.bank_store.proofs.{AsFound.commits_then, AsFound.idle_commits, ReadsLeave.idle_takes, ReadsLeave.reads_after}
use Rattle.bank_transactions.proofs.Blamed.{comes}
use Rattle.bank_reports.proofs.StatementReports.{ToldOfLog, log_part, log_sound, log_whole}
use Rattle.bank_reports.proofs.Refused.{err_is}
use Rattle.bank_reports.proofs.statement.write_selected.Goals as goal

-- ---- a bank that was down

pub returns-then-is_down : goal.returns-then-is_down
returns-then-is_down g c =
    let seen = bank_seen g.S.Store c.args.bank.now in
    let was = sym c.is_down.ensures ∙ c.if-is_down.true in
    record {
      bank = unstated seen seen c.args.account c.args.query (g.W.Sink.contents c.args.writer.now) _ Down refl
          (down_is_sound seen seen) (idle_takes seen _);
      file = λ clean up. absurd (up was);
      refused = λ down. record {
        fault = (Down, refl);
        cause = λ is. absurd (down_not_store _ Down refl refl is);
        broken = λ rule is. absurd (damaged_not_down _ rule is refl);
        unchanged = λ rule is. absurd (damaged_not_down _ rule is refl);
      };
      writer = unwritten Down refl;
      frugal = λ is. absurd (down_not_memory _ Down refl refl is);
      down = was_down_tells was refl (refl, refl);
      leaves = idle_commits g.S.Store c.args.bank.now;
    }

-- ---- where the balance was refused

refusal : (g : Over) (c : goal.After-from_residual g)
    → c.from_residual.result ≡ Err (Bank c.in_err-balance.field-0.0)
refusal g c = err_is _ c.from_residual.ensures.1

pub returns-in_err-balance : goal.returns-in_err-balance
returns-in_err-balance g c =
    let old = bank_seen g.S.Store c.args.bank.now in
    let new = bank_seen g.S.Store c.balance.new.self in
    let fault = c.in_err-balance.field-0.0 in
    let says = c.in_err-balance.ensures in
    let same = refusal g c in
    let went_down = refused_down fault old new [] (λ is. says.frugal (ap Err is)) says.call.fault in
    let was_up = λ (down : old.is_down). tested_up _ _ c.is_down.ensures c.if-is_down.false down in
    record {
      bank = unstated old new c.args.account c.args.query (g.W.Sink.contents c.args.writer.now) _ fault same
          (λ rule is. refused_sound fault old new [] says.call.fault rule is)
          record {
            done = λ answered. absurd (rw same at answered);
            survives = λ clean log at. refused_leaves fault old new says.call.fault clean log at;
            honest = says.call.honest;
          };
      file = λ clean up. absurd (up went_down);
      refused = λ down. record {
        fault = (fault, same);
        cause = λ is.
            subst (λ f. bank_reason g.S.Store f c.args.bank.now c.balance.new.self)
            (same_fault _ _ _ same is) says.call.why;
        broken = λ rule is.
            subst (λ f. OfDamage f (WasBroken g.S.Store c.args.bank.now c.balance.new.self))
            (same_fault _ _ _ same is) says.broken;
        unchanged = λ rule is. says.call.unchanged (rw (same_fault _ _ _ same is) tt);
      };
      writer = unwritten fault same;
      frugal = λ is. says.frugal (ap Err (same_fault _ _ _ same is));
      down = was_up_tells was_up
          (λ is. refused_before fault old new [] says.call.fault (same_fault _ fault Down same is));
      leaves = says.reads.leaves;
    }

-- ---- where the account isn't open

pub returns-in_default : goal.returns-in_default
returns-in_default g c =
    let says = c.in_ok-balance.ensures in
    record {
      bank = record {
        text = tt;
        found = tt;
        missing = λ none clean log s. sym (rw c.in_default.is at (says.answer clean log s));
        silent = λ none. refl;
        part = λ clean log s. nothing_written _ (statement_after log c.args.account c.args.query);
        sound = λ rule is clean log s. not_missing _ _ is refl;
        takes = record {
          done = λ answered. says.call.done;
          survives = λ clean log at. (says.call.done.stands clean log at).survives;
          honest = says.call.honest;
        };
      };
      file = λ clean up. record {
        rows = λ found. absurd (found refl);
        tables = λ found. absurd (found refl);
        absent = λ none. rw c.in_default.is at (says.stored clean);
        store = λ is. absurd (not_missing _ _ is refl);
      };
      refused = λ down. absurd (says.call.up down);
      writer = record { silent = λ none. refl; flushed = tt; failed = λ write. absurd (not_both _ write refl) };
      frugal = λ is. not_missing _ _ is refl;
      down = was_up_tells (tested_up _ _ c.is_down.ensures c.if-is_down.false) (λ is. absurd (not_missing _ _ is refl));
      leaves = says.reads.leaves;
    }

-- ---- where the lines were begun

-- the disk was clean when the balance was known
clean_at : (g : Over) (c : goal.After-write_open g)
    → HasCleanDisk (state g.S.Store c.write_open.new.bank.conn)
    → HasCleanDisk (state g.S.Store c.balance.new.self.conn)
clean_at g c clean = omega (arith, c.write_open.ensures.reads.survives.clean, clean)

-- the rows are those that the file held
rows_at : (g : Over) (c : goal.After-write_open g)
    → HasCleanDisk (state g.S.Store c.write_open.new.bank.conn) → (rows : List Pair)
    → HasPairs (database_of g.S.Store c.args.bank.now) history_table reference_table rows
    → HasPairs (database_of g.S.Store c.balance.new.self) history_table reference_table rows
rows_at g c clean rows has =
    let same = c.in_ok-balance.ensures.reads.still (clean_at g c clean) in
    subst (λ db. HasPairs db history_table reference_table rows) (sym same) has

stated : (g : Over) (c : goal.After-write_open g)
    → HasCleanDisk (state g.S.Store c.write_open.new.bank.conn) → (rows : List Pair)
    → HasPairs (database_of g.S.Store c.args.bank.now) history_table reference_table rows
    → StatesRows (database_of g.S.Store c.args.bank.now) c.args.account c.args.query rows
    (g.W.Sink.contents c.args.writer.now) (g.W.Sink.contents c.write_open.new.writer) c.write_open.result
stated g c clean rows has =
    let balance = rw c.in-Some.is at (c.in_ok-balance.ensures.stored (clean_at g c clean)) in
    (c.in-Some.balance, balance, c.write_open.ensures.answers clean rows (rows_at g c clean rows has))

-- what is told of it where the bank shows a log
told_of : (g : Over) (c : goal.After-write_open g)
    → HasCleanDisk (state g.S.Store c.write_open.new.bank.conn) → (log : List Command)
    → ShowsLog (bank_seen g.S.Store c.args.bank.now) log
    → ToldOfLog c.args.account log c.args.query (g.W.Sink.contents c.args.writer.now)
    (g.W.Sink.contents c.write_open.new.writer) c.write_open.result
told_of g c clean log s =
    let mid = clean_at g c clean in
    let shown = c.in_ok-balance.ensures.call.done.shows mid log s in
    let t = shown.tables in
    let same = rw c.in-Some.is at (c.in_ok-balance.ensures.answer mid log s) in
    record {
      balance = c.in-Some.balance;
      is = same;
      all = filter (is_stated_of (Some c.args.account)) (stated_rows t);
      rows = account_rows _ t log c.args.account shown.are shown.shows;
      answers = c.write_open.ensures.answers clean (stated_rows t) (has_stated _ t shown.are);
      commands = shown.commands;
    }

pub returns : goal.returns
returns g c =
    let mid = state g.S.Store c.balance.new.self.conn in
    let new = state g.S.Store c.write_open.new.bank.conn in
    let before = c.in_ok-balance.ensures in
    let says = c.write_open.ensures in
    let down_before = λ (down : (bank_seen g.S.Store c.write_open.new.bank).is_down).
    before.call.up (was_down says.reads down) in
    record {
      bank = record {
        text = of_ok c.write_open.result (λ is clean log s. log_whole (told_of g c clean log s) is);
        found = of_ok c.write_open.result (λ is clean log s.
            subst (λ o. IsSome o) (told_of g c clean log s).is refl);
        missing = λ none. absurd (says.reads.found none);
        silent = λ none. absurd (says.reads.found none);
        part = of_err c.write_open.result
            (λ fault is clean log s. log_part (told_of g c clean log s) fault is);
        sound = λ rule is clean log s. log_sound (told_of g c clean log s) rule is;
        takes = reads_after (state g.S.Store c.args.bank.now.conn) mid new _ _ _ _ before.call.done before.call.honest
            (λ answered clean.
            says.reads.still clean (written_of c.write_open.result says.reads.found answered))
            says.reads.survives (was_down says.reads);
      };
      file = λ clean up. record {
        rows = λ found rows has. stated g c clean rows has;
        tables = λ found t shown. stated g c clean (stated_rows t) (has_stated _ t shown);
        absent = λ none. absurd (says.reads.found none);
        store = λ is rows has.
            failed_later g.S.Store c.args.bank.now.conn c.balance.new.self.conn c.write_open.new.bank.conn
            (comes before.reads.leaves.left) (says.reads.store is clean rows (rows_at g c clean rows has));
      };
      refused = λ down. absurd (down_before down);
      writer = record {
        silent = λ none. elim none [
          | inl missing ↦ absurd (says.reads.found missing)
          | inr down ↦ absurd (down_before down)
        ];
        flushed = says.flushed;
        failed = says.failed;
      };
      frugal = says.reads.frugal;
      down = was_up_tells (tested_up _ _ c.is_down.ensures c.if-is_down.false)
          (λ is. absurd (before.call.up (says.reads.tried is)));
      leaves = commits_then g.S.Store c.args.bank.now c.write_open.new.bank c.balance.new.self.conn
          before.reads.leaves.now before.reads.leaves.left says.reads.undone says.reads.survives;
    }
