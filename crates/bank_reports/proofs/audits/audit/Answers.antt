-- The audit of a file, and of one that shows a log.
use Rattle.std.proofs.Common.{◌≡◌, Err, refl, sym, ap, subst, ◌∙◌}
use Rattle.std.specs.Prelude.{◌↔◌, IsTrue}
use Rattle.sqlite.specs.{State.HasCleanDisk, Held.state}
use Rattle.posting_rules.specs.{believed.Laws.IsConsistent, declared.fault.Fault.Fault}
use Rattle.posting_rules.specs.declared.fault.Fault.TheVariants.{Down, Memory}
use Rattle.posting_rules.proofs.Undamaged.{undamaged}
use Rattle.report_contents.specs.{Audit.audit_of, Audit.is_sound, Beside.rows_of, Consistency.IsSoundFile}
use Rattle.report_contents.specs.Stored.{StoredTables, stored}
use Rattle.report_contents.proofs.{OfRows.rows_tell, Telling.tells}
use Rattle.bank_store.specs.believed.Seen.{bank_seen, database_of, file_of}
use Rattle.bank_reports.specs.declared.fault.ReportFault.TheVariants.{Bank}
use Rattle.bank_reports.specs.{Files.HasFile, Files.rows_in, Leaving.as_report}
use Rattle.bank_reports.proofs.BankReads.{was_down}
use Rattle.bank_reports.proofs.FaultsTold.{down_is_no_store, down_is_sound, down_not_damaged, memory_is_no_store}
use Rattle.bank_reports.proofs.FaultsTold.{memory_is_sound, memory_not_damaged, unaudited, unaudited_file}
use Rattle.bank_reports.proofs.{Further.error_is, OncePosted.posted_once, Read.one_file, ReportEnds.not_ok}
use Rattle.bank_reports.proofs.ReportEnds.{tested_up, was_down_tells, was_up_tells}
use Rattle.bank_reports.proofs.{audits.audit.Given.Over}
use Rattle.bank_reports.proofs.LogFiles.{balanced, has_file, has_ordinals, not_damaged, tells_in_file}
use Rattle.bank_store.proofs.AsFound.{idle_as_found, untouched_as_found}
use Rattle.bank_store.proofs.ReadsLeave.{idle_takes, reads_take_none}
use Rattle.bank_reports.proofs.Refused.{err_is}
use Rattle.bank_reports.proofs.audits.audit.Goals as goal

-- an error that a report has
as_told : {e f : Fault} → e ≡ f → as_report (Err e) ≡ Err (Bank f)
as_told same = ap (λ (fault : Fault). as_report (Err fault)) same

pub returns-then-is_down : goal.returns-then-is_down
returns-then-is_down g c =
    let seen = bank_seen g.S.Store c.args.bank.now in
    record {
      bank = unaudited seen seen _ Down refl (down_is_sound seen seen) (idle_takes seen _);
      file = λ clean. unaudited_file Down refl (λ rule is. absurd (down_not_damaged Down rule refl is))
          (λ is. absurd (down_is_no_store Down refl is));
      memory = λ is. refl;
      down = was_down_tells (sym c.is_down.ensures ∙ c.if-is_down.true) refl refl;
      up = refl;
      leaves = idle_as_found g.S.Store c.args.bank.now;
    }

-- ---- where there was no memory for the sums

pub returns-in_err-sums : goal.returns-in_err-sums
returns-in_err-sums g c =
    let seen = bank_seen g.S.Store c.args.bank.now in
    let same : c.from_residual.result ≡ Err Memory = err_is _ c.from_residual.ensures.1 in
    record {
      bank = unaudited seen seen _ Memory same (memory_is_sound seen seen) (idle_takes seen _);
      file = λ clean. unaudited_file Memory same (λ rule is. absurd (memory_not_damaged Memory rule refl is))
          (λ is. absurd (memory_is_no_store Memory refl is));
      memory = λ is. refl;
      down = was_up_tells (tested_up _ _ c.is_down.ensures c.if-is_down.false)
          (λ is. absurd (let e = error_is Memory Down (sym same ∙ is) in cc));
      up = refl;
      leaves = idle_as_found g.S.Store c.args.bank.now;
    }

-- ---- where a pass ended it

pub returns-in_err-add_all : goal.returns-in_err-add_all
returns-in_err-add_all g c =
    let old = bank_seen g.S.Store c.args.bank.now in
    let new = bank_seen g.S.Store c.add_all.new.bank in
    let fault = c.in_err-add_all.field-0.0 in
    let reads = c.in_err-add_all.ensures.reads in
    let same : c.from_residual-in_err-add_all.result ≡ Err fault = err_is _ c.from_residual-in_err-add_all.ensures.1 in
    record {
      bank = unaudited old new _ fault same
          (λ broken is clean log s.
          let has = has_file (database_of g.S.Store c.args.bank.now) s.tables s.are in
          not_damaged s.tables log s.commands s.shows broken
          (reads.damage broken (as_told is) clean (rows_in (stored s.tables)) has))
          (reads_take_none (file_of c.args.bank.now) (file_of c.add_all.new.bank) _ _ _ (λ yes. absurd (rw same at yes))
          reads.survives (was_down reads));
      file = λ clean. unaudited_file fault same (λ broken is. reads.damage broken (as_told is) clean)
          (λ is. reads.store (as_told is) clean);
      memory = λ is. absurd (reads.frugal (as_told (error_is _ _ (sym same ∙ is))));
      down = was_up_tells (tested_up _ _ c.is_down.ensures c.if-is_down.false)
          (λ is. reads.tried (as_told (error_is _ _ (sym same ∙ is))));
      up = reads.up;
      leaves = untouched_as_found g.S.Store c.args.bank.now c.add_all.new.bank reads.undone reads.survives;
    }

-- ---- where all was added up

-- the audit is that of the rows
audited : (g : Over) (c : goal.After-into_audit g) → HasCleanDisk (state g.S.Store c.add_all.new.bank.conn)
    → (t : StoredTables) → HasFile (database_of g.S.Store c.args.bank.now) (rows_in t)
    → c.into_audit.result ≡ audit_of t
audited g c clean t has =
    let it = c.in_ok-add_all.ensures.added clean (rows_in t) has in
    c.into_audit.ensures (rows_of it.0) it.2 ∙ rows_tell it.0 ∙ ap audit_of (one_file it.0 t it.1)

pub returns : goal.returns
returns g c =
    let old = state g.S.Store c.args.bank.now.conn in
    let new = state g.S.Store c.add_all.new.bank.conn in
    let db = database_of g.S.Store c.args.bank.now in
    let says = c.in_ok-add_all.ensures in
    record {
      bank = record {
        tables = λ clean t shown. audited g c clean (stored t) (has_file db t shown);
        condition = λ clean t shown.
            subst (λ found. IsTrue (is_sound found) ↔ IsConsistent t)
            (sym (audited g c clean (stored t) (has_file db t shown))) (tells_in_file db t shown);
        once = λ clean log t there shows. posted_once t log shows;
        above = λ clean log are t there shows. (undamaged t log are shows).above;
        balanced = λ clean log s.
            ap is_sound (audited g c clean (stored s.tables) (has_file db s.tables s.are))
            ∙ balanced s.tables log s.shows;
        sound = λ broken is clean log s. not_ok _ _ _ refl is;
        takes = reads_take_none old new _ _ _ (λ yes clean. says.reads.still clean tt) says.reads.survives
            (was_down says.reads);
      };
      file = λ clean. record {
        numbers = λ f has.
            let it = says.added clean f has in
            (it.0, it.1, c.into_audit.ensures (rows_of it.0) it.2 ∙ rows_tell it.0);
        consistent = λ t has.
            subst (λ found. IsTrue (is_sound found) ↔ IsSoundFile t) (sym (audited g c clean t has))
            (tells t (has_ordinals db t has));
        damaged = λ broken is. absurd (not_ok _ _ _ refl is);
        store = λ is. absurd (not_ok _ _ _ refl is);
      };
      memory = λ is. absurd (not_ok _ _ _ refl is);
      down = was_up_tells (tested_up _ _ c.is_down.ensures c.if-is_down.false) (λ is. absurd (not_ok _ _ _ refl is));
      up = says.reads.up;
      leaves = untouched_as_found g.S.Store c.args.bank.now c.add_all.new.bank says.reads.undone says.reads.survives;
    }
