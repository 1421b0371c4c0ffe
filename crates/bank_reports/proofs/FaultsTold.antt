-- What is told of a bank with a fault.
use Rattle.std.proofs.Common.{◌≡◌, ◌∙◌, refl, sym, ℕ, List, Option, Result, Err}
use Rattle.sqlite_trees.specs.declared.store.Store.{Ghosts}
use Rattle.posting_rules.specs.declared.fault.Fault.{Fault, TheVariants.Memory, TheVariants.Down, TheVariants.Damaged}
use Rattle.posting_rules.specs.declared.fault.Fault.{TheVariants.Store}
use Rattle.posting_rules.specs.declared.fault.Rule.{Rule}
use Rattle.posting_rules.specs.{believed.Commands.Command, believed.Counter.Seen, believed.Counter.ShowsLog}
use Rattle.report_contents.proofs.Written.{nothing_written, on_err_any}
use Rattle.report_contents.specs.declared.audit.Audit.{Audit}
use Rattle.bank_store.specs.believed.Seen.{connection_of, database_of}
use Rattle.bank_store.specs.{Failures.HasFailedToRead, declared.bank.Bank.Bank}
use Rattle.bank_reports.specs.declared.fault.ReportFault.{ReportFault}
use Rattle.bank_reports.specs.declared.fault.ReportFault.TheVariants.{Bank as OfBank}
use Rattle.bank_reports.specs.{Audits.Audits, Audits.AuditsFile, Audits.HasAudited, StatedLines.statement_after}
use Rattle.bank_reports.specs.{Files.FileRows, Files.HasBrokenRow, Files.HasFile, Postings.HasAnswered}
use Rattle.bank_reports.specs.{AllStatements.StatesAll, Statements.StatesSelected}
use Rattle.report_contents.specs.declared.query.Query.{Query}
use Rattle.bank_store.specs.Leaving.{TakesNone}
use Rattle.bank_reports.proofs.{AllOnLogs.some_text, Further.error_is, ReportEnds.not_missing, ReportEnds.same_fault}

-- one that shows a log isn't told to be damaged
abbrev pub NeverSound : Seen → Seen → Fault → Type 0
NeverSound old new fault = (rule : Rule) → fault ≡ Damaged rule → new.honest → (log : List Command)
    → ShowsLog old log → ⊥

pub down_not_damaged : (fault : Fault) (rule : Rule) → fault ≡ Down → fault ≡ Damaged rule → ⊥
down_not_damaged fault rule down damaged = cc

pub memory_not_damaged : (fault : Fault) (rule : Rule) → fault ≡ Memory → fault ≡ Damaged rule → ⊥
memory_not_damaged fault rule memory damaged = cc

pub down_is_no_store : (fault : Fault) → fault ≡ Down → fault ≡ Store → ⊥
down_is_no_store fault down store = cc

pub memory_is_no_store : (fault : Fault) → fault ≡ Memory → fault ≡ Store → ⊥
memory_is_no_store fault memory store = cc

pub down_is_sound : (old new : Seen) → NeverSound old new Down
down_is_sound old new rule is clean log s = down_not_damaged Down rule refl is

pub memory_is_sound : (old new : Seen) → NeverSound old new Memory
memory_is_sound old new rule is clean log s = memory_not_damaged Memory rule refl is

-- ---- an audit

pub unaudited : (old new : Seen) (end : Result Audit Fault) (fault : Fault) → end ≡ Err fault
    → NeverSound old new fault → TakesNone old new (HasAudited end) → Audits old new end
unaudited old new end fault is sound takes = record {
  tables = λ clean t shown. rw is tt;
  condition = λ clean t shown. rw is tt;
  once = rw is tt;
  above = rw is tt;
  balanced = λ clean log s. rw is tt;
  sound = λ rule damaged. sound rule (error_is fault (Damaged rule) (sym is ∙ damaged));
  takes = takes;
}

pub unaudited_file : {S : Type 0} {g : Ghosts S} {old new : Bank S g} {end : Result Audit Fault} (fault : Fault)
    → end ≡ Err fault
    → ((rule : Rule) → fault ≡ Damaged rule → (f : FileRows) → HasFile (database_of g old) f → HasBrokenRow rule f)
    → (fault ≡ Store → (f : FileRows) → HasFile (database_of g old) f
    → HasFailedToRead g (connection_of old) (connection_of new)) → AuditsFile g old new end
unaudited_file fault is damaged store = record {
  numbers = λ f has. rw is tt;
  consistent = λ t has. rw is tt;
  damaged = λ rule told. damaged rule (error_is fault (Damaged rule) (sym is ∙ told));
  store = λ told. store (error_is fault Store (sym is ∙ told));
}

-- ---- statements of which nothing was written

pub unstated_all : (old new : Seen) (query : Query) (w : Option (List ℕ)) (end : Result (Unit {0}) ReportFault)
    (fault : Fault) → end ≡ Err (OfBank fault)
    → NeverSound old new fault → TakesNone old new (HasAnswered end) → StatesAll old new query w w end
unstated_all old new query w end fault is sound takes = record {
  text = rw is tt;
  part = on_err_any end (λ clean log s.
      let some = some_text log s.commands query in (some.0, some.1, nothing_written w some.0));
  found = not_missing end fault is;
  sound = λ rule damaged. sound rule (same_fault end fault (Damaged rule) is damaged);
  takes = takes;
}

pub unstated : (old new : Seen) (account : ℕ) (query : Query) (w : Option (List ℕ)) (end : Result (Unit {0}) ReportFault)
    (fault : Fault) → end ≡ Err (OfBank fault)
    → NeverSound old new fault → TakesNone old new (HasAnswered end) → StatesSelected old new account query w w end
unstated old new account query w end fault is sound takes = record {
  text = rw is tt;
  found = rw is tt;
  missing = λ none. absurd (not_missing end fault is none);
  silent = λ none. refl;
  part = on_err_any end (λ clean log s. nothing_written w (statement_after log account query));
  sound = λ rule damaged. sound rule (same_fault end fault (Damaged rule) is damaged);
  takes = takes;
}
