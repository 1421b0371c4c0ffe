-- One more is kept.
use Rattle.std.proofs.Common.{rules, ◌++◌, ◌∷◌, [], inl, inr, refl, ap, ◌∙◌}
use Rattle.std.proofs.lemmas.List.Elements.{All-push}
use Rattle.posting_core.proofs.Telling.{more_none}
use Rattle.posting_rules.specs.declared.fault.{Fault.TheVariants.Damaged, Fault.TheVariants.Memory, Rule.TheVariants.Value}
use Rattle.bank_reports.specs.AllPostings.{IsOfAccount}
use Rattle.bank_reports.proofs.ReportEnds.{not_ok, not_write}
use Rattle.bank_reports.proofs.gathering.GatheredVisitor.visit.Goals as goal

pub returns-then-not-is_of_account : goal.returns-then-not-is_of_account
returns-then-not-is_of_account g c = record {
  visited = λ first bytes given it. record {
    why = inl (refl, search rules);
    silent = it.silent;
  };
  faults = tt;
  more = tt;
  failed = λ write. absurd (not_write _ (Damaged Value) refl write);
}

pub returns-in-Err : goal.returns-in-Err
returns-in-Err g c = record {
  visited = λ first bytes given it. record { why = inr refl; silent = it.silent };
  faults = tt;
  more = tt;
  failed = λ write. absurd (not_write _ Memory refl write);
}

pub returns-in-Ok : goal.returns-in-Ok
returns-in-Ok g c = record {
  visited = λ first bytes given it. record {
    rows = c.in-Ok.ensures.items ∙ ap (λ l. l ++ c.args.row.now ∷ []) it.rows;
    numbers = All-push IsOfAccount given c.args.row.now it.numbers (search rules);
    silent = it.silent;
  };
  faults = tt;
  more = more_none _;
  failed = λ write. absurd (not_ok _ _ _ refl write);
}
