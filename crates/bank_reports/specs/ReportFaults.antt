-- The texts of a report's faults.
use Rattle.std.specs.Prelude.{ℕ, List, codes}
use Rattle.posting_rules.specs.FaultTexts.{fault_text}
use Rattle.bank_reports.specs.declared.fault.ReportFault.{ReportFault}
use Rattle.bank_reports.specs.declared.fault.ReportFault.TheVariants.{NoAccount, Write, Bank}

abbrev pub report_text : ReportFault → List ℕ
report_text NoAccount = codes "no account"
report_text Write = codes "write failed"
report_text (Bank fault) = fault_text fault
