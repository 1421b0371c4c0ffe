-- For which faults a visitor refuses a posting.
use Rattle.std.specs.Prelude.{⊤}
use Rattle.posting_rules.specs.declared.fault.Fault.TheVariants.{Damaged, Memory}
use Rattle.bank_reports.specs.declared.fault.ReportFault.{ReportFault}
use Rattle.bank_reports.specs.declared.fault.ReportFault.TheVariants.{Bank, Write}

-- the writer failed, or a rule is broken, or memory was refused to one that takes some
abbrev pub IsRefusal : (takes_memory : Type 0) → ReportFault → Type 0
IsRefusal takes_memory Write = ⊤
IsRefusal takes_memory (Bank (Damaged rule)) = ⊤
IsRefusal takes_memory (Bank Memory) = takes_memory
IsRefusal takes_memory _ = ⊥
