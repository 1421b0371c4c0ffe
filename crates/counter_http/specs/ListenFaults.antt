-- Why the serving of clients ends.
use Rattle.std.specs.Prelude.{ℕ, List, codes}
use Rattle.posting_rules.specs.FaultTexts as rules
use Rattle.counter_http.specs.declared.listen_fault.ListenFault.{ListenFault}
use Rattle.counter_http.specs.declared.listen_fault.ListenFault.TheVariants.{Network, Bank}

-- what `{}` writes of a fault
abbrev pub fault_text : ListenFault → List ℕ
fault_text Network = codes "network failed"
fault_text (Bank fault) = rules.fault_text fault
