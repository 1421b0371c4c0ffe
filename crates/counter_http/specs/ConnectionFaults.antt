-- The texts of the faults of a connection.
use Rattle.std.specs.Prelude.{ℕ, List, codes}
use Rattle.posting_rules.specs.FaultTexts as rules
use Rattle.counter_http.specs.declared.fault.ServeFault.{ServeFault}
use Rattle.counter_http.specs.declared.fault.ServeFault.TheVariants.{Read, Write, Bank, Memory}

abbrev pub fault_text : ServeFault → List ℕ
fault_text Read = codes "read failed"
fault_text Write = codes "write failed"
fault_text (Bank fault) = rules.fault_text fault
fault_text Memory = codes "no memory"
