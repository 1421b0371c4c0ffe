-- The texts of the faults of one record and of a stream.
use Rattle.std.specs.Prelude.{ℕ, List, ◌++◌, codes}
use Rattle.std.specs.Fmt.{decimal}
use Rattle.posting_rules.specs.FaultTexts.{fault_text}
use Rattle.posting_core.specs.declared.once.OnceFault.{OnceFault}
use Rattle.posting_core.specs.declared.once.OnceFault.TheVariants as once
use Rattle.posting_core.specs.declared.stream.StreamFault.{StreamFault}
use Rattle.posting_core.specs.declared.stream.StreamFault.TheVariants as stream

abbrev pub once_text : OnceFault → List ℕ
once_text once.Short = codes "the input ends within a record"
once_text once.Read = codes "read failed"
once_text once.Write = codes "write failed"
once_text (once.Bank fault) = fault_text fault

abbrev pub stream_text : StreamFault → List ℕ
stream_text (stream.Truncated n) = codes "the input ends " ++ decimal n ++ codes " bytes into a record"
stream_text stream.Read = codes "read failed"
stream_text stream.Write = codes "write failed"
stream_text (stream.Bank fault) = fault_text fault
