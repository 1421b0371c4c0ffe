-- What is answered to a message that reads.
use Rattle.std.specs.Prelude.{ℕ, List, Option, Result, Ok, Err, take, string_bytes}
use Rattle.std.specs.Io.KnownBytes.{Appends}
use Rattle.posting_rules.specs.declared.fault.Fault.{Fault}
use Rattle.posting_core.specs.EndCalls.{WriteCall}
use Rattle.counter_http.specs.Ends.{SendsAs}
use Rattle.counter_http.specs.Turns.{IsSentAs, IsTellingOf}
use Rattle.counter_http.specs.believed.Answers.{Answer, Asked, answer_text, bare, csv, octets, plain, shows}
use Rattle.counter_http.specs.believed.Answers.{unavailable}
use Rattle.counter_http.specs.declared.answers.Reading.{Reading}
use Rattle.counter_http.specs.declared.answers.Reading.TheVariants.{NotFound, Lines, Plan, Entries}
use Rattle.counter_http.specs.declared.fault.ServeFault.{ServeFault}

abbrev pub said_in : Reading → Answer
said_in NotFound = bare 404
said_in (Lines text) = plain (string_bytes text)
said_in (Plan text) = csv (string_bytes text)
said_in (Entries entries) = octets entries.items

-- a 503 was told, or the writer failed
pub record TellsRefusal (w w' : Option (List ℕ)) (v v' : Option (List WriteCall)) (asked : Asked) (why : Fault)
    (fault : ServeFault) : Type 0 where
  pub written : (n : ℕ) × Appends w w' (take n (unavailable asked)) × IsTellingOf why fault n (unavailable asked)
  pub ends : SendsAs (Err fault) v v'

-- what was read was told, or that it wasn't
abbrev pub SendsReading : (w w' : Option (List ℕ)) → (v v' : Option (List WriteCall)) → Asked → Result Reading Fault
    → Result (Unit {0}) ServeFault → Type 0
SendsReading w w' v v' asked (Ok reading) result =
    IsSentAs w w' v v' (answer_text (said_in reading) (shows asked) asked.closes) result
SendsReading w w' v v' asked (Err why) (Err fault) = TellsRefusal w w' v v' asked why fault
SendsReading w w' v v' asked (Err why) (Ok done) = ⊥
