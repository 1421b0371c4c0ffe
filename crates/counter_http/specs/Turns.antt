-- How one turn is answered, wholly or in part, or refused.
use Rattle.std.specs.Prelude.{◌≡◌, ◌⊎◌, ℕ, List, [], length, take, Option, ⊤}
use Rattle.std.specs.Prelude.{Result, MatchResult, OnOk, IfErr, OnErr}
use Rattle.std.specs.Result.{IsErrOf}
use Rattle.std.specs.Io.KnownBytes.{Appends}
use Rattle.posting_rules.specs.declared.fault.Fault.{Fault}
use Rattle.posting_rules.specs.believed.Commands.{Command}
use Rattle.posting_rules.specs.believed.Counter.{Seen, ShowsLog, Takes, Refuses}
use Rattle.posting_rules.specs.Counter.{StaysByTables}
use Rattle.posting_core.specs.believed.Batches.{joined}
use Rattle.posting_core.specs.believed.Clock.{AreReadings}
use Rattle.posting_core.specs.Stream.{IsOfCall}
use Rattle.posting_core.specs.EndCalls.{WriteCall}
use Rattle.counter_http.specs.declared.fault.ServeFault.{ServeFault}
use Rattle.counter_http.specs.declared.fault.ServeFault.TheVariants.{Read, Write, Bank, Memory}
use Rattle.counter_http.specs.Ends.{SendsAs}
use Rattle.counter_http.specs.believed.Answers.{Asked, answer_of, unavailable}
use Rattle.counter_http.specs.believed.Turns.{Turn, answers_to, commands_for, commands_of, moments_of, readings_for}

-- ---- what became of messages

-- the bank took their commands, and their answers were written
pub record AreAnswered (w w' k k' : Option (List ℕ)) (c c' : Seen) (turns : List Turn) : Type 0 where
  pub clock : AreReadings k k' (moments_of turns)
  pub written : List ℕ
  pub wrote : Appends w w' written
  pub honest : c'.honest → c.honest
  pub up : c'.is_down → c.is_down
  pub takes : Takes c c' (commands_of turns)
  pub answers : c'.honest → (log : List Command) → ShowsLog c log → written ≡ joined (answers_to log turns)

-- ---- what became of one message

-- the bank took its command, and its answer was written
pub record TurnIsAnswered (w w' : Option (List ℕ)) (c c' : Seen) (asked : Asked) (commands : List Command)
    : Type 0 where
  pub written : List ℕ
  pub wrote : Appends w w' written
  pub up : c'.is_down → c.is_down
  pub takes : Takes c c' commands
  pub answer : c'.honest → (log : List Command) → ShowsLog c log → written ≡ answer_of log asked

-- the bank took its command, and a prefix of its answer was written
pub record TurnIsAnsweredInPart (w w' : Option (List ℕ)) (c c' : Seen) (asked : Asked)
    (commands : List Command) : Type 0 where
  pub written : List ℕ
  pub wrote : Appends w w' written
  pub up : c'.is_down → c.is_down
  pub takes : Takes c c' commands
  pub answer : c'.honest → (log : List Command) → ShowsLog c log
      → written ≡ take (length written) (answer_of log asked)

-- the bank answered some calls that change nothing, stood there, and refused the one that was given the
-- commands
pub record IsRefusedAt {C : Type 0} (seen : C → Seen) (old new : C) (fault : Fault) (commands : List Command)
    : Type 0 where
  pub stood : C
  pub honest_first : (seen stood).honest → (seen old).honest
  pub honest : (seen new).honest → (seen stood).honest
  pub up : (seen stood).is_down → (seen old).is_down
  pub takes : Takes (seen old) (seen stood) []
  pub stays : StaysByTables (seen old) (seen stood)
  pub refuses : Refuses fault (seen stood) (seen new) commands

-- the bank was asked, and was given no command
pub record IsAsked {C X : Type 0} (seen : C → Seen) (reason : Fault → C → C → Type 0) (old new : C)
    (result : Result X Fault) : Type 0 where
  pub done : OnOk result (Takes (seen old) (seen new) [])
  pub stays : OnOk result (StaysByTables (seen old) (seen new))
  pub up : OnOk result ((seen new).is_down → (seen old).is_down)
  pub why : IfErr result (IsOfCall seen reason old new)
  pub fault : IfErr result (λ fault. IsRefusedAt seen old new fault [])
  pub idle : (seen old).is_down → new ≡ old
  pub honest : (seen new).honest → (seen old).honest

-- the bank refused it, and a 503 was written
pub record IsTurnedAway {C : Type 0} (seen : C → Seen) (w w' : Option (List ℕ)) (old new : C) (fault : Fault)
    (asked : Asked) (commands : List Command) : Type 0 where
  pub wrote : Appends w w' (unavailable asked)
  pub refused : IsRefusedAt seen old new fault commands

-- the bank refused it, and a prefix of a 503 was written
pub record IsRefusedInPart {C : Type 0} (seen : C → Seen) (w w' : Option (List ℕ)) (old new : C)
    (asked : Asked) (commands : List Command) : Type 0 where
  pub written : List ℕ
  pub wrote : Appends w w' written
  pub part : written ≡ take (length written) (unavailable asked)
  pub fault : Fault
  pub refused : IsRefusedAt seen old new fault commands

-- what each fault says
abbrev pub ServingBreaksOff : {C : Type 0} → (C → Seen) → ServeFault → (w w' : Option (List ℕ))
    → (old new : C) → Asked → List Command → Type 0
ServingBreaksOff seen Write w w' old new asked commands =
    TurnIsAnsweredInPart w w' (seen old) (seen new) asked commands
    ⊎ IsRefusedInPart seen w w' old new asked commands
ServingBreaksOff seen (Bank fault) w w' old new asked commands =
    IsTurnedAway seen w w' old new fault asked commands
ServingBreaksOff seen Read w w' old new asked commands = ⊥
ServingBreaksOff seen Memory w w' old new asked commands = ⊥

-- what the fault of the bank says
abbrev pub IfRefused : ServeFault → (Fault → Type 0) → Type 0
IfRefused (Bank fault) P = P fault
IfRefused _ P = ⊤

-- the fault of the bank, where all of the text was written, and that of the writer elsewhere
abbrev pub IsTellingOf : Fault → ServeFault → ℕ → List ℕ → Type 0
IsTellingOf fault Write n text = ⊤
IsTellingOf fault (Bank cause) n text = (cause ≡ fault) × (n ≡ length text)
IsTellingOf fault Read n text = ⊥
IsTellingOf fault Memory n text = ⊥

-- what became of a message for which the bank was given these commands, whatever the result
pub record IsDealtWith {C : Type 0} (seen : C → Seen) (reason : Fault → C → C → Type 0)
    (w w' : Option (List ℕ)) (v v' : Option (List WriteCall)) (old new : C) (asked : Asked)
    (commands : List Command) (result : Result (Unit {0}) ServeFault) : Type 0 where
  -- the bank took them and the answer was written, or as the fault says
  pub answers : MatchResult result (λ _. TurnIsAnswered w w' (seen old) (seen new) asked commands)
      (λ fault. ServingBreaksOff seen fault w w' old new asked commands)
  -- a fault of the bank says why a call was refused
  pub why : IfErr result (λ fault. IfRefused fault (IsOfCall seen reason old new))
  -- a bank that was down is the one that it was
  pub idle : (seen old).is_down → new ≡ old
  pub honest : (seen new).honest → (seen old).honest
  -- one answer was flushed, or the writer failed
  pub ends : SendsAs result v v'

-- what became of a message, whose record was submitted under one reading of the clock, if it has one
pub record TurnIsDealtWith {C : Type 0} (seen : C → Seen) (reason : Fault → C → C → Type 0)
    (w w' : Option (List ℕ)) (v v' : Option (List WriteCall)) (k k' : Option (List ℕ)) (old new : C)
    (asked : Asked) (result : Result (Unit {0}) ServeFault) : Type 0 where
  pub moment : ℕ
  pub clock : AreReadings k k' (readings_for moment asked)
  pub dealt : IsDealtWith seen reason w w' v v' old new asked (commands_for moment asked) result

-- ---- what was written of a text

-- so much of it was written, and all of it where the result is none of a fault
abbrev pub IsWrittenTo : (w w' : Option (List ℕ)) → List ℕ → Result (Unit {0}) ServeFault → Type 0
IsWrittenTo w w' text result = (n : ℕ) × Appends w w' (take n text) × OnOk result (n ≡ length text)

-- it was written and flushed, or the writer failed
pub record IsSentAs (w w' : Option (List ℕ)) (v v' : Option (List WriteCall)) (text : List ℕ)
    (result : Result (Unit {0}) ServeFault) : Type 0 where
  pub written : IsWrittenTo w w' text result
  pub fault : OnErr result (IsErrOf result Write)
  pub ends : SendsAs result v v'
