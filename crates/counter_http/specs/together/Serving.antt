-- What each client that is served beside others reads and is written, and what all of it together does to the
-- bank. The bank is old before and new after, and seen says what is seen of it. Of the ends of a client k is known
-- before and l after.
use Rattle.std.specs.Prelude.{◌≡◌, ◌<◌, ◌≢◌, ◌⊎◌, ℕ, List, [], ◌∷◌, ◌++◌, length, map, take, get_or, Option}
use Rattle.std.specs.Prelude.{Result, Err, Some, None, ⊤, Contains}
use Rattle.std.specs.List.{AllByRecursion}
use Rattle.std.specs.Io.KnownBytes.{Appends, Consumes}
use Rattle.posting_rules.specs.declared.fault.Fault.{Fault}
use Rattle.posting_rules.specs.declared.fault.Fault.TheVariants.{Memory}
use Rattle.posting_rules.specs.believed.Counter.{Seen, Refuses}
use Rattle.posting_core.specs.Stream.{given, IsOfCall}
use Rattle.posting_core.specs.believed.Batches.{joined}
use Rattle.posting_core.specs.believed.EndCalls.{EndsWith, GrowsBy, ReadCall}
use Rattle.posting_core.specs.EndCalls.{Beside, HasWriteFailed, IsReadFailure, IsThrough, WriteCall, unknown}
use Rattle.counter_http.specs.Clients.{ClientsCall, Gave, Gave_up, Nobody, Refused, Closed, Waited}
use Rattle.counter_http.specs.Connections.{Known}
use Rattle.counter_http.specs.declared.listen_fault.ListenFault.{ListenFault}
use Rattle.counter_http.specs.declared.listen_fault.ListenFault.TheVariants.{Network, Bank}
use Rattle.counter_http.specs.declared.parting.Parting.{Parting}
use Rattle.counter_http.specs.declared.parting.Parting.TheVariants as parting
use Rattle.counter_http.specs.believed.Ends.{HasEnded}
use Rattle.counter_http.specs.believed.Turns.{Turn, texts_of}
use Rattle.counter_http.specs.believed.Serving.{KeepsConnection, BeginsWithNoMessage, IsWalked, IsBrokenOff}
use Rattle.counter_http.specs.believed.Serving.{ServingIsCutOff}
use Rattle.counter_http.specs.together.Order.{Step, clients_of, of_client, answers_of, submitted_by}

-- ---- where a client stands

-- its messages were answered, and more may come
pub record GoesOn (own lost : List Turn) (last : List (List ℕ)) : Type 0 where
  pub stays : AllByRecursion (λ t. KeepsConnection t.message) own
  pub none_lost : lost ≡ []
  pub nothing : last ≡ []

-- its messages are own, of which lost was refused by the bank, and rest was read after them; the last answer is no
-- answer of the bank
pub data Stands (has_ended : Type 0) (own lost : List Turn) (rest : List ℕ) (last : List (List ℕ)) : Type 0 where
  Goes_on : GoesOn own lost last → Stands has_ended own lost rest last
  -- the walk over its messages ended
  Walk_ended : IsWalked has_ended own lost rest last → Stands has_ended own lost rest last
  -- the bank refused one
  Broken_off : IsBrokenOff own lost last → Stands has_ended own lost rest last

-- why it was parted from
abbrev pub PartsAs : Parting → (has_ended : Type 0) → (own lost : List Turn) → (rest : List ℕ)
    → (last : List (List ℕ)) → Type 0
PartsAs parting.Served has_ended own lost rest last = IsWalked has_ended own lost rest last
PartsAs parting.Read has_ended own lost rest last = ServingIsCutOff own lost rest last
PartsAs (parting.Bank fault) has_ended own lost rest last = IsBrokenOff own lost last
PartsAs _ has_ended own lost rest last = Stands has_ended own lost rest last

-- all of the text was written, or a prefix of it
abbrev pub IsWrittenAs : Parting → (written text : List ℕ) → Type 0
IsWrittenAs parting.Served written text = written ≡ text
IsWrittenAs parting.Read written text = written ≡ text
IsWrittenAs (parting.Bank fault) written text = written ≡ text
IsWrittenAs _ written text = written ≡ take (length written) text

-- a fault of an end comes where that end failed, and all that was written was flushed elsewhere
abbrev pub PartingIsOfItsEnd : Parting → (q q' : Option (List ReadCall)) → (v v' : Option (List WriteCall))
    → Type 0
PartingIsOfItsEnd parting.Served q q' v v' = IsThrough v v'
PartingIsOfItsEnd parting.Read q q' v v' = EndsWith IsReadFailure q q' × IsThrough v v'
PartingIsOfItsEnd parting.Write q q' v v' = HasWriteFailed v v'
PartingIsOfItsEnd (parting.Bank fault) q q' v v' = IsThrough v v'
PartingIsOfItsEnd _ q q' v v' = ⊤

-- ---- no answer waits for the next read

-- as a read was made, the sink held the answers to all whole messages at the front of the input and no more: those
-- that were answered then, before all others
pub record HoldsOwnAnswers (i : ℕ) (w : Option (List ℕ)) (t : Option (List WriteCall))
    (steps : List Step) (input : List ℕ) (sink : Beside) : Type 0 where
  pub before : List Step
  pub after : List Step
  pub order : steps ≡ before ++ after
  pub rest : List ℕ
  pub input_is : input ≡ texts_of (of_client i before) ++ rest
  pub no_more : BeginsWithNoMessage rest
  pub wrote : Appends w sink.contents (joined (answers_of i before))
  pub through : IsThrough t sink.calls

-- so it was at each of a client's reads
pub record AnswersBeforeItsReads (i : ℕ) (q q' : Option (List ReadCall)) (b b' : Option (List Beside))
    (w : Option (List ℕ)) (t : Option (List WriteCall)) (steps : List Step) (input : List ℕ)
    : Type 0 where
  pub reads : List ReadCall
  pub made : GrowsBy q q' reads
  pub long : given reads ≡ length input
  pub sinks : List Beside
  pub beside : GrowsBy b b' sinks
  pub each : length sinks ≡ length reads
  pub answered : (n : ℕ) → n < length reads
      → HoldsOwnAnswers i w t steps (take (given (take n reads)) input) (get_or sinks n unknown)

-- ---- what became of a client

-- The client before whom i came, where all messages that were answered are steps, in this order.
pub record ClientIsServed (i : ℕ) (k l : Known) (steps : List Step) (p : Parting) : Type 0 where
  -- the message that the bank refused, if it did, and what was read after it; and the answer to that, or to what
  -- is no message
  pub lost : List Turn
  pub rest : List ℕ
  pub last : List (List ℕ)
  pub read : Consumes k.reader l.reader (texts_of (of_client i steps ++ lost) ++ rest)
  pub written : List ℕ
  pub wrote : Appends k.writer l.writer written
  pub parts : PartsAs p (HasEnded l.reader k.reads l.reads) (of_client i steps) lost rest last
  pub answers : IsWrittenAs p written (joined (answers_of i steps ++ last))
  pub ends : PartingIsOfItsEnd p k.reads l.reads k.writes l.writes
  pub prompt : AnswersBeforeItsReads i k.reads l.reads k.beside l.beside k.writer k.writes steps
      (texts_of (of_client i steps ++ lost) ++ rest)

-- why a client was parted from that was told that the bank refused its message, by this fault: it took all of the 503,
-- or a part, since its writer failed, memory was refused for that, or the serving ended
abbrev pub IsOfRefusal : Fault → Parting → Type 0
IsOfRefusal fault (parting.Bank f) = f ≡ fault
IsOfRefusal fault parting.Write = ⊤
IsOfRefusal fault parting.Memory = ⊤
IsOfRefusal fault parting.Stopped = ⊤
IsOfRefusal fault _ = ⊥

-- the bank refused this message of it, the next one of what was read, and the last of its answers is a 503
pub record ClientIsRefused (i : ℕ) (k l : Known) (steps : List Step) (fault : Fault) (turn : Turn)
    (p : Parting) : Type 0 where
  pub served : ClientIsServed i k l steps p
  pub lost : served.lost ≡ turn ∷ []
  pub broken_off : IsBrokenOff (of_client i steps) served.lost served.last
  pub why : IsOfRefusal fault p

-- ---- clients one after another, as their connections were closed

-- the client before whom so many came, the ends that it was given by, how it left them, and why it was parted from
pub record Visit (E : Type 0) : Type 0 where
  pub number : ℕ
  pub given : E
  pub left : E
  pub parting : Parting

abbrev pub closed_of : {E : Type 0} → Visit E → ℕ × E
closed_of v = (v.number, v.left)

abbrev pub number_of : {E : Type 0} → Visit E → ℕ
number_of v = v.number

-- a message is of one of them
abbrev pub IsOfVisit : {E : Type 0} → List (Visit E) → Step → Type 0
IsOfVisit visits s = Contains (map number_of visits) s.client

abbrev pub OfOthers : {E : Type 0} → Visit E → Visit E → Type 0
OfOthers v u = v.number ≢ u.number

-- the openings among calls, and the closings
abbrev pub openings : {E : Type 0} → List (ClientsCall E) → List (ℕ × E)
openings [] = []
openings (Waited es ∷ cs) = openings cs
openings (Nobody ∷ cs) = openings cs
openings (Gave n e ∷ cs) = (n, e) ∷ openings cs
openings (Closed n e ∷ cs) = openings cs
openings (Refused kind ∷ cs) = openings cs
openings (Gave_up n ∷ cs) = openings cs

abbrev pub closings : {E : Type 0} → List (ClientsCall E) → List (ℕ × E)
closings [] = []
closings (Waited es ∷ cs) = closings cs
closings (Nobody ∷ cs) = closings cs
closings (Gave n e ∷ cs) = closings cs
closings (Closed n e ∷ cs) = (n, e) ∷ closings cs
closings (Refused kind ∷ cs) = closings cs
closings (Gave_up n ∷ cs) = closings cs

-- each was given by an opening, and was served so
abbrev pub IsVisited : {E : Type 0} → (known : E → Known) → List Step → List (ClientsCall E)
    → Visit E → Type 0
IsVisited known steps calls v =
    Contains calls (Gave v.number v.given)
    × ClientIsServed v.number (known v.given) (known v.left) steps v.parting

-- a client is told that the bank refused its message, by this fault, only where memory was refused, or the bank refused the
-- last call by that fault and a message of this client was in it
pub data IsWhyTold (fault : Option Fault) (refused : List Step) (n : ℕ) (why : Fault) : Type 0 where
  For_memory : why ≡ Memory → IsWhyTold fault refused n why
  By_the_bank : fault ≡ Some why → Contains (clients_of refused) n → IsWhyTold fault refused n why

-- a client was given up only where a wait said so, stopped only where clients were, and told of a refusal only where it was
-- refused
abbrev pub IsWhyParted : {E : Type 0} → (stops : Type 0) → Option Fault → (refused : List Step) → List (ClientsCall E) → ℕ
    → Parting → Type 0
IsWhyParted stops fault refused calls n parting.GivenUp = Contains calls (Gave_up n)
IsWhyParted stops fault refused calls n parting.Stopped = stops
IsWhyParted stops fault refused calls n (parting.Bank why) = IsWhyTold fault refused n why
IsWhyParted stops fault refused calls n _ = ⊤

abbrev pub IsVisitWhy : {E : Type 0} → (stops : Type 0) → Option Fault → (refused : List Step) → List (ClientsCall E)
    → Visit E → Type 0
IsVisitWhy stops fault refused calls v = IsWhyParted stops fault refused calls v.number v.parting

-- a message that the bank refused is of one of them, who was told so
pub record IsToldTo {E : Type 0} (known : E → Known) (steps : List Step) (visits : List (Visit E))
    (fault : Fault) (s : Step) : Type 0 where
  pub visit : Visit E
  pub one : Contains visits visit
  pub whose : visit.number ≡ s.client
  pub refused : ClientIsRefused visit.number (known visit.given) (known visit.left) steps fault s.turn visit.parting

-- ---- all of it

-- what the fault of the bank says
abbrev pub IfBank : ListenFault → (Fault → Type 0) → Type 0
IfBank (Bank fault) P = P fault
IfBank Network P = ⊤

-- the fault of the bank, if it ended so
abbrev pub fault_of_bank : Result (Unit {0}) ListenFault → Option Fault
fault_of_bank (Err (Bank fault)) = Some fault
fault_of_bank _ = None

-- how the serving ended: the bank refused nothing then, or the one message or the batch of the last round
abbrev pub EndsTogether : {C : Type 0} → (C → Seen) → Result (Unit {0}) ListenFault → (stood new : C)
    → (refused : List Step) → Type 0
EndsTogether seen (Err (Bank fault)) stood new refused =
    Refuses fault (seen stood) (seen new) (submitted_by refused)
EndsTogether seen _ stood new refused = (refused ≡ []) × (new ≡ stood)

-- why the bank refused a call, or it was asked nothing, since memory was refused before
abbrev pub IsWhyRefused : {C : Type 0} → (C → Seen) → (Fault → C → C → Type 0) → (old new : C) → Fault → Type 0
IsWhyRefused seen reason old new fault = IsOfCall seen reason old new fault ⊎ ((fault ≡ Memory) × (new ≡ old))
