-- One round of clients that are served at once: what was read from them is answered. The bank is old before and
-- new after, the clients are here before and here' after, and the clock's known readings are k and k'.
use Rattle.std.specs.Prelude.{◌≡◌, ◌≢◌, ◌⊎◌, ◌<◌, ℕ, List, [], ◌∷◌, ◌++◌, length, map, Option, None, Some, Result, Ok, Err, IfErr}
use Rattle.std.specs.Prelude.{AllPairs, Contains}
use Rattle.std.specs.List.{AllByRecursion, slice_get}
use Rattle.posting_rules.specs.declared.fault.Fault.{Fault}
use Rattle.posting_rules.specs.believed.Commands.{Command}
use Rattle.posting_rules.specs.believed.Counter.{Seen, ShowsLog, StandsAt, LeavesOnly, ShowsPrefix, Takes, Refuses}
use Rattle.posting_rules.specs.believed.Runs.{replies_to}
use Rattle.posting_core.specs.Stream.{IsOfCall}
use Rattle.posting_core.specs.believed.Clock.{AreReadings}
use Rattle.counter_http.specs.Connections.{Known}
use Rattle.counter_http.specs.together.Due.{AnswersAll}
use Rattle.counter_http.specs.together.Faring.{AllFare, HasNoMore}
use Rattle.counter_http.specs.together.Order.{BreaksOff, FillsRound, HasSpared, IsRound, Round, Step, clients_of, steps_in, submitted_by}
use Rattle.counter_http.specs.together.Standing.{AreRefused, HasMuch, StandsHere}
use Rattle.counter_http.specs.Figures.{Counts}
use Rattle.counter_http.specs.declared.client.Client.{Client}
use Rattle.counter_http.specs.declared.clients.Readiness.{Readiness}
use Rattle.counter_http.specs.declared.clients.Readiness.TheVariants as readiness
use Rattle.counter_http.specs.declared.figures.Tally.{Tally}

-- ---- who is here

abbrev pub number_in : {R W : Type 0} → Client R W → ℕ
number_in client = client.number

abbrev pub numbers : {R W : Type 0} → List (Client R W) → List ℕ
numbers here = map number_in here

-- the ends of those who are here, each by its number
abbrev pub ends_in : {R W : Type 0} → Client R W → ℕ × (R × W)
ends_in client = (client.number, (client.reader, client.writer))

abbrev pub ends_here : {R W : Type 0} → List (Client R W) → List (ℕ × (R × W))
ends_here here = map ends_in here

-- whom a wait said to give up, where it said so of each in their order
abbrev pub given_up : List ℕ → List Readiness → List ℕ
given_up [] rs = []
given_up (n ∷ ns) [] = []
given_up (n ∷ ns) (readiness.GivenUp ∷ rs) = n ∷ given_up ns rs
given_up (n ∷ ns) (r ∷ rs) = given_up ns rs

abbrev pub AllDiffer : List ℕ → Type 0
AllDiffer ns = AllPairs (λ m n. m ≢ n) ns

-- a message is of one of these
abbrev pub IsOfOneOf : List ℕ → Step → Type 0
IsOfOneOf ns s = Contains ns s.client

-- ---- who was told

abbrev pub fault_in : {X : Type 0} → Result X Fault → Option Fault
fault_in (Ok x) = None
fault_in (Err fault) = Some fault

-- a client that stood by the messages so far stands by them and these, and was told that the bank refused what it
-- refused of it
abbrev pub AreToldAt : {R W : Type 0} → (R × W → Known) → (here here' : List (Client R W))
    → List Step → Option Fault → List Step → Type 0
AreToldAt {R} {W} known here here' steps fault refused =
    (p : ℕ) (client client' : Client R W) → slice_get here p ≡ Some client → slice_get here' p ≡ Some client'
    → (known_first : Known) (before : List Step)
    → StandsHere known known_first before client
    → AreRefused known known_first (before ++ steps) fault refused client'

-- ---- what was done

-- why some may have to wait for the next round: others filled this one, or the bank refused a call
abbrev pub MayBeLate : {C X : Type 0} → (reason : Fault → C → C → Type 0) → Result X Fault → (posts refused : List Step)
    → Type 0
MayBeLate reason (Ok x) posts refused = FillsRound (HasSpared reason) posts
MayBeLate reason (Err fault) posts refused = BreaksOff (HasSpared reason) refused

-- each client has nothing left that can be answered, or a message of it was, or it had many answers to take first, or it may
-- be late
abbrev pub AllMoveOn : {R W : Type 0} → (late : Type 0) → (here here' : List (Client R W)) → (steps : List Step) → Type 0
AllMoveOn {R} {W} late here here' steps =
    (p : ℕ) (client client' : Client R W) → slice_get here p ≡ Some client → slice_get here' p ≡ Some client'
    → HasNoMore client' ⊎ (Contains (clients_of steps) client.number ⊎ (HasMuch client ⊎ late))

-- ---- a round

-- the bank refused nothing, or the last message that it was asked, or the records that were submitted together
abbrev pub EndsRound : {C X : Type 0} → (C → Seen) → Result X Fault → (stood new : C) → (refused : List Step)
    → Type 0
EndsRound seen (Ok next) stood new refused = (refused ≡ []) × (new ≡ stood)
EndsRound seen (Err fault) stood new refused = Refuses fault (seen stood) (seen new) (submitted_by refused)

-- the messages of a round were answered, and each client stands as its own have it; the replies were counted
pub record AnswersRound {C R W X : Type 0} (seen : C → Seen) (reason : Fault → C → C → Type 0)
    (known : R × W → Known) (k k' : Option (List ℕ)) (old new : C) (here here' : List (Client R W)) (t t' : Tally)
    (seconds : ℕ) (result : Result X Fault) : Type 0 where
  pub round : Round
  pub is_round : IsRound round
  -- the figures are what stood before the round
  pub figured : round.figures ≡ record { tally = t; connections = length here; seconds = seconds }
  pub counts : (seen new).honest → (log : List Command) → ShowsLog (seen old) log
      → Counts t t' (replies_to log (submitted_by (steps_in round))) round.commits
  -- the bank refused a call just where these messages were in it
  pub refused : List Step
  pub some : IfErr result (λ fault. refused ≢ [])
  pub dated : 0 < length round.readings → (0 < length round.posts) ⊎ (HasSpared reason ⊎ (0 < length refused))
  pub whose : AllByRecursion (IsOfOneOf (numbers here)) (steps_in round)
  pub whose_refused : AllByRecursion (IsOfOneOf (numbers here)) refused
  pub clock : AreReadings k k' round.readings
  -- the bank stood here when it had taken the messages, and it was down then only where it was down before
  pub stood : C
  pub honest_first : (seen stood).honest → (seen old).honest
  pub honest : (seen new).honest → (seen stood).honest
  pub up : (seen stood).is_down → (seen old).is_down
  pub takes : Takes (seen old) (seen stood) (submitted_by (steps_in round))
  pub due : (seen new).honest → AnswersAll (seen old) (seen stood) (steps_in round)
  pub ends : EndsRound seen result stood new refused
  -- a crash leaves all that it took
  pub survives : (seen new).honest → (log : List Command) → StandsAt (seen old) log
      → LeavesOnly (seen new) (ShowsPrefix log (submitted_by (steps_in round ++ refused))
      (length (submitted_by (steps_in round))))
  pub idle : (seen old).is_down → new ≡ old
  -- a fault says why a call was refused
  pub why : IfErr result (IsOfCall seen reason old new)
  -- the same clients are here, in their order
  pub same : numbers here' ≡ numbers here
  -- a client that stood by the messages so far stands by them and those of the round
  pub stand : (p : ℕ) (client client' : Client R W) → slice_get here p ≡ Some client → slice_get here' p ≡ Some client'
      → (known_first : Known) (steps : List Step)
      → StandsHere known known_first steps client
      → StandsHere known known_first (steps ++ steps_in round) client'
  -- what could be done was done
  pub moves : AllMoveOn (MayBeLate reason result round.posts refused) here here' (steps_in round)
  -- each client whose record was refused was told so
  pub are_told : AreToldAt known here here' (steps_in round) (fault_in result) refused
  pub fare : AllFare (fault_in result) refused (steps_in round) here here'
