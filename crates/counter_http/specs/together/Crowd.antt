-- Clients that are served at once, as they come in, are served and leave: steps are the messages that were answered, and
-- of the ends of a client known says what is known.
use Rattle.std.specs.Prelude.{◌≡◌, ◌≢◌, ◌⊎◌, ◌<◌, ◌≤◌, ◌+◌, ℕ, List, [], ◌∷◌, ◌++◌, length, map, Option, Result, ⊤, Contains}
use Rattle.std.specs.Prelude.{Err, IfErr, None, OnErr, OnOk, Some}
use Rattle.std.proofs.Common.{inl, inr}
use Rattle.std.specs.List.{AllByRecursion}
use Rattle.posting_rules.specs.declared.fault.Fault.{Fault}
use Rattle.posting_rules.specs.believed.Commands.{Command}
use Rattle.posting_rules.specs.believed.Counter.{Seen, ShowsLog, StandsAt, LeavesOnly, ShowsPrefix, Takes}
use Rattle.posting_core.specs.Stream.{IsOfCall}
use Rattle.posting_core.specs.believed.Clock.{AreReadings}
use Rattle.posting_core.specs.believed.EndCalls.{GrowsBy}
use Rattle.counter_http.specs.Clients.{ClientsCall, Gave, Gave_up, Closed}
use Rattle.counter_http.specs.Connections.{Known}
use Rattle.counter_http.specs.together.Due.{AnswersAll}
use Rattle.counter_http.specs.together.Order.{AreDated, AreFigured, BreaksOff, HasSpared, Step, Round, IsRound, steps_of, readings_of, submitted_by}
use Rattle.counter_http.specs.together.Faring.{HasNoMore, IsToldSo}
use Rattle.counter_http.specs.together.Reading.{Reads}
use Rattle.counter_http.specs.together.Rounds.{IsOfOneOf, numbers}
use Rattle.counter_http.specs.together.Standing.{AreRefused, IsNew, IsOver, IsParting, StandsHere, Writes}
use Rattle.counter_http.specs.together.Serving.{ClientIsRefused, EndsTogether, IfBank, IsVisited, IsVisitWhy, Visit, closed_of}
use Rattle.counter_http.specs.together.Serving.{closings, fault_of_bank, number_of, openings}
use Rattle.counter_http.specs.together.Tracing.{AllMoved, AreLaps, GivesNone, HasRefused, IsCutOff, IsNoWait, Lap, MayHaveMore, OnLast, calls_of, here_after}
use Rattle.counter_http.specs.declared.client.Client.{Client}
use Rattle.counter_http.specs.declared.listen_fault.ListenFault.{ListenFault}
use Rattle.counter_http.specs.declared.listen_fault.ListenFault.TheVariants.{Network}
use Rattle.counter_http.specs.declared.together.TheConstants.{MOST_CLIENTS}
use Rattle.counter_http.specs.declared.parting.Parting.{Parting}
use Rattle.counter_http.specs.declared.parting.Parting.TheVariants as parting

-- ---- one client

-- what was left of its answers was written, and then a read was made
pub record WritesAndReads {R W : Type 0} (known : R × W → Known) (old new : Client R W) : Type 0 where
  pub between : Client R W
  pub writes : Writes known old between
  pub reads : Reads known between new

-- or it was left as it was
abbrev pub GoesOn : {R W : Type 0} → (R × W → Known) → Client R W → Client R W → Type 0
GoesOn known old new = (new ≡ old) ⊎ WritesAndReads known old new

-- for what cause it may be parted from before it is over: memory was refused for it, it is one of those that are to be
-- given up, or clients are stopped
abbrev pub MayPart : (stops : Type 0) → (given : List ℕ) → ℕ → Parting → Type 0
MayPart stops given n parting.Memory = ⊤
MayPart stops given n parting.GivenUp = Contains given n
MayPart stops given n parting.Stopped = stops
MayPart stops given n _ = ⊥

-- its connection was closed, for this cause if it wasn't over, where the calls of what gives clients had returned g before
-- and g' after
pub record Closes {R W : Type 0} (g g' : Option (List (ClientsCall (R × W)))) (client : Client R W) (cause : Parting)
    : Type 0 where
  pub left : R × W
  pub parting : Parting
  pub is : IsParting client cause (left.0, left.1, parting)
  pub made : GrowsBy g g' (Closed client.number left ∷ [])

-- ---- clients come and leave

-- what the calls of what gives clients returned so far, how many clients came, and who is here
pub record Scene (R W : Type 0) : Type 0 where
  pub calls : Option (List (ClientsCall (R × W)))
  pub came : ℕ
  pub here : List (Client R W)

pub record Comes {R W : Type 0} (a b : Scene R W) : Type 0 where
  pub given : R × W
  pub client : Client R W
  pub is : IsNew a.came given.0 given.1 client
  pub here : b.here ≡ a.here ++ client ∷ []
  pub made : GrowsBy a.calls b.calls (Gave a.came given ∷ [])
  pub came : b.came ≡ a.came + 1

pub record Leaves {R W : Type 0} (stops : Type 0) (given : List ℕ) (a b : Scene R W) : Type 0 where
  pub before : List (Client R W)
  pub client : Client R W
  pub after : List (Client R W)
  pub was : a.here ≡ before ++ client ∷ after
  pub here : b.here ≡ before ++ after
  pub cause : Parting
  pub why : (IsOver client → ⊥) → MayPart stops given client.number cause
  pub closes : Closes a.calls b.calls client cause
  pub came : b.came ≡ a.came

-- a call gave no client and closed no connection
pub record Stays {R W : Type 0} (a b : Scene R W) : Type 0 where
  pub calls : List (ClientsCall (R × W))
  pub made : GrowsBy a.calls b.calls calls
  pub none_came : openings calls ≡ []
  pub none_left : closings calls ≡ []
  pub none_waited : AllByRecursion IsNoWait calls
  pub same : (ns : List ℕ) → here_after ns calls ≡ ns
  pub here : b.here ≡ a.here
  pub came : b.came ≡ a.came

-- the call or calls of that
abbrev pub calls_by : {R W : Type 0} {stops : Type 0} {given : List ℕ} {a b : Scene R W}
    → Comes a b ⊎ (Leaves stops given a b ⊎ Stays a b) → List (ClientsCall (R × W))
calls_by {a = a} (inl came) = Gave a.came came.given ∷ []
calls_by (inr (inl left)) = Closed left.client.number left.closes.left ∷ []
calls_by (inr (inr stays)) = stays.calls

-- one after another, by these calls
abbrev pub Moves : {R W : Type 0} → (stops : Type 0) → (given : List ℕ) → List (Scene R W) → List (ClientsCall (R × W))
    → (a b : Scene R W) → Type 0
Moves stops given [] calls a b = (b ≡ a) × (calls ≡ [])
Moves {R} {W} stops given (m ∷ ms) calls a b =
    (one : Comes a m ⊎ (Leaves stops given a m ⊎ Stays a m)) × (rest : List (ClientsCall (R × W)))
    × (calls ≡ calls_by one ++ rest) × Moves stops given ms rest m b

pub record HaveMoved {R W : Type 0} (stops : Type 0) (given : List ℕ) (a b : Scene R W) : Type 0 where
  pub scenes : List (Scene R W)
  pub calls : List (ClientsCall (R × W))
  pub moves : Moves stops given scenes calls a b

-- it was here before, and is not over
abbrev pub IsLeftOf : {R W : Type 0} → (here : List (Client R W)) → Client R W → Type 0
IsLeftOf here client = Contains here client × (IsOver client → ⊥)

-- those who waited were taken in, of n as far as there is room; or an opening was refused
pub record TakesIn {R W : Type 0} (n : ℕ) (a b : Scene R W) (result : Result (Unit {0}) ListenFault) : Type 0 where
  pub moved : HaveMoved ⊥ [] a b
  pub few : b.came ≤ n
  pub all : (b.came ≡ n) ⊎ ((MOST_CLIENTS ≤ length b.here)
      ⊎ ((call : ClientsCall (R × W)) × Contains moved.calls call × GivesNone call))
  pub fault : OnErr result (result ≡ Err Network)
  pub refused : OnErr result (HasRefused moved.calls)

-- ---- all who came

-- one that is here was given by an opening, stands by the messages that were answered, and was told that the bank
-- refused what it refused of it, and nothing else
pub record IsHere {R W : Type 0} (known : R × W → Known) (steps : List Step) (fault : Option Fault)
    (refused : List Step) (calls : List (ClientsCall (R × W))) (client : Client R W) : Type 0 where
  pub given : R × W
  pub came : Contains calls (Gave client.number given)
  pub stands : StandsHere known (known given) steps client
  pub are_refused : AreRefused known (known given) steps fault refused client
  pub told : IsToldSo fault refused client.number client.parting

-- and so was one that left
abbrev pub WereRefused : {E : Type 0} → (E → Known) → List Step → Option Fault → List Step → Visit E
    → Type 0
WereRefused known steps None refused v = ⊤
WereRefused known steps (Some fault) refused v =
    AllByRecursion (λ s. s.client ≡ v.number
    → ClientIsRefused v.number (known v.given) (known v.left) steps fault s.turn v.parting) refused

abbrev pub HasLeft : {E : Type 0} → (stops : Type 0) → (E → Known) → List Step → Option Fault → List Step
    → List (ClientsCall E) → Visit E → Type 0
HasLeft stops known steps fault refused calls v =
    IsVisited known steps calls v × WereRefused known steps fault refused v × IsVisitWhy stops fault refused calls v

-- a wait said to give these up, and the bank refused nothing yet
abbrev pub AreGivenUp : {E : Type 0} → Option Fault → List (ClientsCall E) → List ℕ → Type 0
AreGivenUp None calls given = AllByRecursion (λ n. Contains calls (Gave_up n)) given
AreGivenUp (Some fault) calls given = given ≡ []

abbrev pub all_numbers : {R W : Type 0} → List (Visit (R × W)) → List (Client R W) → List ℕ
all_numbers visits here = map number_of visits ++ numbers here

-- each is another than those after it
abbrev pub Differ : List ℕ → Type 0
Differ [] = ⊤
Differ (n ∷ ns) = AllByRecursion (λ m. n ≢ m) ns × Differ ns

-- those who left were served, each once, and the others are here; the bank refused some messages at last, or none; these
-- are to be given up, and clients may be stopped
pub record IsCrowd {R W : Type 0} (stops : Type 0) (given : List ℕ) (known : R × W → Known) (g : Option (List (ClientsCall (R × W))))
    (calls : List (ClientsCall (R × W))) (steps : List Step) (fault : Option Fault) (refused : List Step)
    (a : Scene R W) : Type 0 where
  pub made : GrowsBy g a.calls calls
  pub visits : List (Visit (R × W))
  pub closed : map closed_of visits ≡ closings calls
  pub visited : AllByRecursion (HasLeft stops known steps fault refused calls) visits
  pub to_give_up : AreGivenUp fault calls given
  pub are_here : AllByRecursion (IsHere known steps fault refused calls) a.here
  pub now : numbers a.here ≡ here_after [] calls
  pub differ : Differ (all_numbers visits a.here)
  pub below : AllByRecursion (λ n. n < a.came) (all_numbers visits a.here)
  pub whose : AllByRecursion (IsOfOneOf (all_numbers visits a.here)) (steps ++ refused)
  pub all : length (all_numbers visits a.here) ≡ length (openings calls)
  pub many : length (all_numbers visits a.here) ≡ a.came

-- ---- after a round

-- one is to be waited for, and can't go on, or may have more
abbrev pub IsSettled : {R W : Type 0} → (late : Type 0) → (R × W → Known) → List (ClientsCall (R × W))
    → List Step → Lap (R × W) → Round → Client R W → Type 0
IsSettled late known calls steps l r client =
    (IsOver client → ⊥) × (HasNoMore client ⊎ MayHaveMore late known calls steps l r client.number)

abbrev pub all_settled : {R W : Type 0} → (late : Round → Type 0) → (R × W → Known) → (here : List (Client R W))
    → List (ClientsCall (R × W)) → List Step → Lap (R × W) → Round → Type 0
all_settled late known here calls steps l r =
    AllByRecursion (IsSettled (late r) known calls steps l r) here

-- ---- round by round

-- rounds were served, until the connections were, or a fault came; some clients may be here still
pub record ServesRounds {C R W : Type 0} (seen : C → Seen) (reason : Fault → C → C → Type 0) (known : R × W → Known)
    (g g' : Option (List (ClientsCall (R × W)))) (k k' : Option (List ℕ)) (old new : C) (n : ℕ)
    (here : List (Client R W)) (result : Result (Unit {0}) ListenFault) : Type 0 where
  pub rounds : List Round
  pub are_rounds : AllByRecursion IsRound rounds
  pub figured : (seen new).honest → (log : List Command) → ShowsLog (seen old) log → AreFigured log [] rounds
  pub refused : List Step
  pub some : IfErr result (λ fault. IfBank fault (λ f. refused ≢ []))
  pub clock : AreReadings k k' (readings_of rounds)
  pub dated : AreDated reason rounds refused
  pub stood : C
  pub honest_first : (seen stood).honest → (seen old).honest
  pub honest : (seen new).honest → (seen stood).honest
  pub up : (seen stood).is_down → (seen old).is_down
  pub takes : Takes (seen old) (seen stood) (submitted_by (steps_of rounds))
  pub due : (seen new).honest → AnswersAll (seen old) (seen stood) (steps_of rounds)
  pub ends : EndsTogether seen result stood new refused
  pub survives : (seen new).honest → (log : List Command) → StandsAt (seen old) log
      → LeavesOnly (seen new) (ShowsPrefix log (submitted_by (steps_of rounds ++ refused))
      (length (submitted_by (steps_of rounds))))
  pub idle : (seen old).is_down → new ≡ old
  pub why : IfErr result (λ fault. IfBank fault (IsOfCall seen reason old new))
  pub calls : List (ClientsCall (R × W))
  pub laps : List (Lap (R × W))
  pub calls_are : calls ≡ calls_of laps
  pub are_laps : AreLaps known n [] [] laps rounds
  pub moves : AllMoved (HasSpared reason) known [] [] laps rounds
  pub left : IfErr result (λ fault. IfBank fault (λ f. OnLast (all_settled (λ r. BreaksOff (HasSpared reason) refused) known here) [] [] laps rounds))
  pub network : IsCutOff result calls laps
  pub came : ℕ
  pub few : came ≤ n
  pub done : OnOk result ((came ≡ n) × (here ≡ []))
  pub crowd : IsCrowd ⊥ [] known g calls (steps_of rounds) (fault_of_bank result) refused
      (record { calls = g'; came = came; here = here })
