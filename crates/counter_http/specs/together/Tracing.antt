-- What all clients together do to the bank, round by round: from each wait for clients up to the next one. The bank is old
-- before and new after; of the ends of a client known says what is known.
use Rattle.std.specs.Prelude.{◌≡◌, ◌≢◌, ◌⊎◌, ◌<◌, ◌≤◌, ◌+◌, ◌-◌, ◌^◌, ◌==◌, ℕ, List, [], ◌∷◌, ◌++◌, length, map, Bool, true, false, ⊤, Contains}
use Rattle.std.specs.Prelude.{All, AllPairs, Err, IfErr, IsErr, OnOk, Option, Result}
use Rattle.std.specs.List.{AllByRecursion, flat_map}
use Rattle.std.specs.Io.KnownBytes.{Appends, Consumes}
use Rattle.std.specs.declared.io.ErrorKind.{ErrorKind}
use Rattle.posting_rules.specs.declared.fault.Fault.{Fault}
use Rattle.posting_rules.specs.declared.fault.Fault.TheVariants.{Memory}
use Rattle.posting_rules.specs.believed.Commands.{Command}
use Rattle.posting_rules.specs.believed.Counter.{LeavesOnly, Seen, ShowsLog, ShowsPrefix, StandsAt, Takes}
use Rattle.posting_core.specs.believed.Batches.{joined}
use Rattle.posting_core.specs.believed.Clock.{AreReadings}
use Rattle.posting_core.specs.believed.EndCalls.{GrowsBy}
use Rattle.counter_http.specs.Clients.{ClientsCall, Closed, Gave, Gave_up, Nobody, Refused, Waited}
use Rattle.counter_http.specs.Connections.{Known}
use Rattle.counter_http.specs.believed.Ends.{HasEnded}
use Rattle.counter_http.specs.believed.Serving.{BeginsWithNoMessage}
use Rattle.counter_http.specs.believed.Turns.{Turn, texts_of}
use Rattle.counter_http.specs.together.Due.{AnswersAll}
use Rattle.counter_http.specs.together.Order.{AreDated, AreFigured, BreaksOff, FillsRound, HasSpared, IsRound, Round, Step, answers_of}
use Rattle.counter_http.specs.together.Order.{clients_of, of_client, readings_of, steps_in, steps_of, submitted_by}
use Rattle.counter_http.specs.together.Serving.{Broken_off, Goes_on, Stands, Walk_ended}
use Rattle.counter_http.specs.together.Serving.{ClientIsServed, EndsTogether, IfBank, IsOfVisit, IsToldTo, IsVisited, IsVisitWhy}
use Rattle.counter_http.specs.together.Serving.{IsWhyRefused, OfOthers, Visit, closed_of, closings, fault_of_bank, openings}
use Rattle.counter_http.specs.declared.listen_fault.ListenFault.{ListenFault}
use Rattle.counter_http.specs.declared.listen_fault.ListenFault.TheVariants.{Network}
use Rattle.counter_http.specs.declared.parting.Parting.TheVariants as parting
use Rattle.counter_http.specs.declared.client.TheConstants.{UNTAKEN}
use Rattle.counter_http.specs.declared.together.TheConstants.{MOST_CLIENTS}

-- ---- who is here

abbrev pub if_other : Bool → ℕ → List ℕ → List ℕ
if_other true n ns = ns
if_other false n ns = n ∷ ns

abbrev pub without : ℕ → List ℕ → List ℕ
without n [] = []
without n (m ∷ ms) = if_other (m == n) m (without n ms)

-- who is here after some calls, in the order in which they came, where these were here before
abbrev pub here_after : {E : Type 0} → List ℕ → List (ClientsCall E) → List ℕ
here_after ns [] = ns
here_after ns (Waited es ∷ cs) = here_after ns cs
here_after ns (Gave n e ∷ cs) = here_after (ns ++ n ∷ []) cs
here_after ns (Nobody ∷ cs) = here_after ns cs
here_after ns (Refused kind ∷ cs) = here_after ns cs
here_after ns (Closed n e ∷ cs) = here_after (without n ns) cs
here_after ns (Gave_up n ∷ cs) = here_after ns cs

-- ---- a round

-- the calls from a wait up to the next one: who was waited for, the calls until messages were answered, and those after
pub record Lap (E : Type 0) : Type 0 where
  pub waited : List (ℕ × E)
  pub before : List (ClientsCall E)
  pub after : List (ClientsCall E)

abbrev pub calls_until : {E : Type 0} → Lap E → List (ClientsCall E)
calls_until l = Waited l.waited ∷ l.before

abbrev pub calls_in : {E : Type 0} → Lap E → List (ClientsCall E)
calls_in l = calls_until l ++ l.after

abbrev pub calls_of : {E : Type 0} → List (Lap E) → List (ClientsCall E)
calls_of ls = flat_map calls_in ls

-- a call that waits for nobody
abbrev pub IsNoWait : {E : Type 0} → ClientsCall E → Type 0
IsNoWait (Waited es) = ⊥
IsNoWait _ = ⊤

abbrev pub number_waited : {E : Type 0} → ℕ × E → ℕ
number_waited w = w.0

-- As a client was waited for, it had been served as one that is stopped then: it had been read the messages that were
-- answered so far, and was written their answers or a prefix. So a message is answered after the wait after which the last
-- of it was read, and before any of its answer is written.
pub record StoodSo {E : Type 0} (known : E → Known) (steps : List Step) (calls : List (ClientsCall E))
    (w : ℕ × E) : Type 0 where
  pub given : E
  pub came : Contains calls (Gave w.0 given)
  pub served : ClientIsServed w.0 (known given) (known w.1) steps parting.Stopped

-- an opening gave nobody, or was refused
abbrev pub GivesNone : {E : Type 0} → ClientsCall E → Type 0
GivesNone Nobody = ⊤
GivesNone (Refused kind) = ⊤
GivesNone _ = ⊥

-- of so many all that waited to be taken in were, as far as there is room
abbrev pub AreTakenIn : {E : Type 0} → ℕ → (calls until : List (ClientsCall E)) → Type 0
AreTakenIn {E} n calls until =
    (length (openings (calls ++ until)) ≡ n) ⊎ ((MOST_CLIENTS ≤ length (here_after [] (calls ++ until)))
    ⊎ ((call : ClientsCall E) × Contains until call × GivesNone call))

-- one round of a serving of n clients, after these calls and messages
pub record IsLap {E : Type 0} (known : E → Known) (n : ℕ) (calls : List (ClientsCall E)) (steps : List Step)
    (l : Lap E) (r : Round) : Type 0 where
  -- all who were here were waited for, once
  pub all : map number_waited l.waited ≡ here_after [] calls
  pub once : AllByRecursion IsNoWait (l.before ++ l.after)
  -- what each of them had been read and written then
  pub stood : AllByRecursion (StoodSo known steps calls) l.waited
  pub taken_in : AreTakenIn n calls (calls_until l)
  -- its messages are of those who were here then, whom the figures count
  pub whose : AllByRecursion (λ s. Contains (here_after [] (calls ++ calls_until l)) s.client) (steps_in r)
  pub counted : r.figures.connections ≡ length (here_after [] (calls ++ calls_until l))

-- each round, one after another
abbrev pub AreLaps : {E : Type 0} → (known : E → Known) → (n : ℕ) → List (ClientsCall E) → (before : List Round)
    → List (Lap E) → List Round → Type 0
AreLaps known n calls before [] [] = ⊤
AreLaps known n calls before [] (r ∷ rs) = ⊥
AreLaps known n calls before (l ∷ ls) [] = ⊥
AreLaps known n calls before (l ∷ ls) (r ∷ rs) =
    IsLap known n calls (steps_of before) l r × AreLaps known n (calls ++ calls_in l) (before ++ r ∷ []) ls rs

-- ---- who moves on from one wait to the next

-- as a client was waited for, it had more answers to take than are let wait
pub record LeftMuch {E : Type 0} (known : E → Known) (steps : List Step) (calls : List (ClientsCall E))
    (waited : List (ℕ × E)) (n : ℕ) : Type 0 where
  pub ends : E
  pub one : Contains waited (n, ends)
  pub given : E
  pub came : Contains calls (Gave n given)
  pub written : List ℕ
  pub wrote : Appends (known given).writer (known ends).writer written
  pub many : length written + UNTAKEN < length (joined (answers_of n steps))

-- A whole message may be left of a client after a round, where another one of it was answered in that, where it had many
-- answers to take first, and where it was late for that.
abbrev pub MayHaveMore : {E : Type 0} → (late : Type 0) → (known : E → Known) → List (ClientsCall E)
    → List Step → Lap E → Round → ℕ → Type 0
MayHaveMore late known calls steps l r n =
    Contains (clients_of (steps_in r)) n ⊎ (LeftMuch known steps calls l.waited n ⊎ late)

-- no whole message is left of one that stands so, or no more of its messages are answered
abbrev pub HasNoneLeft : {has_ended : Type 0} {own lost : List Turn} {rest : List ℕ} {last : List (List ℕ)}
    → Stands has_ended own lost rest last → Type 0
HasNoneLeft {rest = rest} (Goes_on is) = BeginsWithNoMessage rest
HasNoneLeft (Walk_ended is) = ⊤
HasNoneLeft (Broken_off is) = ⊤

-- so it is of one whose ends stand so after a round, after these calls and messages before that
pub record HasMovedOn {E : Type 0} (late : Type 0) (known : E → Known) (calls : List (ClientsCall E))
    (steps : List Step) (l : Lap E) (r : Round) (w : ℕ × E) : Type 0 where
  pub given : E
  pub came : Contains (calls ++ calls_in l) (Gave w.0 given)
  pub lost : List Turn
  pub rest : List ℕ
  pub last : List (List ℕ)
  pub read : Consumes (known given).reader (known w.1).reader (texts_of (of_client w.0 (steps ++ steps_in r) ++ lost) ++ rest)
  pub stands : Stands (HasEnded (known w.1).reader (known given).reads (known w.1).reads)
      (of_client w.0 (steps ++ steps_in r)) lost rest last
  pub none : HasNoneLeft stands ⊎ MayHaveMore late known calls steps l r w.0

-- others filled a round
abbrev pub fills : (spared : Type 0) → Round → Type 0
fills spared r = FillsRound spared r.posts

abbrev pub all_on : {E : Type 0} → (late : Round → Type 0) → (known : E → Known) → (stood : List (ℕ × E))
    → List (ClientsCall E) → List Step → Lap E → Round → Type 0
all_on late known stood calls steps l r = AllByRecursion (HasMovedOn (late r) known calls steps l r) stood

-- and of all that are waited for after each round
abbrev pub AllMoved : {E : Type 0} → (spared : Type 0) → (known : E → Known) → List (ClientsCall E)
    → (before : List Round) → List (Lap E) → List Round → Type 0
AllMoved spared known calls before [] rs = ⊤
AllMoved spared known calls before (l ∷ []) rs = ⊤
AllMoved spared known calls before (l ∷ m ∷ ls) [] = ⊤
AllMoved spared known calls before (l ∷ m ∷ ls) (r ∷ rs) =
    all_on (fills spared) known m.waited calls (steps_of before) l r
    × AllMoved spared known (calls ++ calls_in l) (before ++ r ∷ []) (m ∷ ls) rs

-- this holds of the last round, and of what was called and answered before it
abbrev pub OnLast : {E : Type 0} → (List (ClientsCall E) → List Step → Lap E → Round → Type 0) → List (ClientsCall E)
    → (before : List Round) → List (Lap E) → List Round → Type 0
OnLast P calls before [] rs = ⊤
OnLast P calls before (l ∷ ls) [] = ⊤
OnLast P calls before (l ∷ []) (r ∷ rs) = P calls (steps_of before) l r
OnLast P calls before (l ∷ m ∷ ls) (r ∷ rs) = OnLast P (calls ++ calls_in l) (before ++ r ∷ []) (m ∷ ls) rs

-- ---- all of it

-- the calls are those of the rounds, and then connections were closed
pub record IsTraced {E : Type 0} (known : E → Known) (n : ℕ) (calls : List (ClientsCall E)) (rounds : List Round)
    : Type 0 where
  pub laps : List (Lap E)
  pub last : List (ClientsCall E)
  pub calls_are : calls ≡ calls_of laps ++ last
  pub no_more : AllByRecursion IsNoWait last
  pub are_laps : AreLaps known n [] [] laps rounds

-- an opening was refused
pub record HasRefused {E : Type 0} (calls : List (ClientsCall E)) : Type 0 where
  pub kind : ErrorKind
  pub one : Contains calls (Refused kind)

-- the network failed only where an opening was refused, or after 2 ^ 64 - 1 waits
abbrev pub IsCutOff : {E : Type 0} → Result (Unit {0}) ListenFault → List (ClientsCall E) → List (Lap E) → Type 0
IsCutOff result calls laps = result ≡ Err Network → HasRefused calls ⊎ (2 ^ 64 - 1 ≤ length laps)

pub record ServesTogether {C E : Type 0} (seen : C → Seen) (reason : Fault → C → C → Type 0) (known : E → Known)
    (g g' : Option (List (ClientsCall E))) (k k' : Option (List ℕ)) (old new : C) (n : ℕ)
    (result : Result (Unit {0}) ListenFault) : Type 0 where
  -- what the bank took, round by round, and what it refused last
  pub rounds : List Round
  pub are_rounds : AllByRecursion IsRound rounds
  -- who asks for the figures is told how many replies were given before
  pub figured : (seen new).honest → (log : List Command) → ShowsLog (seen old) log → AreFigured log [] rounds
  pub refused : List Step
  pub clock : AreReadings k k' (readings_of rounds)
  pub dated : AreDated reason rounds refused
  -- the bank stood here when it had taken the messages, and it was down then only where it was down before
  pub stood : C
  pub honest_first : (seen stood).honest → (seen old).honest
  pub honest : (seen new).honest → (seen stood).honest
  pub up : (seen stood).is_down → (seen old).is_down
  pub takes : Takes (seen old) (seen stood) (submitted_by (steps_of rounds))
  -- each answer is the one that is due, and it took what that says, also on tables of no log
  pub due : (seen new).honest → AnswersAll (seen old) (seen stood) (steps_of rounds)
  pub ends : EndsTogether seen result stood new refused
  -- a crash leaves all that it took
  pub survives : (seen new).honest → (log : List Command) → StandsAt (seen old) log
      → LeavesOnly (seen new) (ShowsPrefix log (submitted_by (steps_of rounds ++ refused))
      (length (submitted_by (steps_of rounds))))
  pub idle : (seen old).is_down → new ≡ old
  -- a fault of the bank says why a call was refused
  pub why : IfErr result (λ fault. IfBank fault (IsWhyRefused seen reason old new))
  -- the calls of what gives clients, round by round
  pub calls : List (ClientsCall E)
  pub made : GrowsBy g g' calls
  pub traced : IsTraced known n calls rounds
  -- everybody is served: as each is waited for, its whole messages are answered, or one was in the round before
  pub moves : AllMoved (HasSpared reason) known [] [] traced.laps rounds
  -- and so it is of those who are left where the bank refused a call: whoever was in that was told so
  pub broken : IfErr result (λ fault. IfBank fault (λ f. OnLast (all_on (λ r. BreaksOff (HasSpared reason) refused) known (closings traced.last)) [] [] traced.laps rounds))
  pub network : IsCutOff result calls traced.laps
  -- the clients, as their connections were closed: each one that was taken in, once
  pub visits : List (Visit E)
  pub closed : map closed_of visits ≡ closings calls
  pub once : AllPairs OfOthers visits
  pub each : All (IsVisited known (steps_of rounds) calls) visits
  pub all : length visits ≡ length (openings calls)
  -- nobody else is given up than a wait says, nobody is stopped where the serving ends well, and nobody is told of a refusal
  -- whose message the bank didn't refuse
  pub parted : All (IsVisitWhy (IsErr result) (fault_of_bank result) refused calls) visits
  -- a call of the bank was refused with some messages in it, and each is its client's own, who was told so
  pub some : IfErr result (λ fault. IfBank fault (λ f. (refused ≢ []) ⊎ ((f ≡ Memory) × (new ≡ old))))
  pub refusals : IfErr result (λ fault. IfBank fault
      (λ f. AllByRecursion (IsToldTo known (steps_of rounds) visits f) refused))
  -- no message is of anybody else
  pub whose : AllByRecursion (IsOfVisit visits) (steps_of rounds ++ refused)
  pub many : length visits ≤ n
  pub come : OnOk result (length visits ≡ n)
