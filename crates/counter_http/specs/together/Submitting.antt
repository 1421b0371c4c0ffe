-- Records that clients sent, which are submitted together or one by one, and what becomes of those clients. The
-- bank is old before and new after, and the clients are here before and here' after.
use Rattle.std.specs.Prelude.{◌≡◌, ◌≢◌, ◌⊎◌, ◌<◌, ◌≤◌, ◌+◌, ◌-◌, ◌^◌, ℕ, List, [], ◌∷◌, ◌++◌, length, slice_set, Option, Some}
use Rattle.std.specs.Prelude.{Result, IfErr, OnOk, ⊤, true}
use Rattle.std.specs.List.{AllByRecursion, slice_get}
use Rattle.posting_rules.specs.declared.fault.Fault.{Fault}
use Rattle.posting_rules.specs.declared.limits.TheConstants.{RECORDS_PER_BATCH}
use Rattle.posting_rules.specs.believed.Commands.{Command}
use Rattle.posting_rules.specs.believed.Counter.{Seen, ShowsLog, Takes}
use Rattle.posting_rules.specs.believed.Runs.{replies_to}
use Rattle.posting_core.specs.Stream.{IsOfCall}
use Rattle.posting_core.specs.believed.Clock.{AreReadings}
use Rattle.counter_http.specs.Connections.{Known}
use Rattle.counter_http.specs.together.Due.{AnswersAll, AreDue}
use Rattle.counter_http.specs.together.Faring.{AllFare, HasNoMore}
use Rattle.counter_http.specs.together.Order.{AreCommits, HasSpared, Step, is_posted_under, is_read_under, submitted_by}
use Rattle.counter_http.specs.together.Rounds.{AreToldAt, EndsRound, IsOfOneOf, fault_in, numbers}
use Rattle.counter_http.specs.together.Standing.{AnswersRecord, GivesRecord, HasEndedWith, MovesOn, StandsHere, unread}
use Rattle.counter_http.specs.Turns.{IsAsked}
use Rattle.counter_http.specs.believed.Answers.{answer_text, bare}
use Rattle.counter_http.specs.Figures.{Counts}
use Rattle.counter_http.specs.declared.figures.Figures.{Figures}
use Rattle.counter_http.specs.declared.figures.Tally.{Tally}
use Rattle.counter_http.specs.declared.batch.Batch.{Batch}
use Rattle.counter_http.specs.declared.batch.Sender.{Sender}
use Rattle.counter_http.specs.declared.client.Client.{Client}
use Rattle.counter_http.specs.declared.client.Record.{Record}
use Rattle.counter_http.specs.declared.parting.Parting.TheVariants as parting

-- ---- the records of a batch

-- the client at the sender's place gives this record
pub record GivesAt {R W : Type 0} (here : List (Client R W)) (sender : Sender) (bytes : List ℕ) : Type 0 where
  pub client : Client R W
  pub at : slice_get here sender.place ≡ Some client
  pub gives : GivesRecord client (record { bytes = bytes; head = sender.head })

-- each sender gives its record
abbrev pub AreGiven : {R W : Type 0} → List (Client R W) → List Sender → List (List ℕ) → Type 0
AreGiven here [] [] = ⊤
AreGiven here [] (bytes ∷ records) = ⊥
AreGiven here (sender ∷ senders) [] = ⊥
AreGiven here (sender ∷ senders) (bytes ∷ records) = GivesAt here sender bytes × AreGiven here senders records

abbrev pub IsElsewhere : ℕ → Sender → Type 0
IsElsewhere place sender = sender.place ≢ place

-- no two are at one place
abbrev pub AreApart : List Sender → Type 0
AreApart [] = ⊤
AreApart (sender ∷ senders) = AllByRecursion (IsElsewhere sender.place) senders × AreApart senders

-- its records are given by clients that are here, one by each
pub record IsBatchOf {R W : Type 0} (here : List (Client R W)) (batch : Batch) : Type 0 where
  pub given : AreGiven here batch.senders.items batch.records.items
  pub apart : AreApart batch.senders.items

abbrev pub IsFrom : ℕ → Sender → Type 0
IsFrom place sender = place ≤ sender.place

-- the record and its sender come last
pub record IsAdded (old new : Batch) (place : ℕ) (r : Record) : Type 0 where
  pub records : new.records.items ≡ old.records.items ++ r.bytes ∷ []
  pub senders : new.senders.items ≡ old.senders.items ++ record { place = place; head = r.head } ∷ []

abbrev pub IsFull : Batch → Type 0
IsFull batch =
    (length batch.records.items ≡ RECORDS_PER_BATCH) ⊎ (length batch.senders.items ≡ RECORDS_PER_BATCH)

-- by turns: the next batch begins with the client behind the last sender of a full one, or with the first
pub record IsNextPlace (batch : Batch) (place : ℕ) : Type 0 where
  pub behind : length batch.senders.items ≡ RECORDS_PER_BATCH → (last : Sender)
      → slice_get batch.senders.items (length batch.senders.items - 1) ≡ Some last
      → (place ≡ last.place + 1) ⊎ (last.place + 1 ≡ 2 ^ 64)
  pub first : length batch.senders.items ≢ RECORDS_PER_BATCH → place ≡ 0

-- it is added, unless the batch is full
abbrev pub AddsIfRoom : (old new : Batch) → (place : ℕ) → Record → Type 0
AddsIfRoom old new place r = IsAdded old new place r ⊎ (IsFull old × (new ≡ old))

abbrev pub MayAdd : (old new : Batch) → ℕ → Type 0
MayAdd old new place = ((r : Record) × IsAdded old new place r) ⊎ (new ≡ old)

-- ---- clients, one after another

-- no client but the one at a place is another
pub record ChangesAt {R W : Type 0} (here here' : List (Client R W)) (place : ℕ) : Type 0 where
  pub client : Client R W
  pub is : here' ≡ slice_set here place client

-- the record of a sender was answered
pub record AnswersAt {R W : Type 0} (here here' : List (Client R W)) (sender : Sender) (reply : List ℕ)
    : Type 0 where
  pub before : Client R W
  pub after : Client R W
  pub at : slice_get here sender.place ≡ Some before
  pub is : here' ≡ slice_set here sender.place after
  pub answers : AnswersRecord before after sender.head reply

-- a sender was told that the bank refused its record
pub record RefusesAt {R W : Type 0} (here here' : List (Client R W)) (sender : Sender) (fault : Fault)
    : Type 0 where
  pub before : Client R W
  pub after : Client R W
  pub at : slice_get here sender.place ≡ Some before
  pub is : here' ≡ slice_set here sender.place after
  pub tells : HasEndedWith before after (answer_text (bare 503) sender.head.shows_body true) (parting.Bank fault)

-- senders were answered in turn
abbrev pub AnswersEach : {R W : Type 0} → (here here' : List (Client R W)) → List Sender → List (List ℕ)
    → Type 0
AnswersEach here here' [] replies = here' ≡ here
AnswersEach here here' (sender ∷ senders) [] = ⊥
AnswersEach {R} {W} here here' (sender ∷ senders) (reply ∷ replies) =
    (mid : List (Client R W)) × AnswersAt here mid sender reply × AnswersEach mid here' senders replies

abbrev pub RefusesEach : {R W : Type 0} → (here here' : List (Client R W)) → List Sender → Fault → Type 0
RefusesEach here here' [] fault = here' ≡ here
RefusesEach {R} {W} here here' (sender ∷ senders) fault =
    (mid : List (Client R W)) × RefusesAt here mid sender fault × RefusesEach mid here' senders fault

-- ---- what becomes of the clients and the bank

-- these messages were answered, all of clients that are here: each client stands as its own have it
pub record AreBeside {R W : Type 0} (known : R × W → Known)
    (here here' : List (Client R W)) (steps : List Step) : Type 0 where
  pub whose : AllByRecursion (IsOfOneOf (numbers here)) steps
  pub same : numbers here' ≡ numbers here
  pub stand : (p : ℕ) (client client' : Client R W) → slice_get here p ≡ Some client
      → slice_get here' p ≡ Some client'
      → (known_first : Known) (before : List Step)
      → StandsHere known known_first before client
      → StandsHere known known_first (before ++ steps) client'

-- messages that submit nothing were answered, those that ask for the figures by these, and the batch has records of
-- clients that are here
pub record Gathers {C R W X : Type 0} (seen : C → Seen) (reason : Fault → C → C → Type 0) (known : R × W → Known)
    (figures : Figures) (old new : C) (here here' : List (Client R W)) (batch : Batch) (result : Result X Fault) : Type 0 where
  pub reads : List Step
  pub are_reads : AllByRecursion (is_read_under figures) reads
  pub asked : IsAsked seen reason old new result
  pub due : (seen new).honest → (log : List Command) → ShowsLog (seen old) log → AreDue log reads
  -- the one that the bank refused last, and its client was told so
  pub refused : List Step
  pub some : IfErr result (λ fault. refused ≢ [])
  pub whose_refused : AllByRecursion (IsOfOneOf (numbers here)) refused
  pub none_posted : submitted_by refused ≡ []
  pub are_told : AreToldAt known here here' reads (fault_in result) refused
  pub fare : AllFare (fault_in result) refused reads here here'
  pub beside : AreBeside known here here' reads
  pub gives : IsBatchOf here' batch

-- n records were submitted, and each sender was answered: the bank took posts, stood there, and refused one call then
-- or none; the replies to posts were counted
pub record AreSubmitted {C R W X : Type 0} (seen : C → Seen) (reason : Fault → C → C → Type 0)
    (known : R × W → Known) (readings : List ℕ) (old new : C) (here here' : List (Client R W)) (t t' : Tally) (n : ℕ)
    (result : Result X Fault) : Type 0 where
  pub posts : List Step
  pub commits : ℕ
  pub are_commits : AreCommits commits (length posts)
  pub counts : (seen new).honest → (log : List Command) → ShowsLog (seen old) log
      → Counts t t' (replies_to log (submitted_by posts)) commits
  pub refused : List Step
  pub some : IfErr result (λ fault. refused ≢ [])
  pub together : AllByRecursion (is_posted_under readings) posts
  pub few : length posts ≤ n
  pub moves : OnOk result ((n ≤ length posts) ⊎ HasSpared reason)
  pub whole : IfErr result (λ fault. (n ≤ length refused) ⊎ HasSpared reason)
  pub dated : 0 < n → (0 < length posts) ⊎ (HasSpared reason ⊎ (0 < length refused))
  pub beside : AreBeside known here here' posts
  pub whose_refused : AllByRecursion (IsOfOneOf (numbers here)) refused
  pub are_told : AreToldAt known here here' posts (fault_in result) refused
  pub fare : AllFare (fault_in result) refused posts here here'
  pub stood : C
  pub honest_first : (seen stood).honest → (seen old).honest
  pub honest : (seen new).honest → (seen stood).honest
  pub up : (seen stood).is_down → (seen old).is_down
  pub takes : Takes (seen old) (seen stood) (submitted_by posts)
  pub due : (seen new).honest → AnswersAll (seen old) (seen stood) posts
  pub ends : EndsRound seen result stood new refused
  pub idle : (seen old).is_down → new ≡ old
  pub why : IfErr result (IsOfCall seen reason old new)

-- so they were, under one reading of the clock
pub record SubmitsBatch {C R W X : Type 0} (seen : C → Seen) (reason : Fault → C → C → Type 0)
    (known : R × W → Known) (k k' : Option (List ℕ)) (old new : C) (here here' : List (Client R W)) (t t' : Tally)
    (n : ℕ) (result : Result X Fault) : Type 0 where
  pub readings : List ℕ
  pub once : length readings ≤ 1
  pub some : 0 < length readings → 0 < n
  pub clock : AreReadings k k' readings
  pub few : n ≤ RECORDS_PER_BATCH
  pub did : AreSubmitted seen reason known readings old new here here' t t' n result

-- ---- what was looked at

-- one of the senders is at this place
abbrev pub IsAmong : List Sender → ℕ → Type 0
IsAmong [] place = ⊥
IsAmong (sender ∷ senders) place = (sender.place ≡ place) ⊎ IsAmong senders place

-- the batch has the record of the client at a place, or is full
abbrev pub IsIn : ℕ → Batch → Type 0
IsIn place batch = IsAmong batch.senders.items place ⊎ (RECORDS_PER_BATCH ≤ length batch.records.items)

-- the one at a place moves on, or the batch has its record or is full
pub record LooksAt {R W : Type 0} (here here' : List (Client R W)) (place : ℕ) (batch : Batch) : Type 0 where
  pub before : Client R W
  pub after : Client R W
  pub at : slice_get here place ≡ Some before
  pub is : here' ≡ slice_set here place after
  pub moves : MovesOn before after ⊎ IsIn place batch

-- and so do those at some places, one after another
pub record LooksOver {R W : Type 0} (here here' : List (Client R W)) (from to : ℕ) (old new : Batch) : Type 0 where
  pub others : (p : ℕ) → (p < from) ⊎ (to ≤ p) → slice_get here' p ≡ slice_get here p
  pub keeps : (p : ℕ) → IsIn p old → IsIn p new
  pub moves : (p : ℕ) (client client' : Client R W) → from ≤ p → p < to → slice_get here p ≡ Some client
      → slice_get here' p ≡ Some client' → MovesOn client client' ⊎ IsIn p new

-- some bytes of it were answered, or no more can be done for it
abbrev pub Goes : {R W : Type 0} → Client R W → Client R W → Type 0
Goes old new = HasNoMore new ⊎ (length (unread new) < length (unread old))

-- so it is of each sender
abbrev pub AllGo : {R W : Type 0} → (here here' : List (Client R W)) → List Sender → Type 0
AllGo {R} {W} here here' senders =
    (p : ℕ) (client client' : Client R W) → slice_get here p ≡ Some client → slice_get here' p ≡ Some client'
    → IsAmong senders p → Goes client client'
