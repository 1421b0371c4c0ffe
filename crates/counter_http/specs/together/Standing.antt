-- Where a client stands while it is served beside others, and what a function does to it. Of its ends k was known
-- when it was taken in, and l now; steps are the messages that were answered.
use Rattle.std.specs.Prelude.{◌≡◌, ◌≢◌, ◌<◌, ℕ, List, [], ◌∷◌, ◌++◌, length, take, drop, Bool, false, true, Option, Some, None}
use Rattle.std.specs.Prelude.{Contains, IfErr, Result, Ok, Err, ⊤, ◌⊎◌}
use Rattle.std.specs.List.{AllByRecursion}
use Rattle.std.specs.Io.KnownBytes.{Appends, Consumes}
use Rattle.posting_rules.specs.declared.fault.Fault.{Fault}
use Rattle.posting_rules.specs.declared.fault.Fault.TheVariants as fault
use Rattle.posting_rules.specs.believed.Commands.{Command}
use Rattle.posting_rules.specs.believed.Counter.{Seen, ShowsLog, Takes}
use Rattle.posting_core.specs.EndCalls.{HasMore, HasWriteFailed, IsFlush, IsThrough, WriteCall}
use Rattle.posting_core.specs.believed.EndCalls.{EndsWith}
use Rattle.posting_core.specs.believed.Batches.{joined}
use Rattle.counter_http.specs.Connections.{Known}
use Rattle.counter_http.specs.Next.{IsUnfinished}
use Rattle.counter_http.specs.together.Due.{AreDue}
use Rattle.counter_http.specs.together.Faring.{Fares}
use Rattle.counter_http.specs.together.Serving.{AnswersBeforeItsReads, IsOfRefusal, IsWrittenAs, PartingIsOfItsEnd, PartsAs}
use Rattle.counter_http.specs.Turns.{IsAsked}
use Rattle.counter_http.specs.Asking.{said_in}
use Rattle.counter_http.specs.believed.Answers.{Answer, answer_text, asked_by, bare, is_posting, octets, shows}
use Rattle.counter_http.specs.believed.Ends.{HasEnded}
use Rattle.counter_http.specs.believed.Messages.{Message, message_text, IsMessage, closes}
use Rattle.counter_http.specs.believed.Serving.{BeginsWithNoMessage, IsBrokenOff, KeepsConnection}
use Rattle.counter_http.specs.together.Order.{Step, answers_of, clients_of, is_read_under, of_client, submitted_by}
use Rattle.counter_http.specs.declared.figures.Figures.{Figures}
use Rattle.counter_http.specs.believed.Turns.{Turn, texts_of}
use Rattle.counter_http.specs.declared.answers.Reading.{Reading}
use Rattle.counter_http.specs.declared.client.Client.{Client}
use Rattle.counter_http.specs.declared.client.TheConstants.{UNTAKEN}
use Rattle.counter_http.specs.declared.client.Front.{Front}
use Rattle.counter_http.specs.declared.client.Front.TheVariants as front
use Rattle.counter_http.specs.declared.client.Head.{Head}
use Rattle.counter_http.specs.declared.client.Record.{Record}
use Rattle.counter_http.specs.declared.parting.Parting.{Parting}
use Rattle.counter_http.specs.declared.parting.Parting.TheVariants as parting

-- ---- where it stands

-- its messages go on: rest was read and isn't answered, and pending isn't written
pub record IsGoing (i : ℕ) (k l : Known) (steps : List Step) (has_more shown : Bool)
    (rest pending : List ℕ) : Type 0 where
  pub read : Consumes k.reader l.reader (texts_of (of_client i steps) ++ rest)
  pub stays : AllByRecursion (λ t. KeepsConnection t.message) (of_client i steps)
  -- no whole message is left where it has no more
  pub waits : has_more ≡ false → IsUnfinished rest shown
  pub written : List ℕ
  pub wrote : Appends k.writer l.writer written
  pub answers : written ++ pending ≡ joined (answers_of i steps)
  pub more : HasMore k.writes l.writes
  pub through : pending ≡ [] → IsThrough k.writes l.writes
  pub prompt : AnswersBeforeItsReads i k.reads l.reads k.beside l.beside k.writer k.writes steps
      (texts_of (of_client i steps) ++ rest)

-- some answers may be left, where they are written still; who is given up or stopped is parted from at once
abbrev pub MayBeLeft : Parting → List ℕ → Type 0
MayBeLeft parting.Served pending = ⊤
MayBeLeft (parting.Bank fault) pending = ⊤
MayBeLeft parting.GivenUp pending = ⊥
MayBeLeft parting.Stopped pending = ⊥
MayBeLeft _ pending = pending ≡ []

-- no more of its messages are answered
pub record IsParted (i : ℕ) (k l : Known) (steps : List Step) (pending : List ℕ) (p : Parting)
    : Type 0 where
  pub lost : List Turn
  pub rest : List ℕ
  pub last : List (List ℕ)
  pub read : Consumes k.reader l.reader (texts_of (of_client i steps ++ lost) ++ rest)
  pub written : List ℕ
  pub wrote : Appends k.writer l.writer written
  pub parts : PartsAs p (HasEnded l.reader k.reads l.reads) (of_client i steps) lost rest last
  pub answers : IsWrittenAs p (written ++ pending) (joined (answers_of i steps ++ last))
  pub more : HasMore k.writes l.writes
  pub left : MayBeLeft p pending
  pub ends : pending ≡ [] → PartingIsOfItsEnd p k.reads l.reads k.writes l.writes
  pub prompt : AnswersBeforeItsReads i k.reads l.reads k.beside l.beside k.writer k.writes steps
      (texts_of (of_client i steps ++ lost) ++ rest)

abbrev pub StandsBy : Option Parting → (i : ℕ) → (k l : Known) → List Step
    → (has_more shown : Bool) → (rest pending : List ℕ) → Type 0
StandsBy None i k l steps has_more shown rest pending =
    IsGoing i k l steps has_more shown rest pending
StandsBy (Some p) i k l steps has_more shown rest pending = IsParted i k l steps pending p

pub record StandsAs (p : Option Parting) (i : ℕ) (k l : Known) (steps : List Step)
    (has_more shown : Bool) (rest pending : List ℕ) : Type 0 where
  pub is : StandsBy p i k l steps has_more shown rest pending

-- ---- of a client

abbrev pub unread : {R W : Type 0} → Client R W → List ℕ
unread client = take client.filled client.input.items

abbrev pub pending : {R W : Type 0} → Client R W → List ℕ
pending client = drop client.written client.output.items

pub record StandsHere {R W : Type 0} (known : R × W → Known) (k : Known) (steps : List Step)
    (client : Client R W) : Type 0 where
  pub is : StandsAs client.parting client.number k (known (client.reader, client.writer)) steps client.has_more
      client.shows_body (unread client) (pending client)

-- its whole messages are answered, where it goes on and has no more
abbrev pub IsUpToDate : {R W : Type 0} → Client R W → Type 0
IsUpToDate client = client.parting ≡ None → client.has_more ≡ false → BeginsWithNoMessage (unread client)

-- it has more bytes of answers to take than are let wait
abbrev pub HasMuch : {R W : Type 0} → Client R W → Type 0
HasMuch client = UNTAKEN < length (pending client)

-- nothing can be done for it now: it waits for bytes, takes many answers first, or is parted from
abbrev pub Rests : {R W : Type 0} → Client R W → Type 0
Rests client =
    (client.has_more ≡ false) ⊎ (HasMuch client ⊎ ((p : Parting) × (client.parting ≡ Some p)))

-- or some of its bytes were answered
abbrev pub MovesOn : {R W : Type 0} → Client R W → Client R W → Type 0
MovesOn old new = Rests new ⊎ (length (unread new) < length (unread old))

abbrev pub LooksDone : {R W : Type 0} → Client R W → Client R W → Front → Type 0
LooksDone old new front.Nothing = Rests new
LooksDone old new front.Answered = length (unread new) < length (unread old)
LooksDone old new (front.Record r) = ⊤

-- ---- what the bank refused

-- no more of its messages are answered, since the bank refused this one
pub record IsRefused (i : ℕ) (k l : Known) (steps : List Step) (pending : List ℕ) (turn : Turn)
    (p : Parting) : Type 0 where
  pub parted : IsParted i k l steps pending p
  pub lost : parted.lost ≡ turn ∷ []
  pub broken_off : IsBrokenOff (of_client i steps) parted.lost parted.last

pub record StandsRefused {R W : Type 0} (known : R × W → Known) (k : Known) (steps : List Step)
    (fault : Fault) (turn : Turn) (client : Client R W) : Type 0 where
  pub parting : Parting
  pub parting_is : client.parting ≡ Some parting
  pub why : IsOfRefusal fault parting
  pub is : IsRefused client.number k (known (client.reader, client.writer)) steps (pending client) turn parting

-- so it stands by each of its own among these messages
abbrev pub AreRefused : {R W : Type 0} → (R × W → Known) → Known → List Step → Option Fault → List Step
    → Client R W → Type 0
AreRefused known k steps None refused client = ⊤
AreRefused known k steps (Some fault) refused client =
    AllByRecursion (λ s. s.client ≡ client.number → StandsRefused known k steps fault s.turn client) refused

-- ---- what is done for the message at the front

-- how a message at the front is answered
pub record IsHeadOf (head : Head) (buf : List ℕ) (message : Message) : Type 0 where
  pub whole : IsMessage message
  pub front : buf ≡ message_text message ++ drop head.length buf
  pub long : head.length ≡ length (message_text message)
  pub shows_is : head.shows_body ≡ shows (asked_by message)
  pub closes_is : head.closes ≡ closes message.head

-- a record stands at the front
pub record IsRecordIn (buf bytes : List ℕ) (head : Head) : Type 0 where
  pub message : Message
  pub is : IsHeadOf head buf message
  pub posting : is_posting (asked_by message) ≡ true
  pub body : bytes ≡ message.body

-- the bank refused its next message, which submits nothing, after these were answered, and it was told so
pub record TellsRefusal {R W : Type 0} (known : R × W → Known)
    (client client' : Client R W) (more : List Step) (fault : Fault) : Type 0 where
  pub step : Step
  pub own : step.client ≡ client.number
  pub reads : is_posting (asked_by step.turn.message) ≡ false
  pub told : (k : Known) (steps : List Step)
      → StandsHere known k steps client
      → StandsRefused known k (steps ++ more) fault step.turn client'

-- messages at the front were answered, which submit nothing, while the bank went from old to new; those that ask for the
-- figures were told these
pub record IsAnswered {C R W X : Type 0} (seen : C → Seen) (reason : Fault → C → C → Type 0) (known : R × W → Known)
    (figures : Figures) (old new : C) (client client' : Client R W) (result : Result X Fault) : Type 0 where
  pub more : List Step
  pub reads : AllByRecursion (is_read_under figures) more
  pub own : AllByRecursion (λ s. s.client ≡ client.number) more
  pub asked : IsAsked seen reason old new result
  pub due : (seen new).honest → (log : List Command) → ShowsLog (seen old) log → AreDue log more
  pub told : IfErr result (TellsRefusal known client client' more)
  -- whatever else was refused with its message, if one was
  pub fares : (fault : Option Fault) (refused : List Step)
      → IfErr result (λ why. (fault ≡ Some why) × Contains (clients_of refused) client.number)
      → Fares fault refused more client client'
  pub number : client'.number ≡ client.number
  pub stands : (k : Known) (steps : List Step)
      → StandsHere known k steps client
      → StandsHere known k (steps ++ more) client'

-- nothing more is written to it
pub record IsLost {R W : Type 0} (old new : Client R W) (p : Parting) : Type 0 where
  pub number : new.number ≡ old.number
  pub reader : new.reader ≡ old.reader
  pub writer : new.writer ≡ old.writer
  pub parting : new.parting ≡ Some p
  pub none : pending new ≡ []

-- ---- what its functions do to its fields

-- it sent nothing yet
pub record IsNew {R W : Type 0} (number : ℕ) (reader : R) (writer : W) (client : Client R W) : Type 0 where
  pub number_is : client.number ≡ number
  pub reader_is : client.reader ≡ reader
  pub writer_is : client.writer ≡ writer
  pub parting : (client.parting ≡ None) ⊎ (client.parting ≡ Some parting.Memory)
  pub unread_none : unread client ≡ []
  pub pending_none : pending client ≡ []
  pub shows : client.shows_body ≡ true

-- it is parted from, and nothing is left to be written
pub record IsOver {R W : Type 0} (client : Client R W) : Type 0 where
  pub parting : Parting
  pub is : client.parting ≡ Some parting
  pub none : pending client ≡ []

-- by these ends it is parted from, which are its own: for its own cause where it is over, and else for this one
pub record IsParting {R W : Type 0} (client : Client R W) (cause : Parting) (parts : R × W × Parting) : Type 0 where
  pub reader : parts.0 ≡ client.reader
  pub writer : parts.1 ≡ client.writer
  pub why : ((parts.2 ≡ cause) × (IsOver client → ⊥)) ⊎ ((client.parting ≡ Some parts.2) × (pending client ≡ []))

-- of its ends and of who it is nothing changed
pub record IsSame {R W : Type 0} (old new : Client R W) : Type 0 where
  pub number : new.number ≡ old.number
  pub reader : new.reader ≡ old.reader
  pub writer : new.writer ≡ old.writer

-- it was answered so, and no more of its messages are answered; or memory was refused for that
pub record EndsSo {R W : Type 0} (old new : Client R W) (text : List ℕ) (p : Parting) : Type 0 where
  pub same : IsSame old new
  pub added : pending new ≡ pending old ++ text
  pub parting : new.parting ≡ Some p

abbrev pub HasEndedWith : {R W : Type 0} → Client R W → Client R W → List ℕ → Parting → Type 0
HasEndedWith old new text p = EndsSo old new text p ⊎ IsLost old new parting.Memory

abbrev pub parting_after : Bool → Option Parting → Option Parting
parting_after true p = Some parting.Served
parting_after false p = p

-- the message at the front was answered so
pub record HasAnswered {R W : Type 0} (old new : Client R W) (text : List ℕ) (head : Head) : Type 0 where
  pub same : IsSame old new
  pub added : pending new ≡ pending old ++ text
  pub rest : unread new ≡ drop head.length (unread old)
  pub parting : new.parting ≡ parting_after head.closes old.parting
  -- it has more, unless nothing is left
  pub more : new.has_more ≡ false → unread new ≡ []
  pub shows : new.shows_body ≡ old.shows_body

-- a fault but for want of memory is told
abbrev pub IsToldOf : Fault → Result Front Fault → Type 0
IsToldOf fault.Memory result = result ≡ Ok front.Nothing
IsToldOf other result = result ≡ Err other

abbrev pub SaysSo : {R W : Type 0} → Client R W → Client R W → Answer → Head → Front → Type 0
SaysSo old new answer head front.Answered =
    HasAnswered old new (answer_text answer head.shows_body head.closes) head
SaysSo old new answer head front.Nothing = IsLost old new parting.Memory
SaysSo old new answer head (front.Record r) = ⊥

-- it was answered by what was read, or memory was refused; or it was told that the bank refused that
abbrev pub ReadsAnswer : {R W : Type 0} → Client R W → Client R W → Result Reading Fault → Head → Result Front Fault
    → Type 0
ReadsAnswer old new (Ok reading) head result =
    (done : Front) × (result ≡ Ok done) × SaysSo old new (said_in reading) head done
ReadsAnswer old new (Err fault) head result =
    HasEndedWith old new (answer_text (bare 503) head.shows_body true) (parting.Bank fault)
    × IsToldOf fault result

-- ---- the record at the front

pub record GivesRecord {R W : Type 0} (client : Client R W) (r : Record) : Type 0 where
  pub going : client.parting ≡ None
  pub is : IsRecordIn (unread client) r.bytes r.head

abbrev pub GivesFront : {R W : Type 0} → Client R W → Front → Type 0
GivesFront client (front.Record r) = GivesRecord client r
GivesFront client _ = ⊤

-- it is answered so, or memory was refused for that
abbrev pub AnswersRecord : {R W : Type 0} → Client R W → Client R W → Head → List ℕ → Type 0
AnswersRecord old new head text =
    HasAnswered old new (answer_text (octets text) head.shows_body head.closes) head
    ⊎ (IsLost old new parting.Memory ⊎ (old.filled < head.length))

-- ---- its ends

-- so many bytes of what was left were written, and where nothing is left then they were flushed
pub record WritesSome {R W : Type 0} (known : R × W → Known) (old new : Client R W) : Type 0 where
  pub count : ℕ
  pub contents : Option (List ℕ)
  pub writes : Option (List WriteCall)
  pub ends : known (new.reader, new.writer)
      ≡ record (known (old.reader, old.writer)) { writer = contents; writes = writes }
  pub wrote : Appends (known (old.reader, old.writer)).writer contents (take count (pending old))
  pub more : HasMore (known (old.reader, old.writer)).writes writes
  pub some : pending old ≢ []
  pub left : pending new ≡ drop count (pending old)
  pub flushed : pending new ≡ [] → EndsWith IsFlush (known (old.reader, old.writer)).writes writes
  pub number : new.number ≡ old.number
  pub unread_same : unread new ≡ unread old
  pub parting : new.parting ≡ old.parting
  pub has_more : new.has_more ≡ old.has_more
  pub shows : new.shows_body ≡ old.shows_body

-- the writer failed
pub record WritesLast {R W : Type 0} (known : R × W → Known) (old new : Client R W) : Type 0 where
  pub count : ℕ
  pub contents : Option (List ℕ)
  pub writes : Option (List WriteCall)
  pub ends : known (new.reader, new.writer)
      ≡ record (known (old.reader, old.writer)) { writer = contents; writes = writes }
  pub wrote : Appends (known (old.reader, old.writer)).writer contents (take count (pending old))
  pub failed : HasWriteFailed (known (old.reader, old.writer)).writes writes
  pub number : new.number ≡ old.number
  pub parting : new.parting ≡ Some parting.Write
  pub none : pending new ≡ []

abbrev pub Writes : {R W : Type 0} → (R × W → Known) → Client R W → Client R W → Type 0
Writes known old new = (new ≡ old) ⊎ (WritesSome known old new ⊎ WritesLast known old new)
