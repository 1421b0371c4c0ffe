-- How a stream goes on, batch by batch, and how it breaks off.
use Rattle.std.specs.Prelude.{◌≡◌, ◌⊎◌, ℕ, ◌+◌, ◌*◌, ◌<◌, ◌/◌, List, [], ◌∷◌, ◌++◌, length, take}
use Rattle.std.specs.Prelude.{drop, get_or, ⊤, IfErr}
use Rattle.std.specs.Prelude.{Option, Result, Ok, Err}
use Rattle.std.specs.Io.KnownBytes.{Appends, Consumes}
use Rattle.message_records.specs.believed.Spelling.{reply_spelling}
use Rattle.message_records.specs.declared.limits.TheConstants.{REPLY_BYTES, REQUEST_BYTES}
use Rattle.posting_rules.specs.declared.fault.Fault.{Fault}
use Rattle.posting_rules.specs.declared.fault.Fault.TheVariants.{Memory}
use Rattle.posting_core.specs.declared.stream.StreamFault.{StreamFault}
use Rattle.posting_core.specs.declared.stream.StreamFault.TheVariants.{Truncated, Read, Write, Bank}
use Rattle.posting_rules.specs.believed.Commands.{Command}
use Rattle.posting_rules.specs.believed.Counter.{Seen, ShowsLog, LeavesOnly, StandsAt, ShowsPrefix}
use Rattle.posting_rules.specs.Counter.{HasRefused}
use Rattle.posting_rules.specs.believed.Runs.{followed_by, posts, replies_to, ArePosts}
use Rattle.posting_core.specs.believed.EndCalls.{ReadCall, Gave, Failed, GrowsBy, EndsWith}
use Rattle.posting_core.specs.EndCalls.{WriteCall, HasReadFailed}
use Rattle.posting_core.specs.believed.EndCalls.{IsEndOfInput}
use Rattle.posting_core.specs.EndCalls.{Beside, HasWriteFailed, HoldsFlushed, IsThrough, unknown}
use Rattle.posting_core.specs.believed.Batches.{Batch, joined, records_of}
use Rattle.posting_rules.specs.believed.Entries.{reply}
use Rattle.posting_rules.specs.Resends.{Place, Skips}
use Rattle.posting_core.specs.believed.Stream.{IfBank, IsRefusedAfterBatches, Streamed, UnlessDown, acknowledged}
use Rattle.posting_core.specs.believed.Stream.{posted_records, whole_records}

-- ---- which records go together: q and q' are what the source's reads are known to have returned

-- how many bytes reads gave
abbrev pub given : List ReadCall → ℕ
given [] = 0
given (Gave n ∷ reads) = n + given reads
given (Failed kind ∷ reads) = given reads

-- how many whole records the first n reads gave
abbrev pub read_by : ℕ → List ReadCall → ℕ
read_by n reads = given (take n reads) / REQUEST_BYTES

-- how many records the first m batches have
abbrev pub submitted_by : ℕ → List Batch → ℕ
submitted_by m batches = length (records_of (take m batches))

-- all whole records that a read completed are submitted together, before the next read
pub record FollowReads (q q' : Option (List ReadCall)) (batches : List Batch) : Type 0 where
  pub reads : List ReadCall
  pub made : GrowsBy q q' reads
  -- wherever a batch ends, it and those before it have the whole records of the reads so far
  pub together : (m : ℕ) → (n : ℕ) × (submitted_by m batches ≡ read_by n reads)
  -- wherever a read ends, some batches have the whole records of the reads so far
  pub at_once : (n : ℕ) → (m : ℕ) × (submitted_by m batches ≡ read_by n reads)

-- as each read was made, the replies to all whole records that the reads before it gave were written and
-- flushed: b and b' are the sinks that reads are known to have been made beside, t what the calls of this one had
-- returned at first
pub record RepliesBeforeReads (b b' : Option (List Beside)) (w : Option (List ℕ)) (t : Option (List WriteCall))
    (reads : List ReadCall) (written : List ℕ) : Type 0 where
  pub sinks : List Beside
  pub made : GrowsBy b b' sinks
  pub each : length sinks ≡ length reads
  pub replied : (n : ℕ) → n < length reads
      → HoldsFlushed w t written (REPLY_BYTES * read_by n reads) (get_or sinks n unknown)

-- what a call did; its batches follow its reads, and no reply waits for the next read
pub record StreamsAsRead (r r' : Option (List ℕ)) (q q' : Option (List ReadCall)) (b b' : Option (List Beside))
    (w w' : Option (List ℕ)) (t : Option (List WriteCall)) (k k' : Option (List ℕ)) (c c' : Seen)
    (result : Result ℕ StreamFault) : Type 0 where
  pub did : Streamed r r' w w' k k' c c' result
  pub follow : FollowReads q q' (did.taken ++ did.refused)
  pub prompt : RepliesBeforeReads b b' w t follow.reads did.written

-- the replies to them after a log; no reply depends on a moment
abbrev pub replies_text : List Command → List ℕ → List ℕ
replies_text log bytes = joined (replies_to log (posts 0 (whole_records bytes)))

-- all of the text was written, or a prefix of it where the writer failed or the bank refused a batch
abbrev pub WritesReplies : Result ℕ StreamFault → Option (List ℕ) → Option (List ℕ) → List ℕ → Type 0
WritesReplies (Err Write) w w' text = (n : ℕ) × Appends w w' (take n text)
WritesReplies (Err (Bank fault)) w w' text = (n : ℕ) × Appends w w' (take n text)
WritesReplies _ w w' text = Appends w w' text

-- ---- what the ends returned: the source from r to r', and the sink from w to w'

-- a fault of an end comes where that end failed; all that was written was flushed, wherever the sink didn't
-- fail
abbrev pub StreamFaultIsOfItsEnd : Result ℕ StreamFault → Option (List ReadCall) → Option (List ReadCall)
    → Option (List WriteCall) → Option (List WriteCall) → Type 0
StreamFaultIsOfItsEnd (Ok count) r r' w w' = EndsWith IsEndOfInput r r' × IsThrough w w'
StreamFaultIsOfItsEnd (Err (Truncated n)) r r' w w' = EndsWith IsEndOfInput r r' × IsThrough w w'
StreamFaultIsOfItsEnd (Err Read) r r' w w' = HasReadFailed r r' × IsThrough w w'
StreamFaultIsOfItsEnd (Err Write) r r' w w' = HasWriteFailed w w'
StreamFaultIsOfItsEnd (Err (Bank fault)) r r' w w' = IsThrough w w'

-- where a batch broke off, its write failed, or nothing was written
abbrev pub TellsBreak : StreamFault → Option (List WriteCall) → Option (List WriteCall) → Type 0
TellsBreak Write w w' = HasWriteFailed w w'
TellsBreak _ w w' = w' ≡ w

-- ---- records that come again

-- wherever the bank took all that was read
abbrev pub IfTaken : {A : Type 0} → Result A StreamFault → Type 0 → Type 0
IfTaken (Err (Bank fault)) P = ⊤
IfTaken _ P = P

-- what was written at the place of a reply
abbrev pub reply_at : ℕ → List ℕ → List ℕ
reply_at place written = take REPLY_BYTES (drop (REPLY_BYTES * place) written)

-- it is that reply, or a prefix of it where the writer failed or the bank refused a batch
abbrev pub IsReplied : Result ℕ StreamFault → (part whole : List ℕ) → Type 0
IsReplied (Err Write) part whole = part ≡ take (length part) whole
IsReplied (Err (Bank fault)) part whole = part ≡ take (length part) whole
IsReplied _ part whole = part ≡ whole

-- commands were read where a bank showed posts p after a log, and this was written
pub record Resends (c c' : Seen) (commands : List Command) (written : List ℕ) (result : Result ℕ StreamFault)
    : Type 0 where
  -- one that is in p gets the reply that it got there
  pub replies : c'.honest → (log p : List Command) → ArePosts p → ShowsLog c (followed_by log p)
      → (one : List ℕ) → (first : Place one p) → (again : Place one commands)
      → IsReplied result (reply_at (length again.before) written)
      (reply_spelling (reply (followed_by log first.before) one))
  -- where the bank took all that was read, it shows p and then what was read less those that are in p
  pub tables : c'.honest → (log p added : List Command) → ArePosts p → Skips p commands added
      → ShowsLog c (followed_by log p)
      → IfTaken result (ShowsLog c' (followed_by (followed_by log p) added))

-- ---- all that a call did to its reader, its writer, its clock and its bank

-- t and t' are what the sink's calls are known to have returned
pub record Streams {C : Type 0} (r r' : Option (List ℕ)) (q q' : Option (List ReadCall)) (b b' : Option (List Beside))
    (w w' : Option (List ℕ)) (t t' : Option (List WriteCall)) (k k' : Option (List ℕ)) (seen : C → Seen)
    (reason : Fault → C → C → Type 0) (old new : C) (result : Result ℕ StreamFault) : Type 0 where
  -- what was read and written, and the posts of the whole records that were read
  pub bytes : List ℕ
  pub read : Consumes r r' bytes
  pub written : List ℕ
  pub wrote : Appends w w' written
  pub commands : List Command
  pub posts : ArePosts commands
  pub records : posted_records commands ≡ whole_records bytes
  -- it did so batch by batch
  pub batches : StreamsAsRead r r' q q' b b' w w' t k k' (seen old) (seen new) result
  -- what was written is a function of what was read, however it was cut
  pub output : (seen new).honest → (log : List Command) → ShowsLog (seen old) log
      → WritesReplies result w w' (replies_text log bytes)
  -- everything that a crash may leave shows the log and a prefix of the commands, which holds all that was
  -- acknowledged
  pub survives : (seen new).honest → (log : List Command) → StandsAt (seen old) log
      → LeavesOnly (seen new) (ShowsPrefix log commands (acknowledged (replies_to log commands) (length written)))
  pub resend : Resends (seen old) (seen new) commands written result
  -- where the bank refused a batch, its fault says why
  pub refused : IfErr result (λ fault. IfBank fault (IsRefusedAfterBatches seen reason old new r r'))
  -- unless a fault says otherwise it is down only where it was before, and then it is the bank that it was
  pub up : UnlessDown result ((seen new).is_down → (seen old).is_down)
  pub idle : (seen old).is_down → new ≡ old
  pub ends : StreamFaultIsOfItsEnd result q q' t t'

-- a call was refused, for the reason that its fault gives; or the bank is up, and memory was refused to who
-- asked it
abbrev pub IsOfCall : {C : Type 0} → (C → Seen) → (Fault → C → C → Type 0) → (old new : C) → Fault → Type 0
IsOfCall seen reason old new fault =
    HasRefused seen reason old new fault ⊎ ((fault ≡ Memory) × ((seen new).is_down → ⊥))
