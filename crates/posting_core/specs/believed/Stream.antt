-- A stream of records: what is read, what is written, what the bank shows, and what a crash may leave.
use Rattle.std.specs.Prelude.{◌≡◌, ℕ, zero, suc, ◌-◌, ◌≤◌, ◌<◌, ◌/◌, List, [], ◌∷◌, ◌++◌, length, take}
use Rattle.std.specs.Prelude.{⊤}
use Rattle.std.specs.Prelude.{Option, Result, Ok, Err}
use Rattle.std.specs.List.{AllByRecursion}
use Rattle.std.specs.Simd.{first_chunks}
use Rattle.std.specs.Io.KnownBytes.{Appends, Consumes, IsAtEnd}
use Rattle.message_records.specs.declared.limits.TheConstants.{REQUEST_BYTES}
use Rattle.posting_rules.specs.declared.fault.Fault.{Fault}
use Rattle.posting_rules.specs.declared.fault.Fault.TheVariants.{Memory, Down}
use Rattle.posting_rules.specs.declared.limits.TheConstants.{RECORDS_PER_BATCH}
use Rattle.posting_core.specs.declared.stream.StreamFault.{StreamFault}
use Rattle.posting_core.specs.declared.stream.StreamFault.TheVariants.{Truncated, Read, Write, Bank}
use Rattle.posting_rules.specs.believed.Commands.{Command, Open, Post, Close}
use Rattle.posting_rules.specs.believed.Counter.{Seen, ShowsLog, LeavesOnly, StandsAt, ShowsPrefix, Takes, Refuses}
use Rattle.posting_rules.specs.believed.AnyTables.{HasRoom}
use Rattle.posting_rules.specs.believed.Runs.{followed_by, replies_to, ArePosts}
use Rattle.posting_rules.specs.believed.Tables.{Tables}
use Rattle.posting_core.specs.believed.Clock.{AreReadings}
use Rattle.posting_core.specs.believed.Batches.{Batch, IsBatch, IsRecord, joined, moments_of, records_of, posts_of}
use Rattle.posting_core.specs.believed.Batches.{replies_past_batches, tables_past_batches}
use Rattle.posting_rules.specs.believed.Entries.{reply}

-- The reader's known bytes before and after are r and r', the writer's w and w', the clock's known readings k
-- and k', and the bank is seen as c and c'.

-- ---- batch by batch

-- the input ended with a record, and so many were answered
pub record EndsWhole (r' : Option (List ℕ)) (taken refused : List Batch) (rest : List ℕ)
    (count : ℕ) : Type 0 where
  pub ended : IsAtEnd r'
  pub no_rest : rest ≡ []
  pub all_taken : refused ≡ []
  pub count_is : count ≡ length (records_of taken)

-- the input ended so many bytes into a record, and those before it were answered
pub record EndsInRecord (r' : Option (List ℕ)) (refused : List Batch) (rest : List ℕ) (n : ℕ) : Type 0 where
  pub ended : IsAtEnd r'
  pub some : 1 ≤ n
  pub rest_is : length rest ≡ n
  pub all_taken : refused ≡ []

-- how it ended
abbrev pub EndsStream : Result ℕ StreamFault → Option (List ℕ) → List Batch → List Batch → List ℕ → Type 0
EndsStream (Ok count) r' taken refused rest = EndsWhole r' taken refused rest count
EndsStream (Err (Truncated n)) r' taken refused rest = EndsInRecord r' refused rest n
EndsStream (Err Read) r' taken refused rest = refused ≡ []
EndsStream (Err Write) r' taken refused rest = refused ≡ []
EndsStream (Err (Bank fault)) r' taken refused rest = length refused ≡ 1

-- what was written of the replies to what the bank took: a prefix where the writer failed, and all of them
-- elsewhere
abbrev pub RepliesAreWritten : Result ℕ StreamFault → List ℕ → List ℕ → Type 0
RepliesAreWritten (Err Write) written replies = written ≡ take (length written) replies
RepliesAreWritten _ written replies = written ≡ replies

abbrev pub IfUp : Fault → Type 0 → Type 0
IfUp Memory P = P
IfUp _ P = ⊤

-- wherever the bank isn't down
abbrev pub UnlessDown : Result ℕ StreamFault → Type 0 → Type 0
UnlessDown (Err (Bank fault)) P = IfUp fault P
UnlessDown _ P = P

-- On these tables, of a log or not: what was written are the replies to what the bank took, it shows what that leaves of
-- them, and where a crash could leave them alone, it leaves that alone.
pub record IsStreamedOn (t : Tables) (c c' : Seen) (taken : List Batch) (written : List ℕ)
    (result : Result ℕ StreamFault) : Type 0 where
  pub replies : RepliesAreWritten result written (joined (replies_past_batches t taken))
  pub shows : UnlessDown result (c'.tables (tables_past_batches t taken))
  pub survives : LeavesOnly c (λ left. left ≡ t)
      → UnlessDown result (LeavesOnly c' (λ left. left ≡ tables_past_batches t taken))

-- what a call did, whatever its result
pub record Streamed (r r' w w' k k' : Option (List ℕ)) (c c' : Seen)
    (result : Result ℕ StreamFault) : Type 0 where
  -- the batches that the bank took, the one that it refused, and what was read after them
  pub taken : List Batch
  pub refused : List Batch
  pub rest : List ℕ
  -- this was read and written, and the clock was read once for each batch
  pub read : Consumes r r' (joined (records_of (taken ++ refused)) ++ rest)
  pub whole : AllByRecursion IsRecord (records_of (taken ++ refused))
  pub sizes : AllByRecursion IsBatch (taken ++ refused)
  pub few : length rest < REQUEST_BYTES
  pub clock : AreReadings k k' (moments_of (taken ++ refused))
  pub written : List ℕ
  pub wrote : Appends w w' written
  pub ends : EndsStream result r' taken refused rest
  -- the replies are those to what the bank took, and that is what it shows
  pub honest : c'.honest → c.honest
  pub replies : c'.honest → (log : List Command) → ShowsLog c log
      → RepliesAreWritten result written (joined (replies_to log (posts_of taken)))
  pub shows : c'.honest → (log : List Command) → ShowsLog c log
      → UnlessDown result (ShowsLog c' (followed_by log (posts_of taken)))
  pub stands : c'.honest → (log : List Command) → StandsAt c log
      → UnlessDown result (StandsAt c' (followed_by log (posts_of taken)))
  -- so it is with whatever tables with room it showed
  pub by_tables : c'.honest → (t : Tables) → HasRoom t → c.tables t → IsStreamedOn t c c' taken written result
  -- a crash leaves all that it took
  pub survives : c'.honest → (log : List Command) → StandsAt c log
      → LeavesOnly c' (ShowsPrefix log (posts_of (taken ++ refused)) (length (posts_of taken)))

-- ---- what is written is a function of what is read, however it was cut

-- the whole records at the front of bytes
abbrev pub whole_records : List ℕ → List (List ℕ)
whole_records bytes = first_chunks REQUEST_BYTES (length bytes / REQUEST_BYTES) bytes

-- ---- what a crash leaves

-- the records that are posted
abbrev pub posted_records : List Command → List (List ℕ)
posted_records [] = []
posted_records (Open branch terms ∷ cs) = posted_records cs
posted_records (Close first last ∷ cs) = posted_records cs
posted_records (Post moment bytes ∷ cs) = bytes ∷ posted_records cs

-- how many replies, written one after another, had a byte accepted when so many bytes were: a writer may take a
-- part of one
abbrev pub acknowledged : List (List ℕ) → ℕ → ℕ
acknowledged [] n = 0
acknowledged (reply ∷ replies) zero = 0
acknowledged (reply ∷ replies) (suc n) = suc (acknowledged replies (suc n - length reply))

-- ---- what the fault of the bank says

abbrev pub IfBank : StreamFault → (Fault → Type 0) → Type 0
IfBank (Bank fault) P = P fault
IfBank _ P = ⊤

-- the bank took some of the records that were read, stood there, and refused the next batch
pub record IsRefusedAfterBatches {C : Type 0} (seen : C → Seen) (reason : Fault → C → C → Type 0) (old new : C)
    (r r' : Option (List ℕ)) (fault : Fault) : Type 0 where
  pub bytes : List ℕ
  pub read : Consumes r r' bytes
  pub taken : List Command
  pub batch : List Command
  pub posts : ArePosts (taken ++ batch)
  pub records : posted_records (taken ++ batch) ≡ whole_records bytes
  pub some : 1 ≤ length batch
  pub few : length batch ≤ RECORDS_PER_BATCH
  -- the bank after what it took: it was down only where it was down before
  pub stood : C
  pub first : taken ≡ [] → stood ≡ old
  pub takes : Takes (seen old) (seen stood) taken
  pub up : (seen stood).is_down → (seen old).is_down × (taken ≡ [])
  -- what it did then, and why
  pub refuses : Refuses fault (seen stood) (seen new) batch
  pub why : reason fault stood new
  pub tried : (seen stood).is_down → fault ≡ Down
  pub down : (seen stood).is_down → (seen new).is_down
  pub honest : (seen new).honest → (seen stood).honest
