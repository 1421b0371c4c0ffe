-- One record from a reader, and its reply to a writer.
use Rattle.std.specs.Prelude.{◌≡◌, ◌<◌, ℕ, List, [], ◌∷◌, length, take, Option, ⊤}
use Rattle.std.specs.Io.KnownBytes.{Keeps, Appends, Consumes, IsAtEnd}
use Rattle.message_records.specs.declared.limits.TheConstants.{REQUEST_BYTES}
use Rattle.message_records.specs.believed.Spelling.{reply_spelling}
use Rattle.posting_rules.specs.declared.fault.Fault.{Fault}
use Rattle.posting_core.specs.declared.once.OnceFault.{OnceFault}
use Rattle.posting_core.specs.declared.once.OnceFault.TheVariants.{Short, Read, Write, Bank}
use Rattle.posting_rules.specs.believed.Commands.{Command, Post}
use Rattle.posting_rules.specs.believed.Entries.{reply}
use Rattle.posting_rules.specs.believed.Counter.{Seen, ShowsLog, Takes, IsSeenUnchanged, Refuses}

-- The reader's known bytes before and after are r and r', the writer's w and w', and the counter is seen as c
-- and c'.

-- the record was read and posted, and all of its reply was written
pub record RecordIsAnswered (r r' w w' : Option (List ℕ)) (c c' : Seen) (moment : ℕ) : Type 0 where
  pub bytes : List ℕ
  pub whole : length bytes ≡ REQUEST_BYTES
  pub read : Consumes r r' bytes
  pub takes : Takes c c' (Post moment bytes ∷ [])
  pub up : c'.is_down → ⊥
  pub written : c'.honest → (log : List Command) → ShowsLog c log
      → Appends w w' (reply_spelling (reply log bytes))

-- the input ended within a record: nothing was submitted, and nothing written
pub record EndsShort (r r' w w' : Option (List ℕ)) (c c' : Seen) : Type 0 where
  pub bytes : List ℕ
  pub few : length bytes < REQUEST_BYTES
  pub read : Consumes r r' bytes
  pub ended : IsAtEnd r'
  pub written : Keeps w w'
  pub unchanged : IsSeenUnchanged c c'

-- the reader failed: nothing was submitted, and nothing written
pub record IsUnread (w w' : Option (List ℕ)) (c c' : Seen) : Type 0 where
  pub written : Keeps w w'
  pub unchanged : IsSeenUnchanged c c'

-- the record was read and posted, and a prefix of its reply was written
pub record IsCutOff (r r' w w' : Option (List ℕ)) (c c' : Seen) (moment : ℕ) : Type 0 where
  pub bytes : List ℕ
  pub whole : length bytes ≡ REQUEST_BYTES
  pub read : Consumes r r' bytes
  pub takes : Takes c c' (Post moment bytes ∷ [])
  pub up : c'.is_down → ⊥
  pub count : ℕ
  pub written : c'.honest → (log : List Command) → ShowsLog c log
      → Appends w w' (take count (reply_spelling (reply log bytes)))

-- the counter refused the record, and nothing was written
pub record IsRefused (fault : Fault) (r r' w w' : Option (List ℕ)) (c c' : Seen) (moment : ℕ) : Type 0 where
  pub bytes : List ℕ
  pub whole : length bytes ≡ REQUEST_BYTES
  pub read : Consumes r r' bytes
  pub written : Keeps w w'
  pub refuses : Refuses fault c c' (Post moment bytes ∷ [])

-- what holds after each fault
abbrev pub LeavesAfterFault : OnceFault → Option (List ℕ) → Option (List ℕ) → Option (List ℕ)
    → Option (List ℕ) → Seen
    → Seen → ℕ → Type 0
LeavesAfterFault Short r r' w w' c c' moment = EndsShort r r' w w' c c'
LeavesAfterFault Read r r' w w' c c' moment = IsUnread w w' c c'
LeavesAfterFault Write r r' w w' c c' moment = IsCutOff r r' w w' c c' moment
LeavesAfterFault (Bank fault) r r' w w' c c' moment = IsRefused fault r r' w w' c c' moment

-- what the fault of the counter says
abbrev pub IfRefused : OnceFault → (Fault → Type 0) → Type 0
IfRefused (Bank fault) P = P fault
IfRefused _ P = ⊤
