-- How one batch of a stream is answered, wholly or in part, or refused.
use Rattle.std.specs.Prelude.{◌≡◌, ◌*◌, ℕ, List, length, take, Option}
use Rattle.std.specs.Io.KnownBytes.{Keeps, Appends}
use Rattle.message_records.specs.declared.limits.TheConstants.{REPLY_BYTES}
use Rattle.posting_rules.specs.declared.fault.Fault.{Fault}
use Rattle.posting_core.specs.declared.stream.StreamFault.{StreamFault}
use Rattle.posting_core.specs.declared.stream.StreamFault.TheVariants.{Truncated, Read, Write, Bank}
use Rattle.posting_rules.specs.believed.AnyTables.{AnswersByTables}
use Rattle.posting_rules.specs.believed.Commands.{Command}
use Rattle.posting_rules.specs.believed.Counter.{Seen, ShowsLog, Takes, Refuses}
use Rattle.posting_rules.specs.believed.Runs.{posts, replies_to}
use Rattle.posting_core.specs.believed.Batches.{joined}

-- ---- what became of the records of one batch, at a moment; w and w' are the writer's known bytes, c and c' what is
-- seen of the bank

-- the bank took them, and their replies were written
pub record BatchIsAnswered (w w' : Option (List ℕ)) (c c' : Seen) (moment : ℕ) (records : List (List ℕ)) : Type 0 where
  pub written : List ℕ
  pub wrote : Appends w w' written
  pub long : length written ≡ REPLY_BYTES * length records
  pub takes : Takes c c' (posts moment records)
  pub replies : c'.honest → (log : List Command) → ShowsLog c log
      → written ≡ joined (replies_to log (posts moment records))
  pub answers : List (List ℕ)
  pub by_tables : AnswersByTables c c' moment records answers
  pub texts : written ≡ joined answers

-- the bank took them, and a prefix of their replies was written
pub record IsAnsweredInPart (w w' : Option (List ℕ)) (c c' : Seen) (moment : ℕ) (records : List (List ℕ)) : Type 0 where
  pub written : List ℕ
  pub wrote : Appends w w' written
  pub takes : Takes c c' (posts moment records)
  pub replies : c'.honest → (log : List Command) → ShowsLog c log
      → written ≡ take (length written) (joined (replies_to log (posts moment records)))
  pub answers : List (List ℕ)
  pub by_tables : AnswersByTables c c' moment records answers
  pub texts : written ≡ take (length written) (joined answers)

-- the bank refused them, and nothing was written
pub record IsRefusedWhole (fault : Fault) (w w' : Option (List ℕ)) (c c' : Seen)
    (commands : List Command) : Type 0 where
  pub wrote : Keeps w w'
  pub refuses : Refuses fault c c' commands

-- what each fault says
abbrev pub BreaksOff : StreamFault → Option (List ℕ) → Option (List ℕ) → Seen → Seen → ℕ → List (List ℕ) → Type 0
BreaksOff Write w w' c c' moment records = IsAnsweredInPart w w' c c' moment records
BreaksOff (Bank fault) w w' c c' moment records = IsRefusedWhole fault w w' c c' (posts moment records)
BreaksOff Read w w' c c' moment records = ⊥
BreaksOff (Truncated n) w w' c c' moment records = ⊥
