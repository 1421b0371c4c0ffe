-- What answering the first record of a new bank reads and writes.
use Rattle.std.specs.Prelude.{◌≡◌, ◌<◌, ℕ, List, [], ◌∷◌, length, take, Option, None}
use Rattle.std.specs.Io.KnownBytes.{Keeps, Appends, Consumes, IsAtEnd}
use Rattle.message_records.specs.believed.Spelling.{reply_spelling}
use Rattle.posting_rules.specs.declared.fault.Fault.{Fault}
use Rattle.posting_rules.specs.declared.fault.Fault.TheVariants.{Memory}
use Rattle.posting_core.specs.declared.once.OnceFault.{OnceFault}
use Rattle.posting_core.specs.declared.once.OnceFault.TheVariants.{Short, Read, Write, Bank}
use Rattle.posting_rules.specs.believed.Commands.{Command, Open, opened_with}
use Rattle.posting_rules.specs.believed.Entries.{reply}

-- branch 1 is opened with three accounts, and then branch 2 with two, neither with a floor
abbrev pub two_branches : List Command
two_branches = Open 2 (opened_with 2 None) ∷ Open 1 (opened_with 3 None) ∷ []

-- The reader's known bytes before and after are r and r', the writer's w and w'.

-- 100 bytes are read, and the reply to them is written
pub record FirstIsAnswered (r r' w w' : Option (List ℕ)) : Type 0 where
  pub bytes : List ℕ
  pub whole : length bytes ≡ 100
  pub read : Consumes r r' bytes
  pub written : Appends w w' (reply_spelling (reply two_branches bytes))

-- the input ends before, and nothing is written
pub record FirstEndsShort (r r' w w' : Option (List ℕ)) : Type 0 where
  pub bytes : List ℕ
  pub few : length bytes < 100
  pub read : Consumes r r' bytes
  pub ended : IsAtEnd r'
  pub written : Keeps w w'

-- 100 bytes are read, and a prefix of the reply is written
pub record FirstIsCutOff (r r' w w' : Option (List ℕ)) : Type 0 where
  pub bytes : List ℕ
  pub whole : length bytes ≡ 100
  pub read : Consumes r r' bytes
  pub count : ℕ
  pub written : Appends w w' (take count (reply_spelling (reply two_branches bytes)))

-- memory was refused to the bank, and nothing is written
pub record LacksMemory (fault : Fault) (w w' : Option (List ℕ)) : Type 0 where
  pub memory : fault ≡ Memory
  pub written : Keeps w w'

-- what each fault leaves
abbrev pub FirstLeaves : OnceFault → Option (List ℕ) → Option (List ℕ) → Option (List ℕ) → Option (List ℕ)
    → Type 0
FirstLeaves Short r r' w w' = FirstEndsShort r r' w w'
FirstLeaves Read r r' w w' = Keeps w w'
FirstLeaves Write r r' w w' = FirstIsCutOff r r' w w'
FirstLeaves (Bank fault) r r' w w' = LacksMemory fault w w'
