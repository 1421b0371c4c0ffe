-- Earlier versions of a bank's file, and the log that each shows once it is carried over. A version differs from
-- the present one in what it knows of a command, so its tables are defined as the present ones are.
use Rattle.std.specs.Prelude.{◌≡◌, ◌↔◌, ◌≤◌, ◌==◌, ℕ, List, [], ◌∷◌, Option, None, Result, is_ok, if◌then◌else◌}
use Rattle.std.specs.Option.{option_map}
use Rattle.message_records.specs.declared.fault.Bad.{Bad}
use Rattle.message_records.specs.believed.Records.{RequestFields}
use Rattle.message_records.specs.believed.Reading.{plain_request_of, request_of}
use Rattle.posting_rules.specs.believed.Commands.{Command, Open, Post, Close, Terms, AreCommands, opened, opened_with}
use Rattle.posting_rules.specs.believed.Closings.{closings}
use Rattle.posting_rules.specs.believed.Entries.{DecidedRequest, with_record, decided}
use Rattle.posting_rules.specs.believed.Tables.{Tables, HasRows, AreTablesOf}

-- what a version knows of a command
pub record Edition : Type 0 where
  -- of what a branch is opened with
  pub terms : Terms → Terms
  -- of the bytes of a record
  pub reads : List ℕ → Result RequestFields Bad

-- a branch has a count of accounts alone, and no request has a reference
abbrev pub before_floors : Edition
before_floors = record { terms = λ terms. opened_with terms.accounts None; reads = λ b. plain_request_of b }

-- no request has a reference
abbrev pub before_references : Edition
before_references = record { terms = λ terms. terms; reads = λ b. plain_request_of b }

abbrev pub present : Edition
present = record { terms = λ terms. terms; reads = λ b. request_of b }

-- version 1 was before floors, and version 2 before references
abbrev pub edition : ℕ → Edition
edition version =
    if version == 1 then before_floors else if version == 2 then before_references else present

-- ---- the log of a file that is carried over

-- the commands with what the version knows of them, less the records that it couldn't read: they changed no
-- table, and now might
abbrev pub known : Edition → List Command → List Command
known e [] = []
known e (Open branch terms ∷ log) = Open branch (e.terms terms) ∷ known e log
known e (Post moment bytes ∷ log) =
    if is_ok (e.reads bytes) then Post moment bytes ∷ known e log else known e log
known e (Close first last ∷ log) = Close first last ∷ known e log

abbrev pub plain : ℕ → List Command → List Command
plain version log = known (edition version) log

-- ---- what a migration carries over

abbrev pub opened_in : Edition → List Command → ℕ → Option Terms
opened_in e log b = option_map e.terms (opened log b)

abbrev pub decided_in : Edition → List Command → List DecidedRequest
decided_in e [] = []
decided_in e (Open branch terms ∷ log) = decided_in e log
decided_in e (Post moment bytes ∷ log) =
    with_record moment (e.reads bytes) (λ b. opened_in e log b) (closings log) (decided_in e log)
decided_in e (Close first last ∷ log) = decided_in e log

-- the tables are those of the log in a file of the version
pub record AreTablesIn (version : ℕ) (tables : Tables) (log : List Command) : Type 0 where
  pub rows : HasRows tables (λ b. opened_in (edition version) log b) (closings log)
      (decided_in (edition version) log)

-- the tables of a log in a file of the version are the present ones of the log with what the version knows
abbrev pub CarriesOver : Type 0
CarriesOver = (version : ℕ) (t : Tables) (log : List Command)
    → AreTablesIn version t log ↔ AreTablesOf t (plain version log)

-- and what that shows is a log of the bank's commands
abbrev pub PlainAreCommands : Type 0
PlainAreCommands = (version : ℕ) (log : List Command) → AreCommands log → AreCommands (plain version log)

-- before floors there was none
abbrev pub HasNoFloors : Type 0
HasNoFloors = (t : Tables) (log : List Command) → AreTablesIn 1 t log → t.floors ≡ []

-- and before references there was none of these
abbrev pub HasNoReferences : Type 0
HasNoReferences = (version : ℕ) (t : Tables) (log : List Command) → 1 ≤ version → version ≤ 2
    → AreTablesIn version t log → t.references ≡ []

-- the present edition is the rule of this bank
abbrev pub IsPresent : Type 0
IsPresent = (log : List Command) → (decided_in present log ≡ decided log)
    × ((b : ℕ) → opened_in present log b ≡ opened log b)
