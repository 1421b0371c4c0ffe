-- Any number of lives, one after another, and what is found at last.
use Rattle.std.specs.Prelude.{◌≡◌, ◌≤◌, ℕ, List, [], ◌∷◌, length, take}
use Rattle.posting_rules.specs.believed.Commands.{Command, AreCommands}
use Rattle.posting_rules.specs.believed.Counter.{LeavesOnly, Seen, ShowsLog, StandsAt}
use Rattle.posting_rules.specs.believed.Runs.{followed_by}
use Rattle.posting_rules.specs.believed.Tables.{Tables, AreTablesOf}
use Rattle.bank_lives.specs.believed.Lives.{Life, EndsLife}

-- what one life was given, and how many of it, from the first on, a crash must leave
pub record Given : Type 0 where
  pub commands : List Command
  pub least : ℕ

-- It was opened on something that a crash leaves, and stands at whatever log that shows. Opens that failed before it, in
-- any number, left what they found: `open_over` of `bank_files` (`failed`).
pub record IsOpenedOn (last first : Seen) : Type 0 where
  pub remains : last.Remains
  pub left : last.left remains
  pub stands : (t : Tables) (log : List Command) → AreCommands log → last.found remains t → AreTablesOf t log
      → StandsAt first log

-- all that a crash may leave has the tables that it shows, as of a connection that was just opened
abbrev pub LeavesShown : Seen → Type 0
LeavesShown seen = (t : Tables) → seen.tables t → LeavesOnly seen (λ left. left ≡ t)

-- The log that the first life began at, the moment at which a life begins, and what the lives before it were
-- given, the last of them first.
pub data Lives {M : Type 0} (seen : M → Seen) : List Command → M → List Given → Type 0 where
  -- a bank that stands at a log: a new one at none, one of an earlier version that was carried over at the plain log
  -- of its file, one over the files of another store at the log at which `reopen` says that it was found
  found : (first : M) (log : List Command) → ((seen first).honest → StandsAt (seen first) log)
      → Lives seen log first []
  -- a file of anyone's that was opened and shows a log, as `replay` says of one that agrees: what was called between
  -- the two moments, the replay among it, was given nothing
  replayed : (opened first : M) (log : List Command) → LeavesShown (seen opened)
      → ((seen first).honest → ShowsLog (seen opened) log)
      → Life seen opened first [] 0 → ((seen first).is_down → ⊥) → Lives seen log first []
  -- the life before ended at this moment, with a release: it wasn't down
  released : (start : List Command) (before first : M) (life : Given) (lives : List Given)
      → Lives seen start before lives → Life seen before first life.commands life.least
      → ((seen first).is_down → ⊥) → Lives seen start first (life ∷ lives)
  -- it was stopped, on a disk that returns what was written, and this one was opened on what the crash left
  stopped : (start : List Command) (before now last first : M) (life : Given) (lives : List Given)
      → Lives seen start before lives → Life seen before now life.commands life.least
      → EndsLife (seen now) (seen last) → (seen last).honest → IsOpenedOn (seen last) (seen first)
      → Lives seen start first (life ∷ lives)

-- the log is that at which the first life began and then, life by life, a prefix of what was given that holds
-- all that was acknowledged
abbrev pub Outlasts : List Command → List Command → List Given → Type 0
Outlasts start log [] = log ≡ start
Outlasts start log (life ∷ lives) = (before : List Command) × Outlasts start before lives × (count : ℕ)
    × (life.least ≤ count) × (count ≤ length life.commands) × (log ≡ followed_by before (take count life.commands))

-- It shows such a log, and so does whatever a crash leaves of it.
pub record IsFoundAfter (seen : Seen) (start : List Command) (lives : List Given) : Type 0 where
  pub log : List Command
  pub keeps : Outlasts start log lives
  pub stands : StandsAt seen log

-- the tables show such a log
pub record ShowsAfter (start : List Command) (lives : List Given) (tables : Tables) : Type 0 where
  pub log : List Command
  pub keeps : Outlasts start log lives
  pub are : AreCommands log
  pub shows : AreTablesOf tables log
