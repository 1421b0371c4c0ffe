-- Records that come again, where no branch was opened since.
use Rattle.std.specs.Prelude.{◌≡◌, ◌⊎◌, ℕ, List, [], ◌∷◌, ◌++◌, length, get_or}
use Rattle.message_records.specs.believed.Spelling.{reply_spelling}
use Rattle.posting_rules.specs.believed.Commands.{Command, Open, Post, Close, AreCommands}
use Rattle.posting_rules.specs.believed.Entries.{reply, decided}
use Rattle.posting_rules.specs.believed.Tables.{Tables, AreTablesOf}
use Rattle.posting_rules.specs.believed.Runs.{followed_by, replies_to, ArePosts}

-- a place where a record is among commands
pub record Place (bytes : List ℕ) (commands : List Command) : Type 0 where
  pub before : List Command
  pub moment : ℕ
  pub after : List Command
  pub is : commands ≡ before ++ Post moment bytes ∷ after

-- the kept commands are those of r, less some whose records are in p
abbrev pub Skips : List Command → List Command → List Command → Type 0
Skips p [] kept = kept ≡ []
Skips p (Open branch terms ∷ r) kept = ⊥
Skips p (Close first last ∷ r) kept = ⊥
Skips p (Post moment bytes ∷ r) kept = (Place bytes p × Skips p r kept) ⊎
    ((others : List Command) × (kept ≡ Post moment bytes ∷ others) × Skips p r others)

-- a record that is in p gets, after p and further posts q, the reply that it got in p, and is not
-- decided again
abbrev pub RepliesAgain : Type 0
RepliesAgain = (log p q : List Command) (moment : ℕ) (bytes : List ℕ) → (at : Place bytes p) → ArePosts p
    → ArePosts q
    → (reply (followed_by (followed_by log p) q) bytes ≡ reply (followed_by log at.before) bytes)
    × (decided (Post moment bytes ∷ followed_by (followed_by log p) q) ≡ decided (followed_by (followed_by log p) q))

-- so where posts r are taken after p, each of their records that is in p gets, at its place, the reply
-- that it got in p
abbrev pub RepliesInPlace : Type 0
RepliesInPlace = (log p r : List Command) (bytes : List ℕ) → (at : Place bytes p) → (again : Place bytes r)
    → ArePosts p → ArePosts r
    → get_or (replies_to (followed_by log p) r) (length again.before) [] ≡ reply_spelling
    (reply (followed_by log at.before) bytes)

-- tables that show p and then posts r show p and then r less the records that are in p
abbrev pub AddsOnce : Type 0
AddsOnce = (tables : Tables) (log p r added : List Command) → ArePosts p → ArePosts r → Skips p r added
    → AreTablesOf tables (followed_by (followed_by log p) r) → AreTablesOf tables (followed_by (followed_by log p) added)

-- and where the one is a log of commands of the bank, so is the other
abbrev pub KeepsCommands : Type 0
KeepsCommands = (log p r added : List Command) → Skips p r added → AreCommands (followed_by (followed_by log p) r)
    → AreCommands (followed_by (followed_by log p) added)
