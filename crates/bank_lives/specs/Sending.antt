-- A sender of records, who goes on after a crash.
use Rattle.std.specs.Prelude.{◌≡◌, ◌≤◌, ℕ, ◌+◌, List, [], ◌∷◌, length, take, drop, max, AllPairs}
use Rattle.posting_rules.specs.believed.Commands.{Command}
use Rattle.posting_rules.specs.believed.Counter.{Seen, StandsAt}
use Rattle.posting_rules.specs.believed.Entries.{decided}
use Rattle.posting_rules.specs.believed.Laws.{Differ}
use Rattle.posting_rules.specs.believed.Runs.{followed_by, posts, replies_to, ArePosts}
use Rattle.posting_core.specs.believed.Stream.{posted_records}
use Rattle.bank_lives.specs.believed.ManyLives.{Given}

-- they post the records of a list from a place on, at whatever moments
pub record SendsFrom (records : List (List ℕ)) (place : ℕ) (commands : List Command) : Type 0 where
  pub posts : ArePosts commands
  pub are : posted_records commands ≡ take (length commands) (drop place records)

-- In each life the sender went on from his first record that wasn't answered, or from a place before it; so
-- many at the front of his list were answered.
pub data Sends (records : List (List ℕ)) : List Given → ℕ → Type 0 where
  begins : Sends records [] 0
  goes_on : (life : Given) (lives : List Given) (answered place : ℕ) → Sends records lives answered
      → place ≤ answered → SendsFrom records place life.commands
      → Sends records (life ∷ lives) (max answered (place + life.least))

-- It shows the log and then posts of a prefix of the list, each record once, which holds all that were
-- answered; and so does whatever a crash leaves of it.
pub record FindsSent (seen : Seen) (log : List Command) (records : List (List ℕ)) (answered : ℕ) : Type 0 where
  pub posted : List Command
  pub first : SendsFrom records 0 posted
  pub holds : answered ≤ length posted
  pub stands : StandsAt seen (followed_by log posted)
  pub once : AllPairs Differ (decided (followed_by log posted))
  pub whole : length records ≤ answered → posted_records posted ≡ records
  -- whoever goes on gets the replies that he would have got
  pub replies : (place : ℕ) (commands : List Command) → place ≤ answered → SendsFrom records place commands
      → replies_to (followed_by log posted) commands
      ≡ take (length commands) (drop place (replies_to log (posts 0 records)))
