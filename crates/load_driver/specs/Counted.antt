-- How many of the replies to commands say that a request was posted.
use Rattle.std.specs.Prelude.{◌≡◌, ◌≤◌, ℕ, List, length, count_by}
use Rattle.posting_rules.specs.believed.{AnyTables.AnswersByTables, Commands.Command, Runs.posts}
use Rattle.posting_rules.specs.believed.Counter.{Seen, ShowsLog, Takes}
use Rattle.load_driver.specs.believed.Records.{is_posted, posted_among}

-- the counter took the records, and so many of them were posted, as its replies say
pub record IsCounted (c c' : Seen) (moment : ℕ) (records : List (List ℕ)) (posted : ℕ) : Type 0 where
  pub takes : Takes c c' (posts moment records)
  pub few : posted ≤ length (posts moment records)
  pub posted_is : c'.honest → (log : List Command) → ShowsLog c log
      → posted ≡ posted_among log (posts moment records)
  pub replies : List (List ℕ)
  pub by_tables : AnswersByTables c c' moment records replies
  pub counted : posted ≡ count_by is_posted replies
