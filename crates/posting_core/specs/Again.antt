-- Records that come again in one call of a counter.
use Rattle.std.specs.Prelude.{◌≡◌, ℕ, List, [], length, get_or}
use Rattle.message_records.specs.believed.Spelling.{reply_spelling}
use Rattle.posting_rules.specs.believed.Commands.{Command}
use Rattle.posting_rules.specs.believed.Counter.{Seen, ShowsLog}
use Rattle.posting_rules.specs.believed.Entries.{reply}
use Rattle.posting_rules.specs.Resends.{Place, Skips}
use Rattle.posting_rules.specs.believed.Runs.{followed_by, ArePosts}

-- commands were given where a counter showed posts p after a log, and these are the replies
pub record AnswersAgain (c c' : Seen) (commands : List Command) (answers : List (List ℕ)) : Type 0 where
  -- a record that is in p gets the reply that it got there
  pub replies : c'.honest → (log p : List Command) → ArePosts p → ShowsLog c (followed_by log p)
      → (bytes : List ℕ) → (first : Place bytes p) → (again : Place bytes commands)
      → get_or answers (length again.before) [] ≡ reply_spelling (reply (followed_by log first.before) bytes)
  -- it shows p and then the commands less those that are in p, in their order
  pub tables : c'.honest → (log p added : List Command) → ArePosts p → Skips p commands added
      → ShowsLog c (followed_by log p) → ShowsLog c' (followed_by (followed_by log p) added)
