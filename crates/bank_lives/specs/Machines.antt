-- Two banks: a leader, and a follower that has the first so many of its entries.
use Rattle.std.specs.Prelude.{◌≡◌, ◌⊎◌, ◌+◌, ◌≤◌, ℕ, List, [], ◌∷◌, take, drop, length, true, Some, Ok, AllPairs}
use Rattle.std.specs.List.{AllByRecursion}
use Rattle.message_records.specs.believed.Reading.{request_of}
use Rattle.message_records.specs.believed.Records.{RequestFields}
use Rattle.message_records.specs.believed.Spelling.{reply_spelling, request_spelling}
use Rattle.posting_rules.specs.Stated.{HasContent}
use Rattle.posting_rules.specs.believed.Commands.{AreCommands, Command, Post, is_teller_open, opened}
use Rattle.posting_rules.specs.believed.Entries.{decided, kept, reply}
use Rattle.posting_rules.specs.believed.Kept.{KeptFields}
use Rattle.posting_rules.specs.believed.Laws.{Differ, IsConsistent}
use Rattle.posting_rules.specs.believed.Runs.{ArePosts, followed_by}
use Rattle.posting_rules.specs.believed.Tables.{AreTablesOf, Tables}
use Rattle.posting_rules.specs.declared.limits.TheConstants.{MAX_DECIDED}
use Rattle.posting_core.specs.Entries.{record_text, reply_text}
use Rattle.posting_core.specs.believed.LogEntries.{AnsweredRequest, answered_after, log_entries}
use Rattle.posting_core.specs.believed.Stream.{posted_records}
use Rattle.posting_rules.specs.believed.Closings.{books_of, closings, is_closed_in}
use Rattle.posting_rules.specs.declared.judgments.Books.TheVariants.{Current}

-- the entries of the follower are the first so many of the leader
pub record Follows (leader follower : List Command) (n : ℕ) : Type 0 where
  pub leads : AreCommands leader
  pub follows : AreCommands follower
  pub same : log_entries follower ≡ take n (log_entries leader)

-- the request gets the reply that it got, and is not decided again
pub record IsAnsweredAgain (log : List Command) (a : AnsweredRequest) : Type 0 where
  pub replied : reply_spelling (reply log (record_text a)) ≡ reply_text a
  pub once : (moment : ℕ) → decided (Post moment (record_text a) ∷ log) ≡ decided log

-- so it is with the first so many requests of the leader, where they are sent to the follower
abbrev pub FirstAreAnsweredAgain : Type 0
FirstAreAnsweredAgain = (leader follower : List Command) (n : ℕ) → Follows leader follower n
    → AllByRecursion (IsAnsweredAgain follower) (take n (answered_after leader))

-- ---- who sends again what came after them

-- the record is no request of this one's teller with its number
abbrev pub IsOther : RequestFields → List ℕ → Type 0
IsOther r bytes = (x : RequestFields) → request_of bytes ≡ Ok x → x.teller ≡ r.teller → x.number ≡ r.number → ⊥

-- the request is among some records, and no other one of its teller with its number comes before it: so it is where
-- each teller's records come in the order in which the leader got them
abbrev pub ComesFirst : RequestFields → List (List ℕ) → Type 0
ComesFirst r [] = ⊥
ComesFirst r (bytes ∷ more) = (bytes ≡ request_spelling r) ⊎ (IsOther r bytes × ComesFirst r more)

-- the request is kept, with its content
abbrev pub KeepsRequest : List Command → RequestFields → Type 0
KeepsRequest log r = (k : KeptFields) × (kept (decided log) r.teller r.number ≡ Some k) × HasContent k r

-- the records of the leader after the first so many are sent, there are tellers and room for them, and no closed books
-- refuse them
pub record AreSentOn (leader follower : List Command) (n : ℕ) (sent : List Command) : Type 0 where
  pub posts : ArePosts sent
  pub come : AllByRecursion (λ a. ComesFirst a.request (posted_records sent)) (drop n (answered_after leader))
  pub open_tellers : AllByRecursion (λ a. is_teller_open (λ b. opened follower b) a.request.teller ≡ true)
      (drop n (answered_after leader))
  pub room : length (decided follower) + length sent ≤ MAX_DECIDED
  pub current : AllByRecursion (λ a. books_of (closings follower) a.request.teller a.request.number ≡ Current)
      (drop n (answered_after leader))

-- the log keeps each request of the leader, each once, and the sums of its tables agree
pub record HasAll (leader log : List Command) : Type 0 where
  pub keeps : AllByRecursion (λ a. KeepsRequest log a.request) (answered_after leader)
  pub once : AllPairs Differ (decided log)
  pub sums : (t : Tables) → AreTablesOf t log → IsConsistent t

-- so it is with a follower that goes on in the leader's place
abbrev pub LaterAreKept : Type 0
LaterAreKept = (leader follower : List Command) (n : ℕ) (sent : List Command) → Follows leader follower n
    → AreSentOn leader follower n sent → HasAll leader (followed_by follower sent)

-- ---- whose closed books are the leader's

-- The follower closed only what the leader had closed when it had decided no more than its first so many: so it is of a copy
-- of the leader's file, to which nothing but the leader's entries came, and of a bank that closed nothing.
pub record BeganAs (leader follower : List Command) (n : ℕ) : Type 0 where
  pub start : List Command
  pub later : List Command
  pub is : leader ≡ followed_by start later
  pub few : length (decided start) ≤ n
  pub closed : (x : ℕ) → is_closed_in (closings follower) x ≡ true → is_closed_in (closings start) x ≡ true

-- then it closed no number of the later requests, and isn't sealed where there is one
abbrev pub LaterAreCurrent : Type 0
LaterAreCurrent = (leader follower : List Command) (n : ℕ) → BeganAs leader follower n
    → AllByRecursion (λ a. books_of (closings follower) a.request.teller a.request.number ≡ Current)
    (drop n (answered_after leader))
