-- A bank that got the requests which another one kept.
use Rattle.std.specs.Prelude.{◌≡◌, ℕ, List, drop, length, map}
use Rattle.message_records.specs.believed.Spelling.{request_spelling}
use Rattle.posting_core.specs.believed.Stream.{posted_records}
use Rattle.posting_rules.specs.believed.Commands.{AreCommands, Command, opened}
use Rattle.posting_rules.specs.believed.Entries.{DecidedRequest, decided}
use Rattle.posting_rules.specs.believed.Runs.{ArePosts, followed_by}
use Rattle.posting_core.specs.believed.LogEntries.{answered_after, AnsweredRequest}
use Rattle.posting_rules.specs.believed.Closings.{books_of, closings}
use Rattle.posting_rules.specs.declared.judgments.Books.TheVariants.{Current}

-- a decided request, its moment aside
abbrev pub unmoved : DecidedRequest → DecidedRequest
unmoved e = record e { moment = 0 }

-- two logs have the same decided requests, moments aside, and opened the same branches with the same terms
pub record AreAlike (log other : List Command) : Type 0 where
  pub requests : map unmoved (decided log) ≡ map unmoved (decided other)
  pub branches : (b : ℕ) → opened log b ≡ opened other b

-- a number that the second closed the first closed too, and the second is sealed only where the first is: so it is of one
-- that closed none
abbrev pub ClosesNoMore : (log other : List Command) → Type 0
ClosesNoMore log other = (t n : ℕ) → books_of (closings log) t n ≡ Current → books_of (closings other) t n ≡ Current

-- its record
abbrev pub record_of : AnsweredRequest → List ℕ
record_of a = request_spelling a.request

-- the records of the requests that a log decided after its first so many
abbrev pub records_since : ℕ → List Command → List (List ℕ)
records_since count log = map record_of (drop count (answered_after log))

-- Where two banks were alike, and one was given posts, and the other, which closed no more numbers, posts of the records
-- that the first decided of them, in order and at whatever moments, they are alike again.
abbrev pub GivesBack : Type 0
GivesBack = (first second posted again : List Command) → AreAlike first second → ClosesNoMore first second
    → AreCommands posted → ArePosts posted → ArePosts again → posted_records again ≡ records_since (length (decided first)) (followed_by first posted)
    → AreAlike (followed_by first posted) (followed_by second again)
