-- Which records a drive submits, and how many of them are posted.
use Rattle.std.specs.Prelude.{◌≡◌, ◌≤◌, ◌+◌, ℕ, zero, suc, List, [], ◌∷◌, ◌++◌, length, Option, Some, None}
use Rattle.std.specs.Prelude.{Bool, bytes_eq, codes, if◌then◌else◌, slice_range}
use Rattle.message_records.specs.believed.Outcomes.{has_balance}
use Rattle.message_records.specs.believed.Spelling.{request_spelling}
use Rattle.posting_rules.specs.believed.Commands.{Command, Open, Post, Close, opened, Terms}
use Rattle.posting_rules.specs.believed.Entries.{reply}
use Rattle.posting_core.specs.believed.Batches.{Batch}
use Rattle.branch_loader.specs.believed.Plans.{Rows}
use Rattle.load_driver.specs.believed.Requests.{request_at}
use Rattle.posting_rules.specs.declared.limits.TheConstants.{LAST_BRANCH, RECORDS_PER_BATCH}

-- the row of a branch that is open on these terms, if it is
abbrev pub row_if_open : ℕ → Option Terms → Rows
row_if_open branch None = []
row_if_open branch (Some terms) = (branch, terms.accounts, terms.floor) ∷ []

-- the open branches up to this one, ascending
unfoldable pub open_up_to : List Command → ℕ → Rows
open_up_to log zero = []
open_up_to log (suc n) = open_up_to log n ++ row_if_open (suc n) (opened log (suc n))

-- the open branches of a log, ascending, each with what it was opened with
abbrev pub open_branches : List Command → Rows
open_branches log = open_up_to log LAST_BRANCH

-- ---- the records

-- so many records that ascending rows and a seed draw, from this one on
unfoldable pub drawn : Rows → ℕ → ℕ → ℕ → List (List ℕ)
drawn rows seed from zero = []
drawn rows seed from (suc n) =
    drawn rows seed from n ++ request_spelling (request_at rows seed (from + n)) ∷ []

-- the first so many
abbrev pub first_drawn : Rows → ℕ → ℕ → List (List ℕ)
first_drawn rows seed n = drawn rows seed 0 n

-- a batch has 64 records, and fewer where none comes after it
abbrev pub IsFull : Batch → List Batch → Type 0
IsFull batch [] = (1 ≤ length batch.records) × (length batch.records ≤ RECORDS_PER_BATCH)
IsFull batch (next ∷ batches) = length batch.records ≡ RECORDS_PER_BATCH

-- each batch has 64 records, but the last one may have fewer
abbrev pub AreFull : List Batch → Type 0
AreFull [] = Unit {0}
AreFull (batch ∷ batches) = IsFull batch batches × AreFull batches

-- ---- the replies

-- how many of the posts, each after those before it, are replied to with POSTED
unfoldable pub posted_among : List Command → List Command → ℕ
posted_among log [] = 0
posted_among log (Open branch count ∷ commands) = posted_among (Open branch count ∷ log) commands
posted_among log (Close first last ∷ commands) = posted_among (Close first last ∷ log) commands
posted_among log (Post moment bytes ∷ commands) =
    (if has_balance (reply log bytes).outcome then 1 else 0) + posted_among (Post moment bytes ∷ log) commands

-- the outcome after the tag of a reply is that of a posting
abbrev pub is_posted : List ℕ → Bool
is_posted reply = bytes_eq (slice_range reply 4 6) (codes "00")
