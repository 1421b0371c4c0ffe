-- Records one after another: the tables that they lead to are those of the log with them after it.
use Rattle.std.proofs.Common.{◌≡◌, ℕ, suc, ◌<◌, ◌≤◌, List, [], ◌∷◌, length, get_or, Ok, Err, Result, refl, sym, ap}
use Rattle.std.proofs.Common.{◌∙◌, arith}
use Rattle.message_records.specs.declared.limits.TheConstants.{MAX_MOMENT, REQUEST_BYTES}
use Rattle.message_records.specs.declared.fault.Bad.{Bad}
use Rattle.message_records.specs.believed.{Records.RequestFields, Reading.request_of, Spelling.reply_spelling}
use Rattle.posting_rules.specs.believed.Commands.{Command, Post, AreCommands, opened}
use Rattle.posting_rules.specs.believed.Entries.{reply, reply_given, decided}
use Rattle.posting_rules.specs.believed.Runs.{followed_by, posts, replies_to}
use Rattle.posting_rules.specs.believed.Tables.{Tables, AreTablesOf as Show}
use Rattle.posting_rules.proofs.TablesWithRecord.{malformed_shown}
use Rattle.posting_rules.specs.believed.Changes.{tables_read, tables_past, tables_past_all, reply_read, reply_past}
use Rattle.posting_rules.specs.believed.Changes.{replies_past_all}
use Rattle.posting_rules.proofs.Calls.{posts as posts_shown, IsChange, replies}
use Rattle.posting_rules.specs.believed.Closings.{closings}

pub past_shown : (t : Tables) (log : List Command) (m : ℕ) (bytes : List ℕ) → Show t log
    → Show (tables_past t m bytes) (Post m bytes ∷ log)
past_shown t log m bytes shows = by_reading (request_of bytes) refl
  where
    by_reading : (x : Result RequestFields Bad) → request_of bytes ≡ x
        → Show (tables_read t m x) (Post m bytes ∷ log)
    by_reading (Ok r) read = posts_shown m bytes r read t log shows
    by_reading (Err fault) read = malformed_shown t log m bytes fault read shows

pub all_past : (t : Tables) (log : List Command) (m : ℕ) (records : List (List ℕ)) → Show t log
    → Show (tables_past_all t m records) (followed_by log (posts m records))
all_past t log m [] shows = shows
all_past t log m (bytes ∷ records) shows =
    all_past (tables_past t m bytes) (Post m bytes ∷ log) m records (past_shown t log m bytes shows)

-- posting them is a change that leads to them
pub posts_all : (m : ℕ) (records : List (List ℕ))
    → IsChange (λ t. tables_past_all t m records) (posts m records)
posts_all m records t log shows = all_past t log m records shows

-- the reply to a record by the tables is the reply after the log
pub past_reply : (t : Tables) (log : List Command) (bytes : List ℕ) → Show t log
    → reply_past t bytes ≡ reply_spelling (reply log bytes)
past_reply t log bytes shows = by_reading (request_of bytes) refl
  where
    by_reading : (x : Result RequestFields Bad) → request_of bytes ≡ x
        → reply_read t x ≡ reply_spelling (reply log bytes)
    by_reading (Ok r) read = replies t log bytes r read shows
    by_reading (Err fault) read = ap
        (λ (x : Result RequestFields Bad). reply_spelling (reply_given x (λ b. opened log b) (closings log) (decided log)))
        (sym read)

pub all_replies : (t : Tables) (log : List Command) (m : ℕ) (records : List (List ℕ)) → Show t log
    → replies_past_all t m records ≡ replies_to log (posts m records)
all_replies t log m [] shows = refl
all_replies t log m (bytes ∷ records) shows =
    ap (λ (out : List ℕ). out ∷ replies_past_all (tables_past t m bytes) m records)
    (past_reply t log bytes shows)
    ∙ ap (λ (rest : List (List ℕ)). reply_spelling (reply log bytes) ∷ rest)
    (all_replies (tables_past t m bytes) (Post m bytes ∷ log) m records (past_shown t log m bytes shows))

-- ---- one record more

-- records at a moment are commands of the bank
pub are_posts : (m : ℕ) (rs : List (List ℕ)) → m ≤ MAX_MOMENT
    → ((i : ℕ) → i < length rs → length (get_or rs i []) ≡ REQUEST_BYTES) → AreCommands (posts m rs)
are_posts m [] late whole = tt
are_posts m (r ∷ rs) late whole =
    ((late, whole 0 (omega arith)), are_posts m rs late (λ i lt. whole (suc i) (omega arith)))
