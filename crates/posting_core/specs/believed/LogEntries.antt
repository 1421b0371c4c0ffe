-- The log of requests as bytes: an entry for each request that is kept.
use Rattle.std.specs.Prelude.{◌++◌, ℕ, List, [], ◌∷◌, map, if◌then◌else◌, length, take, drop, nat_le}
use Rattle.std.specs.Prelude.{Option, Some, None}
use Rattle.std.specs.Int.{to_be_bytes, w64}
use Rattle.message_records.specs.believed.Records.{ReplyFields, RequestFields}
use Rattle.message_records.specs.believed.Spelling.{reply_spelling, request_spelling}
use Rattle.posting_rules.specs.believed.Cases.{kept_reply}
use Rattle.posting_rules.specs.believed.Commands.{Command}
use Rattle.posting_rules.specs.believed.Entries.{DecidedRequest, decided, is_posted, kept_fields}
use Rattle.posting_core.specs.declared.followed.TheConstants.{ENTRIES_PER_ANSWER}
use Rattle.posting_core.specs.believed.Batches.{joined}

-- a request as it came, the reply that it got, and the moment of its posting, zero where it wasn't posted
pub record AnsweredRequest : Type 0 where
  pub request : RequestFields
  pub reply : ReplyFields
  pub moment : ℕ

-- ---- of a log

-- a decided request with the reply that it got, and the moment of its posting, zero where it wasn't posted
abbrev pub answered_of : DecidedRequest → AnsweredRequest
answered_of e = record {
  request = e.request;
  reply = kept_reply (kept_fields e) e.request;
  moment = if is_posted e then e.moment else 0;
}

-- decided requests, of which the newest comes first, the oldest first
abbrev pub each_answered : List DecidedRequest → List AnsweredRequest
each_answered [] = []
each_answered (e ∷ es) = each_answered es ++ answered_of e ∷ []

-- the requests of a log
abbrev pub answered_after : List Command → List AnsweredRequest
answered_after log = each_answered (decided log)

-- ---- as bytes

-- one request: its record, its reply, and the moment of its posting in eight bytes, the highest first
abbrev pub entry_of : AnsweredRequest → List ℕ
entry_of a = request_spelling a.request ++ (reply_spelling a.reply ++ to_be_bytes w64 a.moment)

-- some, one by one
abbrev pub entries_of : List AnsweredRequest → List (List ℕ)
entries_of requests = map entry_of requests

-- the entries of a log
abbrev pub log_entries : List Command → List (List ℕ)
log_entries log = entries_of (answered_after log)

-- ---- as they are handed out

-- one after another those that come after the first so many, up to 192; none where fewer are kept
unfoldable pub entries_given : List Command → ℕ → Option (List ℕ)
entries_given log after =
    if nat_le after (length (log_entries log))
    then Some (joined (take ENTRIES_PER_ANSWER (drop after (log_entries log)))) else None
