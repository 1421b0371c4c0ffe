-- An entry of a log as it is read.
use Rattle.std.specs.Prelude.{◌≡◌, ◌⊎◌, ◌≤◌, ◌==◌, ◌&&◌, ◌++◌, ℕ, Bool, true, false, if◌then◌else◌, List, [], ◌∷◌, map}
use Rattle.std.specs.Prelude.{Option, Some, None, ◌||◌}
use Rattle.std.specs.List.{AllByRecursion, list_any}
use Rattle.message_records.specs.Records.{IsReply, IsRequest}
use Rattle.message_records.specs.believed.Outcomes.{has_balance}
use Rattle.message_records.specs.believed.Ranges.{whole_within}
use Rattle.message_records.specs.believed.Records.{RequestFields}
use Rattle.message_records.specs.believed.Spelling.{reply_spelling, request_spelling}
use Rattle.message_records.specs.declared.limits.TheConstants.{MAX_MOMENT}
use Rattle.message_records.specs.declared.records.Outcome.{Outcome}
use Rattle.message_records.specs.declared.records.Outcome.TheVariants.{BelowFloor, NoAccount, OverLimit, Posted}
use Rattle.message_records.specs.declared.records.Outcome.TheVariants.{WrongBranch}
use Rattle.posting_rules.specs.believed.Commands.{Command, Open, Post, Close, Terms}
use Rattle.posting_rules.specs.believed.Runs.{followed_by, replies_to}
use Rattle.posting_core.specs.believed.LogEntries.{AnsweredRequest, answered_after, entries_of, entry_of, log_entries}
use Rattle.posting_core.specs.declared.entries.Entry.{Entry}

abbrev pub answered : Entry → AnsweredRequest
answered e = record { request = e.request; reply = e.reply; moment = e.moment }

-- a request with this outcome is kept
abbrev pub is_kept : Outcome → Bool
is_kept Posted = true
is_kept WrongBranch = true
is_kept NoAccount = true
is_kept BelowFloor = true
is_kept OverLimit = true
is_kept _ = false

-- a request, a reply that a kept one gets, and a moment, which is zero where it wasn't posted
pub record IsEntry (a : AnsweredRequest) : Type 0 where
  pub request : IsRequest a.request
  pub reply : IsReply a.reply
  pub kept : is_kept a.reply.outcome ≡ true
  pub moment : a.moment ≤ MAX_MOMENT
  pub zero : (has_balance a.reply.outcome ≡ true) ⊎ (a.moment ≡ 0)

-- no entry has these bytes
abbrev pub IsNoEntry : List ℕ → Type 0
IsNoEntry bytes = (a : AnsweredRequest) → IsEntry a → entry_of a ≡ bytes → ⊥

-- the moment of a request with this outcome, zero where it isn't posted; none where it can't be
abbrev pub moment_from : Outcome → ℕ → Option ℕ
moment_from outcome seconds =
    if (has_balance outcome || (seconds == 0)) then whole_within 0 MAX_MOMENT seconds else None

-- ---- entries that come after a log

-- a request of its teller with its number is among these
abbrev pub knows : List RequestFields → RequestFields → Bool
knows kept r = list_any (λ k. (k.teller == r.teller) && (k.number == r.number)) kept

-- those of some requests that are new after these, one by one
abbrev pub new_after : List RequestFields → List AnsweredRequest → List AnsweredRequest
new_after kept [] = []
new_after kept (a ∷ more) = if knows kept a.request then new_after kept more
    else a ∷ new_after (kept ++ a.request ∷ []) more

abbrev pub request_in : AnsweredRequest → RequestFields
request_in a = a.request

-- the requests that a log keeps, the oldest first
abbrev pub requests_of : List Command → List RequestFields
requests_of log = map request_in (answered_after log)

-- ---- commands that entries are

abbrev pub record_text : AnsweredRequest → List ℕ
record_text a = request_spelling a.request

abbrev pub reply_text : AnsweredRequest → List ℕ
reply_text a = reply_spelling a.reply

-- one that was posted is posted at its moment, and one that wasn't at any: no row has that
abbrev pub IsMomentOf : AnsweredRequest → ℕ → Type 0
IsMomentOf a moment = has_balance a.reply.outcome ≡ true → moment ≡ a.moment

-- each command opens a branch as planned, or posts the record of the next entry at its moment; all entries are posted
abbrev pub ArePostsOf : (ℕ → Option Terms) → List AnsweredRequest → List Command → Type 0
ArePostsOf planned entries [] = entries ≡ []
ArePostsOf planned entries (Open branch terms ∷ cs) = (planned branch ≡ Some terms) × ArePostsOf planned entries cs
ArePostsOf planned entries (Close first last ∷ cs) = ⊥
ArePostsOf planned [] (Post moment bytes ∷ cs) = ⊥
ArePostsOf planned (a ∷ more) (Post moment bytes ∷ cs) =
    (bytes ≡ record_text a) × IsMomentOf a moment × ArePostsOf planned more cs

-- the posts of entries, each of which gets the reply of its entry, add those that are new, byte for byte
abbrev pub EntriesAreAdded : Type 0
EntriesAreAdded = (planned : ℕ → Option Terms) (log commands : List Command) (entries : List AnsweredRequest)
    → AllByRecursion IsEntry entries → ArePostsOf planned entries commands
    → replies_to log commands ≡ map reply_text entries
    → log_entries (followed_by log commands)
    ≡ log_entries log ++ entries_of (new_after (requests_of log) entries)
