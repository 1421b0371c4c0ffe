-- What is read of a kept row is its entry.
use Rattle.std.proofs.Common.{◌≡◌, ◌∙◌, ℕ, ap}
use Rattle.std.specs.Prelude.{option_map}
use Rattle.message_records.specs.believed.Records.{ReplyFields, RequestFields}
use Rattle.posting_core.specs.believed.LogEntries.{AnsweredRequest, entry_of}
use Rattle.walked_rows.specs.{Came.CameAs, Came.GotReply, Came.moment_of, KeptRows.kept_item, Stored.posting_entry}
use Rattle.walked_rows.specs.{Requests.moment_under, Requests.reply_in, Requests.request_in}
use Rattle.walked_rows.specs.declared.kept.KeptRequest.{KeptRequest}
use Rattle.walked_rows.proofs.Came.{moment_back, reply_is, request_is}
use Rattle.bank_store.specs.KeptEntries.{answered_in, entry_in}

pub answered_same : (r r' : RequestFields) (y y' : ReplyFields) (m m' : ℕ) → r ≡ r' → y ≡ y' → m ≡ m'
    → (let it : AnsweredRequest = record { request = r; reply = y; moment = m } in it)
    ≡ record { request = r'; reply = y'; moment = m' }
answered_same r r' y y' m m' h0 h1 h2 = cc

-- a row with its moment
pub answered_is : (row : KeptRequest) (r : RequestFields) (y : ReplyFields) (m : ℕ) → CameAs row r → GotReply row r y
    → m ≡ moment_of row.posting
    → (let it : AnsweredRequest = record { request = r; reply = y; moment = m } in it) ≡ answered_in (kept_item row)
answered_is row r y m came got is =
    answered_same r (request_in (kept_item row)) y (reply_in (kept_item row)) m
    (moment_under (option_map posting_entry row.posting)) (request_is row r came) (reply_is row r came y got)
    (is ∙ moment_back row.posting)

-- with its bytes
pub entry_is : (row : KeptRequest) (r : RequestFields) (y : ReplyFields) (m : ℕ) → CameAs row r → GotReply row r y
    → m ≡ moment_of row.posting
    → entry_of (record { request = r; reply = y; moment = m }) ≡ entry_in (kept_item row)
entry_is row r y m came got is = ap entry_of (answered_is row r y m came got is)
