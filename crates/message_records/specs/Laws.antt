-- Each value has one spelling, and no spelling begins another.
use Rattle.std.specs.Prelude.{◌≡◌, ℕ, List, [], ◌++◌, Ok}
use Rattle.message_records.specs.believed.Records.{RequestFields, ReplyFields}
use Rattle.message_records.specs.Records.{IsRequest, IsReply}
use Rattle.message_records.specs.believed.Spelling.{request_spelling, reply_spelling}
use Rattle.message_records.specs.believed.Reading.{plain_request_of, request_of}
use Rattle.message_records.specs.Reading.{reply_of}

-- what was written is read again
abbrev pub RequestIsReadAgain : Type 0
RequestIsReadAgain = (r : RequestFields) → IsRequest r → request_of (request_spelling r) ≡ Ok r

abbrev pub ReplyIsReadAgain : Type 0
ReplyIsReadAgain = (r : ReplyFields) → IsReply r → reply_of (reply_spelling r) ≡ Ok r

-- a request that is read without a reference is read
abbrev pub PlainIsRequest : Type 0
PlainIsRequest = (bytes : List ℕ) (r : RequestFields) → plain_request_of bytes ≡ Ok r → request_of bytes ≡ Ok r

abbrev pub NoRequestBeginsAnother : Type 0
NoRequestBeginsAnother = (r s : RequestFields) (rest : List ℕ) → IsRequest r → IsRequest s
    → request_spelling r ++ rest ≡ request_spelling s → (r ≡ s) × (rest ≡ [])

abbrev pub NoReplyBeginsAnother : Type 0
NoReplyBeginsAnother = (r s : ReplyFields) (rest : List ℕ) → IsReply r → IsReply s → reply_spelling r ++ rest
    ≡ reply_spelling s → (r ≡ s) × (rest ≡ [])
