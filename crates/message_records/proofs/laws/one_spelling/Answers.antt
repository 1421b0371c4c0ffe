-- The laws of the spellings.
use Rattle.std.proofs.Common.{refl}
use Rattle.message_records.specs.believed.Spelling.{request_spelling, reply_spelling}
use Rattle.message_records.proofs.{Requests.request_again, Requests.plain_is_request, SpelledReplies.reply_again}
use Rattle.message_records.proofs.Prefixes.{no_request_begins, no_reply_begins}
use Rattle.message_records.proofs.laws.one_spelling.Goals as goal

pub returns : goal.returns
returns c = record {
  requests_are_read_again = λ r h. request_again r (request_spelling r) h refl;
  replies_are_read_again = λ r h. reply_again r (reply_spelling r) h refl;
  plain_is_request = plain_is_request;
  no_request_begins_another = no_request_begins;
  no_reply_begins_another = no_reply_begins;
}
