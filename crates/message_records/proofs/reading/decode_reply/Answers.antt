-- What is read is spelled so, and what is spelled so is read.
use Rattle.std.proofs.Common.{rules, ◌∙◌}
use Rattle.message_records.proofs.{SpelledReplies.reply_again, ReadReplies.reply_found}
use Rattle.message_records.proofs.reading.decode_reply.Goals as goal

pub returns-clause-found : goal.returns-clause-found
returns-clause-found c = reply_found c.args.bytes.now c.read_reply.result (search rules) c.read_reply.ensures

pub returns-clause-only : goal.returns-clause-only
returns-clause-only c = λ r h e. c.read_reply.ensures ∙ reply_again r c.args.bytes.now h e
