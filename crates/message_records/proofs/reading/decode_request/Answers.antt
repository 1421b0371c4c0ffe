-- What is read is spelled so, and what is spelled so is read.
use Rattle.std.proofs.Common.{rules, ◌∙◌}
use Rattle.message_records.proofs.Requests.{request_again, request_found}
use Rattle.message_records.proofs.reading.decode_request.Goals as goal

pub returns-clause-found : goal.returns-clause-found
returns-clause-found c = request_found c.args.bytes.now c.read_request.result
    (search rules) c.read_request.ensures

pub returns-clause-only : goal.returns-clause-only
returns-clause-only c = λ r h e. c.read_request.ensures ∙ request_again r c.args.bytes.now h e
