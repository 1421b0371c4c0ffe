use Rattle.std.proofs.Common.{rules}
use Rattle.message_records.proofs.reading.read_amount.Goals as goal

pub returns-in-45-clause-value : goal.returns-in-45-clause-value
returns-in-45-clause-value c = search rules
