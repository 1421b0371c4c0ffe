use Rattle.std.proofs.Common.{rules}
use Rattle.message_records.proofs.numbers.Whole.new.Goals as goal

pub returns-else-value : goal.returns-else-value
returns-else-value g c = search rules
