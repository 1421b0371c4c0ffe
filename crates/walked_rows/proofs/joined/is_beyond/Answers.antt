-- A key below where the others follow is decided.
use Rattle.std.proofs.Common.{rules}
use Rattle.walked_rows.proofs.joined.is_beyond.Goals as goal

pub returns-in-Some-clause-decided : goal.returns-in-Some-clause-decided
returns-in-Some-clause-decided c = search rules
