-- The parts of the term decide it.
use Rattle.std.proofs.Common.{rules}
use Rattle.std.proofs.lemmas.Option.{slice_get_read}
use Rattle.store_rows.proofs.AsMade.{decides_term}
use Rattle.store_rows.proofs.definitions.is_id.Goals as goal

pub returns-in-Some-Binary : goal.returns-in-Some-Binary
returns-in-Some-Binary c =
    let parts = c.are_parts.ensures in
    decides_term c.args.ops.now c.args.root _ _ _ _ parts (search (rules, slice_get_read))
