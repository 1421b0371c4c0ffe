-- The row is what its columns show.
use Rattle.walked_rows.proofs.ReferenceRead.{reference_is}
use Rattle.walked_rows.proofs.listed.StoredReferenceStoredRow.of.Goals as goal

pub returns-clause-is : goal.returns-clause-is
returns-clause-is c e is wide =
    reference_is e c.args.row.now is wide _ _ c.in_ok-whole_at.ensures.is c.in_ok-reference_at.ensures.is
