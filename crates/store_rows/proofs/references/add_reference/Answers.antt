-- What the new row leaves.
use Rattle.std.proofs.Common.{◌≡◌, length, arith}
use Rattle.message_records.specs.declared.limits.TheConstants.{REFERENCE_BYTES}
use Rattle.store_rows.proofs.{Lookups.as_integer, LyingRows.reference_put, Writes.rows_put}
use Rattle.store_rows.proofs.references.add_reference.Goals as goal

pub returns-clause-adds : goal.returns-clause-adds
returns-clause-adds g c =
    let text = c.text-text.ensures in
    let long : length c.args.row.reference ≡ REFERENCE_BYTES = rw text.value at text.len in
    rows_put.reference c.args.row (omega arith) _ g.S.Store _ _ (omega arith) c.put_in.result
    (rw (as_integer _ _ c.get-key.ensures.value (omega arith), text.value) at c.put_in.ensures)

pub returns-clause-lies : goal.returns-clause-lies
returns-clause-lies g c =
    let text = c.text-text.ensures in
    let long : length c.args.row.reference ≡ REFERENCE_BYTES = rw text.value at text.len in
    reference_put g.S.Store _ _ c.put_in.result c.args.row (omega arith)
    (rw (as_integer _ _ c.get-key.ensures.value (omega arith), text.value) at c.put_in.ensures)
