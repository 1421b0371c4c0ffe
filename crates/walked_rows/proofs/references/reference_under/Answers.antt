-- What is found is the row under the ordinal.
use Rattle.std.proofs.Common.{arith, ◌≡◌, pos, refl, w64, to_z}
use Rattle.sqlite.specs.Held.{state}
use Rattle.store_rows.proofs.Lookups.{as_integer}
use Rattle.std.proofs.lemmas.Result.{IfErr-weaker}
use Rattle.walked_rows.proofs.Causes.{cause_here, first_rows, no_cause}
use Rattle.walked_rows.proofs.Leaving.{fails_too, reads_any}
use Rattle.walked_rows.proofs.ReferenceRead.{only_references, tells_failure, tells_reference}
use Rattle.walked_rows.proofs.references.reference_under.Goals as goal

pub rows_shown-requires-clause-only : goal.rows_shown-requires-clause-only
rows_shown-requires-clause-only g c = only_references

pub returns-in-Ok-clause-answers : goal.returns-in-Ok-clause-answers
returns-in-Ok-clause-answers g c clean all has =
    let n = c.args.ordinal in
    let same : to_z w64 n ≡ pos n = as_integer n n refl (omega (arith, c.requires)) in
    tells_reference (state g.S.Store c.args.conn.now) (state g.S.Store c.rows_shown.new.conn) all has n
    c.in-Ok.found.items (rw (c.params-to_sql.ensures, same) at (c.in-Ok.ensures.shown clean))
    c.first_reference.result (rw c.deref.ensures.value at c.first_reference.ensures)

pub returns-in-Ok-clause-reads : goal.returns-in-Ok-clause-reads
returns-in-Ok-clause-reads g c = reads_any c.in-Ok.ensures.reads c.first_reference.result

pub returns-in-Ok-clause-cause : goal.returns-in-Ok-clause-cause
returns-in-Ok-clause-cause g c clean =
    IfErr-weaker c.first_reference.result _ _ (no_cause g.S.Store c.args.conn.now c.rows_shown.new.conn)
    (first_rows c.deref.result.now c.first_reference.result c.first_reference.ensures)

pub returns-in-Err-clause-cause : goal.returns-in-Err-clause-cause
returns-in-Err-clause-cause g c clean =
    cause_here g.S.Store c.args.conn.now c.rows_shown.new.conn c.in-Err.e (c.in-Err.ensures.failed clean)

pub returns-in-Err-clause-reads : goal.returns-in-Err-clause-reads
returns-in-Err-clause-reads g c = fails_too c.in-Err.ensures.reads

pub returns-in-Err-clause-answers : goal.returns-in-Err-clause-answers
returns-in-Err-clause-answers g c clean all has =
    let n = c.args.ordinal in
    let same : to_z w64 n ≡ pos n = as_integer n n refl (omega (arith, c.requires)) in
    tells_failure (state g.S.Store c.args.conn.now) (state g.S.Store c.rows_shown.new.conn) all has n
    c.in-Err.e (rw (c.params-to_sql.ensures, same) at (c.in-Err.ensures.shown clean))
