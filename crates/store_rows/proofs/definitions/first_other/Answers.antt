-- The first that isn't as made, or none.
use Rattle.std.proofs.Common.{◌≡◌, length, arith}
use Rattle.std.proofs.Math.Seq.{take-length}
use Rattle.std.proofs.lemmas.Option.{get_or_from_slice_get}
use Rattle.std.proofs.lemmas.Bool.Decides.{not_from_Decides}
use Rattle.sql_meanings.proofs.Places.{some_at}
use Rattle.posting_rules.specs.declared.open_fault.BankTable.TheVariants.{Meta}
use Rattle.store_rows.proofs.AsMade.{found_other}
use Rattle.store_rows.proofs.definitions.first_other.Goals as goal

pub returns-then-not-is_as_made : goal.returns-then-not-is_as_made
returns-then-not-is_as_made c =
    let ts = c.args.tables.now in
    let at = c.loop-table.table-index in
    let here = some_at ts at (omega (arith, c.loop-table-test.true)) in
    let same = get_or_from_slice_get ts at here.0 Meta here.1 in
    found_other c.args.schema.now ts at _ (rw same here.1) c.loop-table.invariant
    (not_from_Decides _ c.is_as_made.ensures (search c.if-not-is_as_made.true))

pub returns : goal.returns
returns c =
    let ts = c.args.tables.now in
    let all : c.loop-table.table-index ≡ length ts =
    omega (arith, c.loop-table-test.false, c.loop-table.auto.table-index-end) in
    rw (take-length ts) at (rw all at c.loop-table.invariant)
