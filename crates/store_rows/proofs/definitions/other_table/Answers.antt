-- `meta` first, and the others after it.
use Rattle.std.proofs.Common.{inl, refl}
use Rattle.std.proofs.lemmas.Bool.Decides.{not_from_Decides}
use Rattle.sqlite.specs.Held.{state}
use Rattle.posting_rules.specs.declared.open_fault.BankTable.TheVariants.{Meta}
use Rattle.store_rows.proofs.AsMade.{after_first}
use Rattle.store_rows.proofs.definitions.other_table.Goals as goal

pub returns-then-not-is_as_made : goal.returns-then-not-is_as_made
returns-then-not-is_as_made g c =
    let same = c.schema-schema.ensures.value in
    inl (refl, not_from_Decides _ (rw same at c.is_as_made.ensures) (search c.if-not-is_as_made.true))

pub returns : goal.returns
returns g c =
    let same = c.schema-schema.ensures.value in
    let meta = rw same at c.is_as_made.ensures in
    after_first (state g.S.Store c.args.conn.now).now.schema Meta c.args.others.now c.first_other.result (meta.0 (search c.if-not-is_as_made.false)) (rw same at c.first_other.ensures)
