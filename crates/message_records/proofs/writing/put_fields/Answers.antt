-- Five fields, one after another.
use Rattle.std.proofs.Common.{rules, ◌∙◌}
use Rattle.std.proofs.lemmas.Int.{to_z-of_z}
use mir.Val.{SFits}
use mir.Syntax.{w64}
use Rattle.message_records.proofs.Composed.{fields_put}
use Rattle.message_records.proofs.writing.put_fields.Goals as goal

pub returns-clause-value : goal.returns-clause-value
returns-clause-value g c =
    let fits : SFits w64 c.get-5.result = search rules in
    let amount = simp to_z-of_z at c.put_amount.ensures.value in
    fields_put c.args.request.now c.get.result c.get-2.result c.get-3.result c.get-4.result c.get-5.result
    c.args.draft.now c.put_number.new.self c.put_number-2.new.self c.put_number-3.new.self
    c.put_number-4.new.self c.put_amount.new.self
    (c.get.ensures.value ∙ c.account.ensures)
    (c.get-2.ensures.value ∙ c.teller.ensures)
    (c.get-3.ensures.value ∙ c.branch-request.ensures)
    (c.get-4.ensures.value ∙ c.number.ensures)
    (c.get-5.ensures.value ∙ c.delta.ensures.value)
    c.put_number.ensures.value c.put_number-2.ensures.value c.put_number-3.ensures.value
    c.put_number-4.ensures.value amount
