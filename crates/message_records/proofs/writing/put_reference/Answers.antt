use Rattle.std.proofs.Common.{◌++◌, List, ℕ, Option, ap, sym, ◌∙◌}
use Rattle.message_records.specs.believed.Spelling.{reference_text}
use Rattle.message_records.proofs.writing.put_reference.Goals as goal

pub returns-in-Some-clause-value : goal.returns-in-Some-clause-value
returns-in-Some-clause-value g c =
    c.put_text.ensures.value
    ∙ ap (λ (text : List ℕ). c.args.draft.now ++ text) c.text.ensures.value
    ∙ ap (λ (q : Option (List ℕ)). c.args.draft.now ++ reference_text q)
    (sym c.in-Some.is ∙ c.reference.ensures.value)
