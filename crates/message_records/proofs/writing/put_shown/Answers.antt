-- Zeros are the fields of no request.
use Rattle.std.proofs.Common.{◌++◌, List, ℕ, ap, sym, ◌∙◌}
use Rattle.std.specs.Prelude.{Option, unwrap_or}
use Rattle.message_records.specs.believed.{Records.RequestFields, Spelling.no_fields, Spelling.fields_spelling}
use Rattle.message_records.proofs.Composed.{no_fields_spelled}
use Rattle.message_records.proofs.writing.put_shown.Goals as goal

pub returns-in-None-clause-value : goal.returns-in-None-clause-value
returns-in-None-clause-value g c =
    c.put_text.ensures.value
    ∙ ap (λ (t : List ℕ). c.args.draft.now ++ t) (sym no_fields_spelled)
    ∙ ap (λ (q : Option RequestFields). c.args.draft.now ++ fields_spelling (unwrap_or q no_fields))
    (sym c.in-None.is)
