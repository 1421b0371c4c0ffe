-- Two tests, of the text and of the spaces after it, are one.
use Rattle.std.proofs.Common.{sym, ◌∙◌}
use Rattle.message_records.proofs.Filled.{filled_where_spaces, filled_nowhere}
use Rattle.message_records.proofs.reading.is_filled.Goals as goal

pub returns-then-eq : goal.returns-then-eq
returns-then-eq c =
    c.eq-then-eq.ensures
    ∙ filled_where_spaces c.args.bytes.now c.args.text.now (sym c.eq.ensures ∙ c.if-eq.true)

pub returns-else-eq : goal.returns-else-eq
returns-else-eq c =
    c.if-eq.false
    ∙ filled_nowhere c.args.bytes.now c.args.text.now (sym c.eq.ensures ∙ c.if-eq.false)
