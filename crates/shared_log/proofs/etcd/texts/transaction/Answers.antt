-- Its parts, one after another.
use Rattle.std.proofs.Common.{◌∙◌}
use Rattle.shared_log.proofs.Parts.{three_parts}
use Rattle.shared_log.proofs.etcd.texts.transaction.Goals as goal

pub returns : goal.returns
returns c =
    three_parts c.args.name.now c.args.place c.args.entries.now _ _ _ _ _ _ _ c.new-text.ensures.items
    (c.as_slice.ensures.value ∙ c.in_ok-end.ensures) (c.as_slice-2.ensures.value ∙ c.in_ok-digits.ensures)
    (c.as_slice-3.ensures.value ∙ c.in_ok-key.ensures) c.in_ok-add_compare.ensures c.in_ok-add_puts.ensures
    c.in_ok-add_range.ensures
