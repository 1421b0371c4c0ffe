-- Writing digits from the last one.
use Rattle.std.proofs.Common.{arith, ◌∙◌}
use Rattle.message_records.proofs.DraftedFields.{digit_step, digits_done}
use Rattle.message_records.proofs.draft.put_digits.Goals as goal

pub loop-place-preserved : goal.loop-place-preserved
loop-place-preserved c =
    digit_step _ c.loop-place.place c.loop-place.rest c.loop-place.out (omega arith) (omega arith)
    ∙ c.loop-place.invariant

pub returns : goal.returns
returns c = digits_done _ _ c.loop-place.place c.loop-place.rest (omega arith) c.loop-place.invariant
