-- Up to twelve digits fit.
use Rattle.std.proofs.Common.{arith}
use Rattle.message_records.proofs.Digits.{most_of_twelve}
use Rattle.message_records.proofs.reading.read_digits.Goals as goal

pub overflow_mul-number : goal.overflow_mul-number
overflow_mul-number c =
    omega (
      arith,
      most_of_twelve c.loop-digit.number c.loop-digit.digit-index c.loop-digit.invariant.below
          (omega arith),
    )

pub overflow_add-number : goal.overflow_add-number
overflow_add-number c =
    omega (
      arith,
      most_of_twelve c.loop-digit.number c.loop-digit.digit-index c.loop-digit.invariant.below
          (omega arith),
    )

pub returns-clause-most : goal.returns-clause-most
returns-clause-most c =
    most_of_twelve c.loop-digit.number c.loop-digit.digit-index c.loop-digit.invariant.below (omega arith)
