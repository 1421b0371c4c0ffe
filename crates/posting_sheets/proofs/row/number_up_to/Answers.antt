use Rattle.std.proofs.Common.{◌≤◌, ◌<◌, ◌^◌, ℕ, Option, Some, None, length, arith}
use Rattle.std.specs.Prelude.{IfSome}
use Rattle.std.proofs.Math.Nat.{pow-le-pow_right}
use Rattle.posting_sheets.proofs.row.number_up_to.Goals as goal

-- fewer digits write no more
below_more : (o : Option ℕ) (few most : ℕ) → few ≤ most → IfSome o (λ n. n < 10 ^ few)
    → IfSome o (λ n. n < 10 ^ most)
below_more None few most le h = tt
below_more (Some n) few most le h =
    let more : 10 ^ few ≤ 10 ^ most = pow-le-pow_right (omega arith) le in omega arith

pub returns-clause-below : goal.returns-clause-below
returns-clause-below c =
    below_more c.read_digits.result (length c.args.digits.now) c.args.most c.if-digits-most.false
    c.read_digits.ensures.below
