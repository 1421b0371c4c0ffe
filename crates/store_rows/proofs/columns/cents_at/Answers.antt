-- An amount beyond the limit breaks the rule.
use Rattle.std.proofs.Common.{◌≡◌, ◌<◌, ℕ, ℤ, Err, false, refl, arith}
use Rattle.std.specs.Option.{ok_or}
use Rattle.std.specs.Prelude.{nat_abs, nat_le}
use Rattle.std.proofs.lemmas.{Bool.Decides.nat_tests, Int.ints}
use Rattle.message_records.specs.believed.Ranges.{cents_within}
use Rattle.posting_rules.specs.declared.fault.Rule.{Rule}
use Rattle.store_rows.proofs.columns.cents_at.Goals as goal

beyond : (limit : ℕ) (rule : Rule) (z : ℤ) → limit < nat_abs z → ok_or (cents_within limit z) rule ≡ Err rule
beyond limit rule z over = let none : nat_le (nat_abs z) limit ≡ false = grind (arith, nat_tests) in rw none refl

pub returns-then-unsigned_abs-limit : goal.returns-then-unsigned_abs-limit
returns-then-unsigned_abs-limit c =
    rw c.in_ok-value.ensures
    (beyond c.args.limit c.args.rule c.in_ok-value.value (omega (arith, ints, c.unsigned_abs.ensures)))
