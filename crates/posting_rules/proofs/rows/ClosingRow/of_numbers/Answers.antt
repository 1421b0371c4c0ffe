use Rattle.std.proofs.Common.{◌≡◌, ◌≤◌, ℕ, arith}
use Rattle.message_records.specs.declared.limits.TheConstants.{MAX_NUMBER, MAX_TELLER}
use Rattle.posting_rules.specs.believed.Commands.{IsRun, number_key}
use Rattle.posting_rules.proofs.rows.ClosingRow.of_numbers.Goals as goal

run_is : (t f l x y : ℕ) → x ≡ number_key t f → y ≡ number_key t l → 1 ≤ t → t ≤ MAX_TELLER → 1 ≤ f → f ≤ l
    → l ≤ MAX_NUMBER → IsRun x y
run_is t f l x y ex ey low high above ordered within = record {
  teller = t;
  teller_above = low;
  teller_within = high;
  above = omega (arith, ex, above);
  ordered = omega (arith, ex, ey, ordered);
  within = omega (arith, ey, within);
}

pub returns-clause-run : goal.returns-clause-run
returns-clause-run c =
    run_is c.args.teller c.args.first c.args.last c.number_key-2.result c.number_key.result
    c.number_key-2.ensures.value c.number_key.ensures.value c.number_key.ensures.teller.0
    c.number_key.ensures.teller.1 c.number_key-2.ensures.number.0 c.requires c.number_key.ensures.number.1
