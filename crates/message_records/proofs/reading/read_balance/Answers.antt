use Rattle.std.proofs.Common.{◌≡◌, ◌≢◌, ◌∷◌, List, ℕ, Ok, None, true, refl, replicate, rules}
use Rattle.std.specs.Str.{bytes_eq}
use Rattle.message_records.specs.{declared.records.Outcome.Outcome, Reading.balance_of}
use Rattle.message_records.specs.declared.records.Outcome.TheVariants.{Posted}
use Rattle.message_records.proofs.reading.read_balance.Goals as goal

-- zeros are the balance of a request that isn't posted
no_balance : (o : Outcome) (bytes : List ℕ) → o ≢ Posted → true ≡ bytes_eq bytes (43 ∷ replicate 12 48)
    → Ok None ≡ balance_of o bytes
no_balance Posted bytes other zeros = absurd (other refl)
no_balance _ bytes other zeros = rw (← zeros) refl

pub returns-in_ok-expect_text-in_default : goal.returns-in_ok-expect_text-in_default
returns-in_ok-expect_text-in_default c = record {
  value = no_balance c.args.outcome c.args.bytes.now c.in_default.not-Posted
      c.in_ok-expect_text-in_default.ensures.same;
  shown = search rules;
}
