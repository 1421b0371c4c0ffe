-- What is kept of a decided request, under its teller and number.
use Rattle.std.specs.Prelude.{ℕ, ℤ, pos, List, Option, Bool, true, false, ◌&&◌, ◌||◌}
use Rattle.std.specs.Ordering.{int_eq}
use Rattle.message_records.specs.declared.records.Outcome.{Outcome}
use Rattle.message_records.specs.declared.records.Outcome.TheVariants.{Posted, WrongBranch, NoAccount}
use Rattle.message_records.specs.declared.records.Outcome.TheVariants.{BelowFloor, OverLimit}
use Rattle.message_records.specs.believed.Outcomes.{has_balance}

-- what was decided of a request
pub record DecisionFields : Type 0 where
  pub account : ℕ
  pub branch : ℕ
  pub delta : ℤ
  pub outcome : Outcome
  -- the balance of the reply, zero where it shows none
  pub balance : ℤ

-- and with the request's reference, all that is kept
pub record KeptFields : Type 0 where
  pub decision : DecisionFields
  -- none where the request has no reference
  pub reference : Option (List ℕ)

-- the outcomes that are kept
abbrev pub is_kept : Outcome → Bool
is_kept Posted = true
is_kept WrongBranch = true
is_kept NoAccount = true
is_kept BelowFloor = true
is_kept OverLimit = true
is_kept _ = false

-- only a posting has a balance
abbrev pub is_kept_with : Outcome → ℤ → Bool
is_kept_with outcome balance = is_kept outcome && (has_balance outcome || int_eq balance (pos 0))

abbrev pub kept_with : Option (List ℕ) → DecisionFields → KeptFields
kept_with reference decision = record { decision = decision; reference = reference }
