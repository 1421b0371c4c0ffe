-- Which kept rows that were read aren't taken.
use Rattle.std.specs.Prelude.{◌≡◌, ℕ, true}
use Rattle.posting_rules.specs.declared.fault.Rule.{Rule}
use Rattle.posting_rules.specs.declared.fault.Rule.TheVariants.{Request}
use Rattle.walked_rows.specs.KeptRows.{KeptItem, kept_item}
use Rattle.walked_rows.specs.declared.kept.KeptRequest.{KeptRequest}
use Rattle.walked_rows.specs.Requests.{IsAnsweredRow}
use Rattle.bank_replays.specs.Writing.{is_after}

-- that of no request with its reply isn't digested
abbrev pub RefusesAnswered : Rule → KeptRequest → Type 0
RefusesAnswered rule row = (rule ≡ Request) × (IsAnsweredRow (kept_item row) → ⊥)

-- and one after the ordinal that is no such one isn't written
abbrev pub RefusesAfter : (KeptItem → Type 0) → ℕ → Rule → KeptRequest → Type 0
RefusesAfter Is after rule row = (rule ≡ Request) × (is_after after (kept_item row) ≡ true) × (Is (kept_item row) → ⊥)
