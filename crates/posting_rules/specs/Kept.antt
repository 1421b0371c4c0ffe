-- What is kept of a decided request, as the code's types hold it.
use Rattle.std.specs.Prelude.{ℕ, ℤ, List, Option, Some, None}
use Rattle.std.specs.Prelude.{if◌then◌else◌}
use Rattle.std.specs.Option.{option_map}
use Rattle.message_records.specs.declared.records.Outcome.{Outcome}
use Rattle.posting_rules.specs.believed.Kept.{DecisionFields, KeptFields, is_kept_with, kept_with}

-- the decision of these fields, where they belong together
abbrev pub decision_from : ℕ → ℕ → ℤ → Outcome → ℤ → Option DecisionFields
decision_from account branch delta outcome balance =
    if is_kept_with outcome balance then Some (record {
      account = account;
      branch = branch;
      delta = delta;
      outcome = outcome;
      balance = balance;
    }) else None

-- the kept request of these fields, where they belong together
abbrev pub kept_from : ℕ → ℕ → ℤ → Outcome → ℤ → Option (List ℕ) → Option KeptFields
kept_from account branch delta outcome balance reference =
    option_map (kept_with reference) (decision_from account branch delta outcome balance)
