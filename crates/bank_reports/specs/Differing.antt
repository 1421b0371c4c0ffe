-- Requests that were posted once.
use Rattle.std.specs.Prelude.{◌≡◌, true}
use Rattle.std.specs.List.{AllPairs}
use Rattle.message_records.specs.believed.Outcomes.{has_balance}
use Rattle.posting_rules.specs.declared.rows.RequestRow.{RequestRow}
use Rattle.posting_rules.specs.believed.Tables.{Tables}

-- if both are posted, they have different tellers or different numbers
abbrev pub DifferIfPosted : RequestRow → RequestRow → Type 0
DifferIfPosted a b =
    has_balance a.decision.outcome ≡ true → has_balance b.decision.outcome ≡ true
    → a.teller ≡ b.teller → a.number ≡ b.number → ⊥

-- no two posted requests share teller and number
abbrev pub EachPostedOnce : Tables → Type 0
EachPostedOnce t = AllPairs DifferIfPosted t.requests
