-- Tables in which each row that a call looks for is found.
use Rattle.posting_rules.specs.believed.Damage.{IsUndamaged}
use Rattle.posting_rules.specs.believed.Tables.{Tables, HasKeys, branch_key, teller_key, account_key}
use Rattle.posting_rules.specs.believed.Tables.{history_key, request_key, floor_key, reference_key}

-- nothing is damaged, and no two rows of a table have one key
pub record AreSound (t : Tables) : Type 0 where
  pub undamaged : IsUndamaged t
  pub branches : HasKeys branch_key t.branches
  pub tellers : HasKeys teller_key t.tellers
  pub accounts : HasKeys account_key t.accounts
  pub history : HasKeys history_key t.history
  pub requests : HasKeys request_key t.requests
  pub floors : HasKeys floor_key t.floors
  pub references : HasKeys reference_key t.references
