-- A row that is put in, and the rows that a posting changes.
use Rattle.std.specs.Prelude.{◌≡◌}
use Rattle.std.specs.Prelude.{IsSome}
use Rattle.posting_rules.specs.believed.Tables.{Tables, branch_key, teller_key, account_key}
use Rattle.posting_rules.specs.believed.Tables.{closing_key, row_at}
use Rattle.posting_rules.specs.declared.rows.TellerRow.{TellerRow}
use Rattle.posting_rules.specs.declared.rows.AccountRow.{AccountRow}
use Rattle.posting_rules.specs.declared.rows.ClosingRow.{ClosingRow}
use Rattle.message_records.specs.believed.Records.{RequestFields}
use Rattle.posting_rules.specs.believed.Numbering.{branch_of_teller}
use Rattle.posting_rules.specs.believed.Changes.{row_put}

-- a teller more
unfoldable pub with_teller : TellerRow → Tables → Tables
with_teller r t = record t { tellers = row_put teller_key r t.tellers }

-- an account more
unfoldable pub with_account : AccountRow → Tables → Tables
with_account r t = record t { accounts = row_put account_key r t.accounts }

-- closed numbers more
unfoldable pub with_closing : ClosingRow → Tables → Tables
with_closing r t = record t { closings = row_put closing_key r t.closings }

-- the rows that a posting changes are there
pub record HasRowsOf (t : Tables) (r : RequestFields) : Type 0 where
  pub account : IsSome (row_at account_key t.accounts r.account)
  pub teller : IsSome (row_at teller_key t.tellers r.teller)
  pub branch : IsSome (row_at branch_key t.branches r.branch)
  pub its_branch : r.branch ≡ branch_of_teller r.teller
