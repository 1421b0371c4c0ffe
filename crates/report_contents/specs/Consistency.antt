-- The consistency condition (TPC-B clause 2) on tables as a file has them, and that an audit says so.
use Rattle.std.specs.Prelude.{◌≡◌, ℕ, true, map}
use Rattle.std.specs.List.{AllByRecursion}
use Rattle.posting_rules.specs.believed.Laws.{total, IsConsistent}
use Rattle.posting_rules.specs.believed.Tables.{Tables, HasKeys, history_key, request_key}
use Rattle.report_contents.specs.Stored.{StoredTables, stored}
use Rattle.report_contents.specs.Audit.{audit_of, is_sound, is_matched, request_under, posting_under, teller_sum}
use Rattle.report_contents.specs.Audit.{branch_balance, teller_balance, account_balance, delta_of}
use Rattle.report_contents.specs.Audit.{request_ordinal, posting_ordinal}

pub record IsSoundFile (t : StoredTables) : Type 0 where
  -- accounts, tellers and branches have one sum
  pub tellers : total (map teller_balance t.tellers) ≡ total (map account_balance t.accounts)
  pub branches : total (map branch_balance t.branches) ≡ total (map account_balance t.accounts)
  -- each branch has the sum of its tellers
  pub each_branch : AllByRecursion (λ r. teller_sum t.tellers r.branch ≡ r.balance) t.branches
  -- history has a row for each posted request and no other
  pub matched : (o : ℕ) → is_matched (request_under t o) (posting_under t o) ≡ true
  -- the deltas of history have that sum too
  pub history : total (map delta_of t.history) ≡ total (map account_balance t.accounts)

-- no two rows have one ordinal
pub record HasOrdinals (t : StoredTables) : Type 0 where
  pub requests : HasKeys request_ordinal t.requests
  pub history : HasKeys posting_ordinal t.history

-- the audit says that tables are consistent exactly where they are
abbrev pub TellsOfStored : Type 0
TellsOfStored = (t : StoredTables) → HasOrdinals t → (is_sound (audit_of t) ≡ true → IsSoundFile t)
    × (IsSoundFile t → is_sound (audit_of t) ≡ true)

-- so it does of the tables of a bank
abbrev pub TellsOfTables : Type 0
TellsOfTables = (t : Tables) → HasKeys history_key t.history → HasKeys request_key t.requests
    → (is_sound (audit_of (stored t)) ≡ true → IsConsistent t)
    × (IsConsistent t → is_sound (audit_of (stored t)) ≡ true)
