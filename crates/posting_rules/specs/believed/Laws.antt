-- What holds of every log: the consistency condition (TPC-B clause 2) and what else a banker relies on.
use Rattle.std.specs.Prelude.{◌≡◌, ℕ, ℤ, pos, ◌+ℤ◌, List, [], ◌∷◌, map, filter, Option}
use Rattle.std.specs.Prelude.{Some, None, true, ◌==◌, ◌&&◌, nat_le, AllPairs}
use Rattle.std.specs.List.{AllByRecursion}
use Rattle.message_records.specs.believed.Outcomes.{has_balance}
use Rattle.posting_rules.specs.declared.rows.TellerRow.{TellerRow}
use Rattle.posting_rules.specs.declared.rows.HistoryRow.{HistoryRow}
use Rattle.posting_rules.specs.declared.rows.RequestRow.{RequestRow}
use Rattle.posting_rules.specs.believed.Commands.{Command}
use Rattle.posting_rules.specs.believed.Numbering.{branch_of_teller}
use Rattle.posting_rules.specs.believed.Entries.{DecidedRequest, decided}
use Rattle.posting_rules.specs.believed.Tables.{Tables, AreTablesOf, row_at, history_key, request_key}
use Rattle.posting_rules.specs.believed.LookUps.{balance_of_branch, balance_of_teller, balance_of_account}

-- ---- each request once

-- two decided requests have different tellers or different numbers
abbrev pub Differ : DecidedRequest → DecidedRequest → Type 0
Differ d e = d.request.teller ≡ e.request.teller → d.request.number ≡ e.request.number → ⊥

-- no two decided requests share teller and number
abbrev pub NoneShares : Type 0
NoneShares = (log : List Command) → AllPairs Differ (decided log)

-- ---- the consistency condition, on tables alone

abbrev pub total : List ℤ → ℤ
total [] = pos 0
total (z ∷ zs) = z +ℤ total zs

abbrev pub delta_of : HistoryRow → ℤ
delta_of r = r.delta

-- the tellers that a branch's number gives; there is no teller 0
abbrev pub tellers_of : ℕ → List TellerRow → List TellerRow
tellers_of b rows = filter (λ r. nat_le 1 r.teller && (branch_of_teller r.teller == b)) rows

-- under an ordinal there is neither a posted request nor a row of history, or there are both, and they agree
abbrev pub Match : Option RequestRow → Option HistoryRow → Type 0
Match None None = Unit {0}
Match (Some r) None = has_balance r.decision.outcome ≡ true → ⊥
Match None (Some h) = ⊥
Match (Some r) (Some h) = (has_balance r.decision.outcome ≡ true) × (h.account ≡ r.decision.account) ×
    (h.teller ≡ r.teller) × (h.branch ≡ r.decision.branch) × (h.delta ≡ r.decision.delta)

pub record IsConsistent (t : Tables) : Type 0 where
  -- accounts, tellers and branches have one sum
  pub tellers : total (map balance_of_teller t.tellers) ≡ total (map balance_of_account t.accounts)
  pub branches : total (map balance_of_branch t.branches) ≡ total (map balance_of_account t.accounts)
  -- each branch has the sum of its tellers
  pub each_branch : AllByRecursion
      (λ r. total (map balance_of_teller (tellers_of r.branch t.tellers)) ≡ r.balance) t.branches
  -- history has a row for each posted request and no other, and its deltas have that sum too
  pub matched : (o : ℕ) → Match (row_at request_key t.requests o) (row_at history_key t.history o)
  pub history : total (map delta_of t.history) ≡ total (map balance_of_account t.accounts)

-- so it is of the tables of every log
abbrev pub TablesAreConsistent : Type 0
TablesAreConsistent = (t : Tables) (log : List Command) → AreTablesOf t log → IsConsistent t
