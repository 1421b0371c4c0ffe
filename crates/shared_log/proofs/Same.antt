-- Tables of one log show the same logs.
use Rattle.std.proofs.Common.{◌∙◌, List, sym}
use Rattle.posting_rules.specs.believed.{Commands.Command, Counter.LeavesOnly, Counter.Seen, Tables.AreTablesOf}
use Rattle.posting_rules.specs.believed.Tables.{Tables}
use Rattle.shared_log.specs.{Known.Known, Replicated.ShowSame, Replicated.replicated_seen}
use Rattle.shared_log.specs.declared.replicated.Replicated.{Replicated}

rows_alike : (t u : Tables) (log other : List Command) → AreTablesOf t log → AreTablesOf u log → AreTablesOf t other
    → AreTablesOf u other
rows_alike t u log other one two is = record {
  rows = record {
    decided = two.rows.decided ∙ sym one.rows.decided ∙ is.rows.decided;
    branches = λ b. two.rows.branches b ∙ sym (one.rows.branches b) ∙ is.rows.branches b;
    tellers = λ n. two.rows.tellers n ∙ sym (one.rows.tellers n) ∙ is.rows.tellers n;
    accounts = λ a. two.rows.accounts a ∙ sym (one.rows.accounts a) ∙ is.rows.accounts a;
    history = λ o. two.rows.history o ∙ sym (one.rows.history o) ∙ is.rows.history o;
    requests = λ o. two.rows.requests o ∙ sym (one.rows.requests o) ∙ is.rows.requests o;
    floors = λ b. two.rows.floors b ∙ sym (one.rows.floors b) ∙ is.rows.floors b;
    references = λ o. two.rows.references o ∙ sym (one.rows.references o) ∙ is.rows.references o;
    closings = λ x. two.rows.closings x ∙ sym (one.rows.closings x) ∙ is.rows.closings x;
    branch_keys = two.rows.branch_keys;
    teller_keys = two.rows.teller_keys;
    account_keys = two.rows.account_keys;
    history_keys = two.rows.history_keys;
    request_keys = two.rows.request_keys;
    floor_keys = two.rows.floor_keys;
    reference_keys = two.rows.reference_keys;
    closing_keys = two.rows.closing_keys;
  };
}

pub same_of : (t u : Tables) (log : List Command) → AreTablesOf t log → AreTablesOf u log → ShowSame t u
same_of t u log one two = record {
  there = λ other is. rows_alike t u log other one two is;
  back = λ other is. rows_alike u t log other two one is;
}

pub same_itself : (t : Tables) → ShowSame t t
same_itself t = record { there = λ log is. is; back = λ log is. is }

-- what a crash leaves of a counter is what it leaves of the one over it
pub leaves_up : {C L : Type 0} (seen : C → Seen) (known : L → Known) (r : Replicated C L) (P : Tables → Type 0)
    → LeavesOnly (seen r.counter) P → LeavesOnly (replicated_seen seen known r) P
leaves_up seen known r P all remains left =
    let it = all remains left in (it.0, (it.0, it.1, same_itself it.0), it.2)
