-- A second bank that was given all rows of a file, and what it shows where that file shows a log.
use Rattle.std.proofs.Common.{◌≡◌, ◌∙◌, ℕ, List, [], map, Option, None, refl, sym, ap, subst, inl, inr}
use Rattle.std.specs.Prelude.{IfSome}
use Rattle.sqlite.specs.Effect.{Database}
use Rattle.sqlite_trees.specs.declared.store.Store.{Ghosts}
use Rattle.posting_rules.specs.believed.Commands.{AreCommands, Command, IsCommand, Open, Terms, opened}
use Rattle.posting_rules.specs.believed.Counter.{ShowsLog}
use Rattle.posting_rules.specs.believed.Entries.{branch_balance, decided}
use Rattle.posting_rules.specs.believed.Closings.{closings}
use Rattle.posting_rules.specs.believed.Tables.{AreTablesOf, Tables, closing_key, row_at}
use Rattle.posting_rules.specs.declared.rows.ClosingRow.{ClosingRow}
use Rattle.posting_rules.proofs.SoundEntries.{open_within}
use Rattle.sql_meanings.specs.believed.Entries.{Entry, Rise}
use Rattle.store_rows.specs.believed.View.{Shows, closing_entry}
use Rattle.walked_rows.specs.{KeptRows.HasKept, KeptRows.KeptItem, KeptRows.kept_all, KeptRows.kept_item, Stored.branch_entry, StoredBeside.floor_entry}
use Rattle.walked_rows.specs.declared.{branches.StoredBranch.StoredBranch, floors.StoredFloor.StoredFloor}
use Rattle.walked_rows.specs.declared.kept.KeptRequest.{KeptRequest}
use Rattle.bank_store.specs.{believed.Seen.bank_seen, believed.Seen.database_of, declared.bank.Bank.Bank}
use Rattle.bank_replays.specs.FileTables.{FileTables, HasTables, rows_due}
use Rattle.bank_replays.specs.Following.{HaveSameRows, timed}
use Rattle.bank_replays.specs.Leading.{Leads}
use Rattle.bank_replays.specs.Refilling.{FollowsRows, Holds, IsNeverInDoubt, IsPlan, IsUnplanned, OpensRest, Plans}
use Rattle.bank_replays.specs.Refilling.{IsYet, planned_at, terms_of, with_accounts, with_floor}
use Rattle.bank_replays.specs.Replayed.{IsFilledOf, IsReplayOf, plan_in, planned_in}
use Rattle.bank_replays.specs.Closed.{closed_by}
use Rattle.bank_replays.specs.declared.refill.{Planned.Planned, Refill.Refill}
use Rattle.bank_replays.proofs.Filled.{has_log}
use Rattle.bank_replays.proofs.{FollowedRows.kept_rows, Openable.opens_or_not, PlanRows.plan_is, PlanRows.yet_all}
use Rattle.bank_replays.proofs.Closed.{all_closes, closed_decides, closed_opens}
use Rattle.bank_store.proofs.ApartRows.{closed_of_log}
use Rattle.bank_replays.proofs.TakenRows.{leads_follows}

-- what can be opened is all that is planned
can_be : (b : ℕ) (yet : Planned) → IfSome (terms_of b yet) (λ terms. IsCommand (Open b terms))
can_be b yet = elim (opens_or_not b yet) [
  | inl can ↦ subst (λ (o : Option Terms). IfSome o (λ terms. IsCommand (Open b terms))) (sym can.1) can.0
  | inr cannot ↦ subst (λ (o : Option Terms). IfSome o (λ terms. IsCommand (Open b terms))) (sym cannot.1) tt
]

-- the kept rows of its three tables
pub has_kept_of : (db : Database) (f : FileTables) → HasTables db f
    → HasKept db (kept_all f.history f.references f.requests)
has_kept_of db f has = record {
  rows = f.requests;
  postings = f.history;
  references = f.references;
  has = has.requests;
  has_postings = has.history;
  has_references = has.references;
  are = refl;
}

module _ {S T W : Type 0} {g : Ghosts S} {h : Ghosts T} (old : Bank S g) (sure : IsNeverInDoubt h)
    (first mid last end : Refill T W h) (none : IsUnplanned h first) (new : ShowsLog (bank_seen h first.bank) [])
    (branches : List StoredBranch) (floors : List StoredFloor) (kept : List KeptRequest)
    (plans : Plans h (λ (r : StoredBranch). r.branch) with_accounts first mid branches)
    (plans_floors : Plans h (λ (r : StoredFloor). r.branch) with_floor mid last floors)
    (follows : FollowsRows h last end (map kept_item kept)) (f : FileTables) (has : HasTables (database_of g old) f)
    (are : map branch_entry branches ≡ f.branches) (are_floors : map floor_entry floors ≡ f.floors)
    (are_kept : map kept_item kept ≡ kept_all f.history f.references f.requests) where
  begun : Holds h (plan_in f) [] last
  begun = record {
    has = has_log last.bank last.moment last.batch.items [] (plans_floors.batch ∙ plans.batch ∙ none.batch)
        (subst (λ (b : Bank T h). ShowsLog (bank_seen h b) []) (sym (plans_floors.bank ∙ plans.bank)) new);
    yet = subst (λ (bs : List Entry). (b : ℕ) → IsYet b (terms_of b (planned_in bs f.floors b)) None
        (planned_at last.planned.items b)) are
        (subst (λ (fs : List Entry). (b : ℕ) → IsYet b (terms_of b (planned_in (map branch_entry branches) fs b)) None
        (planned_at last.planned.items b)) are_floors
        (yet_all branches floors (subst Rise (sym are) has.branches.holds.rows.rise)
        (subst Rise (sym are_floors) has.floors.holds.rows.rise) first.planned.items mid.planned.items
        last.planned.items none.planned plans.count plans_floors.count plans.each plans_floors.each));
  }

  pub filled : (bank : Bank T h) → ((plan : ℕ → Option Terms) → IsPlan plan → (log : List Command)
      → Holds h plan log end → OpensRest h plan log bank)
      → (log : List Command) × ShowsLog (bank_seen h bank) log × IsFilledOf f log
  filled bank rest =
      let is = λ (b : ℕ). can_be b (planned_in f.branches f.floors b) in
      let it = follows sure (plan_in f) is [] begun in
      let all = rest (plan_in f) is it.0 it.1 in (
        all.now,
        all.shows,
        record {
          posted = it.0;
          leads = subst (λ (ks : List KeptItem). Leads (plan_in f) ks [] it.0) are_kept it.2;
          decides = all.decides;
          closes = all.closes;
          opens = all.opens;
        },
      )

-- the replay of a log's rows is a log with the same rows
pub replay_same : (db : Database) (t : Tables) (log : List Command) → AreCommands log → Shows db t → AreTablesOf t log
    → (now : List Command) → IsReplayOf (rows_due t) now → HaveSameRows log now
replay_same db t log commands in_file shows now it =
    let plan = plan_in (rows_due t) in
    let same : (b : ℕ) → plan b ≡ opened log b = plan_is t.branches t.floors (branch_balance (decided log))
    (λ b. opened log b) (open_within log commands) shows.rows.branches shows.rows.floors in
    let follows = leads_follows plan (decided log) _ it.is.posted
    (record { first = log; decides = refl; within = λ b terms is. same b ∙ is })
    (kept_rows db t log in_file shows commands) it.is.leads in
    let done = λ (runs : List ClosingRow). closed_by (map closing_entry runs) it.filled in
    let ends : now ≡ done t.closings = it.closes in
    let none : closings it.filled ≡ [] = it.is.closes ∙ follows.current in
    record {
      requests = sym (ap (map timed) (ap (λ (l : List Command). decided l) ends ∙ closed_decides (map closing_entry t.closings) it.filled ∙ it.is.decides) ∙ follows.requests);
      branches = λ b. sym (ap (λ (l : List Command). opened l b) ends ∙ closed_opens (map closing_entry t.closings) it.filled b ∙ it.is.opens b ∙ same b);
      closed = λ x. sym (shows.rows.closings x)
          ∙ sym (all_closes t.closings (closed_of_log t log commands shows) it.filled none x)
          ∙ ap (λ (l : List Command). row_at closing_key (closings l) x) (sym ends);
    }
