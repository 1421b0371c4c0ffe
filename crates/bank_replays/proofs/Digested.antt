-- The digest of the first rows, and that of a log.
use Rattle.std.proofs.Common.{◌≡◌, ◌<◌, ◌≤◌, ℕ, List, map, length, take, Option, Some, None, Result, Ok, Err, refl, sym, ap}
use Rattle.std.proofs.Common.{subst, ◌∙◌, arith}
use Rattle.std.proofs.lemmas.List.{length-map, length-take, take-map}
use Rattle.posting_rules.specs.declared.fault.{Fault.Fault, Rule.Rule}
use Rattle.posting_rules.specs.declared.fault.Fault.TheVariants.{Damaged, Down, Memory, Store}
use Rattle.sqlite.specs.Effect.{Database}
use Rattle.posting_rules.specs.believed.{Commands.Command, Tables.AreTablesOf, Tables.Tables}
use Rattle.store_rows.specs.believed.View.{Shows, branch_entry, closing_entry, floor_entry}
use Rattle.walked_rows.specs.KeptRows.{KeptItem}
use Rattle.walked_rows.proofs.Shown.{has_branches, has_closings, has_floors}
use Rattle.bank_replays.specs.Digests.{DigestsFirst, DigestsRows, IsDigestIn, IsDigestOf}
use Rattle.posting_core.specs.believed.LogEntries.{AnsweredRequest}
use Rattle.bank_store.specs.KeptEntries.{answered_in}
use Rattle.bank_store.proofs.LogRows.{has_kept, kept_answered, kept_of}
use Rattle.bank_replays.specs.Replays.{AreDigestsIn, AreDigestsOf, OnAgrees}
use Rattle.bank_replays.specs.{declared.chain.Digest.Digest, declared.difference.Replay.Replay}
use Rattle.bank_replays.specs.declared.difference.Replay.TheVariants.{Agrees, Differs}

module _ (count : ℕ) (all : List KeptItem) (d : Digest) (is : IsDigestIn (take count all) d) where
  pub rows_fewer : d.requests < count → length all < count
  rows_fewer low = omega (arith, low, is.0.0, length-map (take count all) answered_in, length-take count all)

  pub rows_enough : count ≤ d.requests → count ≤ length all
  rows_enough high = omega (arith, high, is.0.0, length-map (take count all) answered_in, length-take count all)

module _ (count : ℕ) (all : List KeptItem) (requests : List AnsweredRequest) (same : map answered_in all ≡ requests) where
  count_same : length requests ≡ length all
  count_same = ap (λ (l : List AnsweredRequest). length l) (sym same) ∙ length-map all answered_in

  -- the rows are those of a log
  pub digests_log : (d : Option Digest) → DigestsRows count all (Ok d) → DigestsFirst count requests (Ok d)
  digests_log (Some d) it = (
    omega (arith, it.0, count_same),
    subst (λ (l : List AnsweredRequest). IsDigestOf l d) (sym (take-map answered_in count all) ∙ ap (take count) same) it.1.0,
  )
  digests_log None it = omega (arith, it, count_same)

-- all of them are, and the plan and the closed numbers are those of the tables
module _ (db : Database) (log : List Command) (t : Tables) (in_file : Shows db t) (shows : AreTablesOf t log) where
  pub agrees_log : (result : Result Replay Fault) → OnAgrees result (AreDigestsIn db) → OnAgrees result (AreDigestsOf log t)
  agrees_log (Ok (Agrees a)) are = record {
    requests = subst (λ (l : List AnsweredRequest). IsDigestOf l a.digest) (kept_answered db t log in_file shows)
        (are.requests (kept_of db t log in_file shows) (has_kept db t log in_file shows)).0;
    plan = are.plan (map floor_entry t.floors) (map branch_entry t.branches) (has_floors db t in_file)
        (has_branches db t in_file);
    closings = are.closings (map closing_entry t.closings) (has_closings db t in_file);
  }
  agrees_log (Ok (Differs d)) are = tt
  agrees_log (Err fault) are = tt

-- a log's are never told to be damaged
pub digests_err : (count : ℕ) (requests : List AnsweredRequest) (fault : Fault)
    → ((rule : Rule) → fault ≡ Damaged rule → ⊥) → DigestsFirst count requests (Err fault)
digests_err count requests Memory sound = tt
digests_err count requests Store sound = tt
digests_err count requests Down sound = tt
digests_err count requests (Damaged rule) sound = sound rule refl
