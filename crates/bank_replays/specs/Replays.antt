-- What a replay says.
use Rattle.std.specs.Prelude.{◌≡◌, List, Result, Ok, Err, ⊤}
use Rattle.sha2.specs.Sha256.{sha256}
use Rattle.sqlite.specs.Effect.{Database}
use Rattle.posting_rules.specs.believed.Commands.{Command}
use Rattle.posting_rules.specs.believed.Counter.{Seen, ShowsLog}
use Rattle.posting_rules.specs.believed.Tables.{Tables}
use Rattle.posting_rules.specs.declared.fault.Fault.{Fault}
use Rattle.posting_rules.specs.declared.fault.Fault.TheVariants.{Damaged}
use Rattle.posting_rules.specs.declared.fault.Rule.{Rule}
use Rattle.posting_core.specs.believed.LogEntries.{answered_after}
use Rattle.walked_rows.specs.KeptRows.{HasKept, KeptItem}
use Rattle.bank_replays.specs.ClosingDigests.{IsClosingDigestIn, closings_of}
use Rattle.bank_replays.specs.Digests.{IsDigestIn, IsDigestOf}
use Rattle.bank_replays.specs.PlanDigests.{IsPlanDigestIn, plan_of}
use Rattle.bank_replays.specs.declared.difference.Agreed.{Agreed}
use Rattle.bank_replays.specs.declared.difference.Difference.{Difference}
use Rattle.bank_replays.specs.declared.difference.Replay.{Replay}
use Rattle.bank_replays.specs.declared.difference.Replay.TheVariants.{Agrees, Differs}

-- if it agrees, this holds of the digests
abbrev pub OnAgrees : Result Replay Fault → (Agreed → Type 0) → Type 0
OnAgrees (Ok (Agrees a)) P = P a
OnAgrees (Ok (Differs d)) P = ⊤
OnAgrees (Err fault) P = ⊤

-- if it differs, this holds of the difference
abbrev pub OnDiffers : Result Replay Fault → (Difference → Type 0) → Type 0
OnDiffers (Ok (Agrees a)) P = ⊤
OnDiffers (Ok (Differs d)) P = P d
OnDiffers (Err fault) P = ⊤

-- the digests of a file's kept requests, of its plan, and of its closed numbers
pub record AreDigestsIn (db : Database) (a : Agreed) : Type 0 where
  pub requests : (all : List KeptItem) → HasKept db all → IsDigestIn all a.digest
  pub plan : IsPlanDigestIn db a.plan
  pub closings : IsClosingDigestIn db a.closings

-- those of a log that led to these tables
pub record AreDigestsOf (log : List Command) (t : Tables) (a : Agreed) : Type 0 where
  pub requests : IsDigestOf (answered_after log) a.digest
  pub plan : a.plan ≡ sha256 (plan_of t)
  pub closings : a.closings ≡ sha256 (closings_of t)

-- no log leads to its tables
abbrev pub IsOfNoLog : Seen → Type 0
IsOfNoLog seen = (log : List Command) → ShowsLog seen log → ⊥

-- a bank was replayed
pub record Replays (old new : Seen) (found : Result Replay Fault) : Type 0 where
  -- if it agrees, the requests of a log are digested, its plan, and its closed numbers
  pub log : new.honest → (log : List Command) → (shown : ShowsLog old log)
      → OnAgrees found (AreDigestsOf log shown.tables)
  -- and it is never told to be damaged
  pub sound : (rule : Rule) → found ≡ Err (Damaged rule) → new.honest → (log : List Command) → ShowsLog old log → ⊥
  -- nor does it differ
  pub same : new.honest → OnDiffers found (λ d. IsOfNoLog old)
