-- A machine goes as far as the shared log, and the shared log as far as the machine.
use Rattle.std.specs.Prelude.{◌≡◌, ◌≤◌, ◌+◌, ◌++◌, ℕ, List, [], length, take, Some, None, false}
use Rattle.posting_rules.specs.believed.Commands.{Command}
use Rattle.posting_rules.specs.believed.Counter.{Seen, ShowsLog, StandsAt, Takes}
use Rattle.posting_rules.specs.believed.Runs.{followed_by}
use Rattle.posting_core.specs.Entries.{ArePostsOf}
use Rattle.posting_core.specs.believed.LogEntries.{AnsweredRequest, log_entries}
use Rattle.branch_loader.specs.Following.{planned}
use Rattle.branch_loader.specs.believed.Plans.{Rows}
use Rattle.shared_log.specs.Known.{HoldsOn, Known}
use Rattle.shared_log.specs.Replicated.{replicated_seen}
use Rattle.shared_log.specs.declared.replicated.Replicated.{Replicated}

-- ---- steps

-- the bank was asked what it has at a place: so many of these entries, and no others there
pub record IsAsked {C : Type 0} (seen : C → Seen) (spares : C → C → Type 0) (old new : C) (place : ℕ)
    (given : List (List ℕ)) (had : ℕ) : Type 0 where
  pub takes : Takes (seen old) (seen new) []
  pub honest : (seen new).honest → (seen old).honest
  pub up : (seen new).is_down → ⊥
  pub others : spares old new
  pub few : had ≤ length given
  pub has : (seen new).honest → (log : List Command) → ShowsLog (seen old) log
      → (place ≤ length (log_entries log))
      × (take (place + had) (log_entries log) ≡ take place (log_entries log) ++ take had given)

-- the bank took posts of entries, each of which got the reply of its entry, and openings as planned
pub record GoesAlong {C : Type 0} (seen : C → Seen) (spares : C → C → Type 0) (rows : Rows) (old new : C)
    (commands : List Command) : Type 0 where
  pub entries : List AnsweredRequest
  pub are : ArePostsOf (planned rows) entries commands
  pub takes : Takes (seen old) (seen new) commands
  pub honest : (seen new).honest → (seen old).honest
  pub others : spares old new

-- and has these entries at a place, behind those that it had before it
pub record HasTakenGiven {C : Type 0} (seen : C → Seen) (spares : C → C → Type 0) (rows : Rows) (old new : C)
    (place : ℕ) (given : List (List ℕ)) : Type 0 where
  pub commands : List Command
  pub went : GoesAlong seen spares rows old new commands
  pub up : (seen new).is_down → ⊥
  pub has : (seen new).honest → (log : List Command) → ShowsLog (seen old) log
      → take (place + length given) (log_entries (followed_by log commands)) ≡ take place (log_entries log) ++ given

-- so many first entries of whatever log it shows are those that the shared log holds
abbrev pub FirstAre : (old new : Seen) → List Command → Known → Type 0
FirstAre old new commands None = Unit {0}
FirstAre old new commands (Some entries) = new.honest → (log : List Command) → ShowsLog old log
    → take (length entries) (log_entries (followed_by log commands)) ≡ entries

pub record HasCaughtUp {C : Type 0} (seen : C → Seen) (spares : C → C → Type 0) (rows : Rows) (old new : C)
    (known : Known) : Type 0 where
  pub commands : List Command
  pub went : GoesAlong seen spares rows old new commands
  pub first : FirstAre (seen old) (seen new) commands known

-- all entries of whatever log it shows are known, where the first of them were
abbrev pub AllAre : (old new : Seen) → (k k' : Known) → Type 0
AllAre old new None k' = k' ≡ None
AllAre old new (Some entries) k' = new.honest → (log : List Command) → ShowsLog old log
    → (added : List (List ℕ)) → log_entries log ≡ entries ++ added → k' ≡ Some (log_entries log)

pub record HasSent {C : Type 0} (seen : C → Seen) (spares : C → C → Type 0) (old new : C) (k k' : Known) : Type 0 where
  pub takes : Takes (seen old) (seen new) []
  pub honest : (seen new).honest → (seen old).honest
  pub up : (seen new).is_down → ⊥
  pub others : spares old new
  pub holds : HoldsOn k k'
  pub all : AllAre (seen old) (seen new) k k'

-- ---- both

-- It is up, and stands at the log that it stood at, with openings and posts of entries behind it. All its entries are
-- those that the shared log is known to hold.
pub record HasJoined {C L : Type 0} (seen : C → Seen) (known : L → Known) (spares : C → C → Type 0) (rows : Rows)
    (old new : Replicated C L) : Type 0 where
  pub commands : List Command
  pub went : GoesAlong seen spares rows old.counter new.counter commands
  pub up : new.is_down ≡ false
  pub stands : (seen new.counter).honest → (log : List Command) → StandsAt (seen old.counter) log
      → StandsAt (replicated_seen seen known new) (followed_by log commands)
