-- What a counter decided is appended to a shared log, or not.
use Rattle.std.specs.Prelude.{◌≡◌, ◌++◌, ℕ, List, [], length, take, None, Some, Result, OnOk, IfOk}
use Rattle.posting_rules.specs.believed.Commands.{Command}
use Rattle.posting_rules.specs.believed.Counter.{LeavesOnly, Seen, ShowsLog, StandsAt, Takes}
use Rattle.posting_rules.specs.believed.Tables.{AreTablesOf, Tables}
use Rattle.posting_core.specs.believed.LogEntries.{log_entries}
use Rattle.posting_core.specs.declared.followed.TheConstants.{ENTRIES_PER_ANSWER}
use Rattle.shared_log.specs.Known.{HoldsOn, Known}
use Rattle.shared_log.specs.declared.publishing.PublishFault.{PublishFault}

-- Whatever log the counter showed, of entries that begin with those that were known: so many of the others are known
-- too, which are all of them, or as many as are given at once.
abbrev pub AreKnown : (old new : Seen) → (k k' : Known) → ℕ → Type 0
AreKnown old new None k' count = k' ≡ None
AreKnown old new (Some entries) k' count = new.honest → (log : List Command) → ShowsLog old log
    → (added : List (List ℕ)) → log_entries log ≡ entries ++ added
    → (k' ≡ Some (entries ++ take ENTRIES_PER_ANSWER added)) × (count ≡ length (take ENTRIES_PER_ANSWER added))

-- its entries were asked for, and the next ones appended, or not
pub record HasPublished {C : Type 0} (seen : C → Seen) (spares : C → C → Type 0) (old new : C) (k k' : Known)
    (result : Result ℕ PublishFault) : Type 0 where
  pub honest : (seen new).honest → (seen old).honest
  pub up : OnOk result ((seen new).is_down → ⊥)
  pub takes : OnOk result (Takes (seen old) (seen new) [])
  pub keeps : OnOk result ((seen new).honest → (t : Tables) → (seen old).tables t → (seen new).tables t)
  pub known : IfOk result (AreKnown (seen old) (seen new) k k')
  -- a crash leaves what the counter took, in either case
  pub left : (seen new).honest → (log : List Command) → StandsAt (seen old) log
      → LeavesOnly (seen new) (λ t. AreTablesOf t log)
  pub others : spares old new
  pub holds : HoldsOn k k'
