-- A log that is followed to the end of its entries, or up to a fault. The source's known bytes before and after are r
-- and r', and what its reads are known to have returned is q and q'; the bank is old before it, and new after it.
use Rattle.std.specs.Prelude.{◌≡◌, ◌≤◌, ◌<◌, ◌++◌, ⊤, ℕ, List, [], length, take, Option, Result, Ok, Err, IfOk}
use Rattle.std.specs.List.{AllByRecursion}
use Rattle.std.specs.Io.KnownBytes.{Consumes, IsAtEnd}
use Rattle.posting_rules.specs.believed.Commands.{Command}
use Rattle.posting_rules.specs.believed.Counter.{LeavesOnly, Seen, ShowsLog, ShowsPrefix, StandsAt}
use Rattle.posting_rules.specs.declared.fault.Fault.{Fault}
use Rattle.posting_core.specs.Entries.{IsEntry, IsNoEntry, new_after, requests_of}
use Rattle.posting_core.specs.believed.LogEntries.{AnsweredRequest, entries_of, log_entries}
use Rattle.posting_core.specs.EndCalls.{HasReadFailed}
use Rattle.posting_core.specs.believed.Batches.{joined}
use Rattle.posting_core.specs.believed.EndCalls.{EndsWith, GrowsBy, IsEndOfInput, ReadCall}
use Rattle.posting_core.specs.declared.entries.TheConstants.{ENTRY_BYTES}
use Rattle.branch_loader.specs.Following.{HasDiffered, HasFollowed, IsRefusedFollowing}
use Rattle.branch_loader.specs.believed.Plans.{Rows}
use Rattle.branch_loader.specs.declared.follow_fault.FollowFault.{FollowFault}
use Rattle.branch_loader.specs.declared.follow_fault.FollowFault.TheVariants.{Bank, Differs, Memory, NoEntry, Read}
use Rattle.branch_loader.specs.declared.follow_fault.FollowFault.TheVariants.{Truncated}

-- how it ended, where so many entries were followed and these bytes were read after them
abbrev pub EndsFollowing : Result ℕ FollowFault → (r' : Option (List ℕ)) → (q q' : Option (List ReadCall)) → ℕ → List ℕ
    → Type 0
EndsFollowing (Ok count) r' q q' followed rest =
    IsAtEnd r' × EndsWith IsEndOfInput q q' × (rest ≡ []) × (count ≡ followed)
EndsFollowing (Err (Truncated n)) r' q q' followed rest =
    IsAtEnd r' × EndsWith IsEndOfInput q q' × (1 ≤ n) × (n < ENTRY_BYTES) × (length rest ≡ n)
EndsFollowing (Err Read) r' q q' followed rest = HasReadFailed q q' × (length rest < ENTRY_BYTES)
EndsFollowing (Err (NoEntry count)) r' q q' followed rest =
    (count ≡ followed) × (ENTRY_BYTES ≤ length rest) × IsNoEntry (take ENTRY_BYTES rest)
EndsFollowing (Err Memory) r' q q' followed rest = GrowsBy q q' [] × (rest ≡ [])
EndsFollowing (Err (Differs other)) r' q q' followed rest = ⊤
EndsFollowing (Err (Bank fault)) r' q q' followed rest = ⊤

-- all of the entries were followed; or it stopped at the last of them, or at the opening for it; or nothing was done
abbrev pub Did : {C : Type 0} → (C → Seen) → (C → C → Type 0) → (Fault → C → C → Type 0) → Rows → (old new : C)
    → List AnsweredRequest → Result ℕ FollowFault → Type 0
Did seen spares reason rows old new entries (Err (Bank fault)) =
    IsRefusedFollowing seen spares reason rows old new entries fault
Did seen spares reason rows old new entries (Err (Differs other)) = HasDiffered seen spares rows old new entries other
Did seen spares reason rows old new entries (Err Memory) = (entries ≡ []) × (new ≡ old)
Did seen spares reason rows old new entries result = HasFollowed seen spares rows old new entries []

-- it shows a log that has these entries
pub record ShowsEntries (seen : Seen) (texts : List (List ℕ)) : Type 0 where
  pub log : List Command
  pub shows : ShowsLog seen log
  pub are : log_entries log ≡ texts

-- a crash leaves the log, the commands that were taken, and of those that were refused a prefix
abbrev pub LeavesTaken : (old new : Seen) → (taken refused : List Command) → Type 0
LeavesTaken old new taken refused = new.honest → (log : List Command) → StandsAt old log
    → LeavesOnly new (ShowsPrefix log (taken ++ refused) (length taken))

-- it does so of what was done
abbrev pub LeavesFollowed : {C : Type 0} (seen : C → Seen) (spares : C → C → Type 0) (reason : Fault → C → C → Type 0)
    (rows : Rows) (old new : C) (entries : List AnsweredRequest) (result : Result ℕ FollowFault)
    → Did seen spares reason rows old new entries result → Type 0
LeavesFollowed seen spares reason rows old new entries (Err (Bank fault)) did =
    LeavesTaken (seen old) (seen new) did.followed.commands did.refused
LeavesFollowed seen spares reason rows old new entries (Err (Differs other)) did =
    LeavesTaken (seen old) (seen new) did.commands []
LeavesFollowed seen spares reason rows old new entries (Err Memory) did = ⊤
LeavesFollowed seen spares reason rows old new entries result did = LeavesTaken (seen old) (seen new) did.commands []

pub record FollowsLog {C : Type 0} (seen : C → Seen) (spares : C → C → Type 0) (reason : Fault → C → C → Type 0)
    (rows : Rows) (r r' : Option (List ℕ)) (q q' : Option (List ReadCall)) (old new : C) (result : Result ℕ FollowFault)
    : Type 0 where
  -- entries were read, and bytes after them
  pub entries : List AnsweredRequest
  pub are : AllByRecursion IsEntry entries
  pub rest : List ℕ
  pub read : Consumes r r' (joined (entries_of entries) ++ rest)
  pub ends : EndsFollowing result r' q q' (length entries) rest
  -- the bank was taken through their commands alone
  pub did : Did seen spares reason rows old new entries result
  pub survives : LeavesFollowed seen spares reason rows old new entries result did
  -- to the end, whatever log it showed has the entries that were new after its own, byte for byte
  pub grows : IfOk result (λ count. (seen new).honest → (log : List Command) → ShowsLog (seen old) log
      → ShowsEntries (seen new) (log_entries log ++ entries_of (new_after (requests_of log) entries)))
