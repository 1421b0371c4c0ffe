-- What no call touches, however following a log ends.
use Rattle.std.proofs.Common.{◌≡◌, ℕ, List, Result, Ok, Err, sym, subst}
use Rattle.posting_rules.specs.{believed.Counter.Seen, declared.fault.Fault.Fault}
use Rattle.posting_core.specs.believed.LogEntries.{AnsweredRequest}
use Rattle.branch_loader.specs.{Followed.Did, believed.Plans.Rows, declared.follow_fault.FollowFault.FollowFault}
use Rattle.branch_loader.specs.declared.follow_fault.FollowFault.TheVariants.{Bank, Differs, Memory, NoEntry, Read}
use Rattle.branch_loader.specs.declared.follow_fault.FollowFault.TheVariants.{Truncated}

-- the bank was taken through calls of its own
pub did_spare : {C : Type 0} (seen : C → Seen) (spares : C → C → Type 0) (reason : Fault → C → C → Type 0)
    (rows : Rows) (old new : C) (entries : List AnsweredRequest) (result : Result ℕ FollowFault) → spares old old
    → Did seen spares reason rows old new entries result → spares old new
did_spare seen spares reason rows old new entries (Ok count) itself did = did.taken.others
did_spare seen spares reason rows old new entries (Err (Truncated n)) itself did = did.taken.others
did_spare seen spares reason rows old new entries (Err Read) itself did = did.taken.others
did_spare seen spares reason rows old new entries (Err (NoEntry count)) itself did = did.taken.others
did_spare seen spares reason rows old new entries (Err (Differs other)) itself did = did.taken.others
did_spare seen spares reason rows old new entries (Err Memory) itself did = subst (spares old) (sym did.1) itself
did_spare seen spares reason rows old new entries (Err (Bank fault)) itself did = did.others
