-- How a log that was followed ends the command.
use Rattle.std.proofs.Common.{◌≡◌, ℕ, List, Option, Result, Ok, Err, subst}
use Rattle.std.specs.{Prelude.OnErr, Result.IsErrOf}
use Rattle.posting_core.specs.EndCalls.{WriteCall}
use Rattle.branch_loader.specs.declared.follow_fault.FollowFault.{FollowFault}
use Rattle.branch_loader.specs.declared.follow_fault.FollowFault.TheVariants.{Bank, Differs, Memory, NoEntry, Read}
use Rattle.branch_loader.specs.declared.follow_fault.FollowFault.TheVariants.{Truncated}
use Rattle.shared_log.specs.declared.joining.JoinFault.{JoinFault}
use Rattle.shared_log.specs.declared.joining.JoinFault.TheVariants as joining
use Rattle.shared_log.specs.declared.log.LogFault.TheVariants as log
use Rattle.command_line.specs.CommandFaults.{fault_of_following, fault_of_joining}
use Rattle.command_line.specs.{Following.TellsFollowed, Lines.PrintsLine, Lines.followed_line}
use Rattle.command_line.specs.declared.fault.CommandFault.{CommandFault, TheVariants.Memory as Refused, TheVariants.Write}
use Rattle.command_line.proofs.{LoadEnds.never_write, Printed.part_of}

-- what holds at a fault, where one is told
pub err_holds : {P : Type 0} (r : Result (Unit {0}) CommandFault) (e : CommandFault) → r ≡ Err e → OnErr r P → P
err_holds {P} r e is holds = subst (λ (t : Result (Unit {0}) CommandFault). OnErr t P) is holds

-- the line was printed, or a prefix of it
pub followed_printed : (count : ℕ) (w w' : Option (List ℕ)) (t t' : Option (List WriteCall))
    (r : Result (Unit {0}) CommandFault) → PrintsLine (followed_line count) w w' t t' r → OnErr r (IsErrOf r Write)
    → TellsFollowed (Ok count) w w' r
followed_printed count w w' t t' (Ok done) prints fault = prints.line
followed_printed count w w' t t' (Err cause) prints fault =
    let is : cause ≡ Write = cc fault in
    (is, part_of prints.part)

-- that a log was followed no further is no fault of the output
pub follow_not_write : (fault : FollowFault) → fault_of_following fault ≡ Write → ⊥
follow_not_write (Bank cause) is = never_write cause is
follow_not_write (Truncated n) is = cc is
follow_not_write Read is = cc is
follow_not_write (NoEntry count) is = cc is
follow_not_write (Differs other) is = cc is
follow_not_write Memory is = cc is

-- nor that the machines that share one weren't joined
pub joining_not_write : (fault : JoinFault) → fault_of_joining fault ≡ Write → ⊥
joining_not_write (joining.Differs number) is = cc is
joining_not_write (joining.Follow cause) is = follow_not_write cause is
joining_not_write (joining.Bank cause) is = never_write cause is
joining_not_write (joining.Log log.Memory) is = cc is
joining_not_write (joining.Log log.Refused) is = cc is
joining_not_write (joining.Log log.Unanswered) is = cc is

pub memory_not_write : (let fault : CommandFault = Refused in fault) ≡ Write → ⊥
memory_not_write is = cc is
