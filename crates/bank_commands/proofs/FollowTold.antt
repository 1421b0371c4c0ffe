-- How the commands of a log end, and what following one leaves of the tables of other products.
use Rattle.std.proofs.Common.{◌≡◌, refl, subst, inl, inr, arith, ℕ, List, Option, Result, Ok, Err, Bool, true, false}
use Rattle.std.specs.{Prelude.IfOk, Prelude.if◌then◌else◌, Prelude.nat_lt, Io.KnownBytes.Appends}
use Rattle.std.proofs.{KnownBytes.Appends-trans, lemmas.Result.err_from_is_err_and}
use Rattle.sqlite.specs.{Effect.Database, State.HasCleanDisk}
use Rattle.sqlite.proofs.StateLemmas.{survives_then}
use Rattle.sqlite_trees.specs.declared.store.Store.{Ghosts}
use Rattle.posting_rules.specs.{believed.Counter.Seen, declared.fault.Fault.Fault}
use Rattle.posting_core.specs.believed.EndCalls.{ReadCall}
use Rattle.store_rows.specs.believed.Sparing.{SparesOthers}
use Rattle.branch_loader.specs.declared.fault.PlanFault.{PlanFault}
use Rattle.branch_loader.specs.declared.follow_fault.FollowFault.{FollowFault}
use Rattle.branch_loader.specs.believed.Plans.{Rows}
use Rattle.bank_store.specs.believed.{Down.bank_reason, BankSparing.SparesOtherTables}
use Rattle.bank_store.specs.believed.Seen.{bank_seen, connection_of, database_of, file_of}
use Rattle.bank_store.specs.{OpenBankSparing.SparesWhileOpen, declared.bank.Bank.Bank}
use Rattle.bank_replays.specs.declared.fault.ReplayFault.{ReplayFault, TheVariants.Bank as OfBank, TheVariants.Write}
use Rattle.command_line.specs.Following.{FollowsAnswer, TellsFollowed}
use Rattle.command_line.specs.{Lines.after_line, Lines.followed_line, Working.done_after}
use Rattle.command_line.specs.declared.fault.CommandFault.{CommandFault}
use Rattle.command_line.specs.declared.status.Status.{Status, TheVariants.Done}
use Rattle.bank_commands.specs.Following.{FollowsCounted, FollowsCounting, PrintsFollow, ended_by_log}

-- ---- a log

by_requests : (fewer : Bool) (fault : CommandFault)
    → IfOk (let result : Result Status CommandFault = if fewer then Err fault else Ok Done in result)
    (λ status. status ≡ Done)
by_requests true fault = tt
by_requests false fault = refl

pub log_done : (after : ℕ) (ends : Result ℕ ReplayFault) → IfOk (ended_by_log after ends) (λ status. status ≡ Done)
log_done after (Ok requests) = by_requests (nat_lt requests after) _
log_done after (Err Write) = tt
log_done after (Err (OfBank cause)) = tt

-- ---- a log that was followed: both lines, where it was to the end

both_lines : (w said w' : Option (List ℕ)) (requests : ℕ) → Appends w said (after_line requests)
    → (followed : Result ℕ FollowFault) (result : Result (Unit {0}) CommandFault)
    → TellsFollowed followed said w' result → PrintsFollow w w' (done_after result)
both_lines w said w' requests line (Ok count) (Ok done) tells =
    (refl, requests, count, Appends-trans w said w' (after_line requests) (followed_line count) line tells)
both_lines w said w' requests line (Ok count) (Err fault) tells = tt
both_lines w said w' requests line (Err cause) result tells = rw tells.0 tt

module _ (r r' : Option (List ℕ)) (q q' : Option (List ReadCall)) (w w' : Option (List ℕ)) where
  by_answer : (C : Type 0) (seen : C → Seen) (spares : C → C → Type 0) (reason : Fault → C → C → Type 0)
      (requests : ℕ) (old new : C) (result : Result (Unit {0}) CommandFault) (answer : Result Rows PlanFault)
      → FollowsAnswer seen spares reason answer requests r r' q q' w w' old new result
      → PrintsFollow w w' (done_after result)
  by_answer C seen spares reason requests old new result (Ok rows) (inl unsaid) = rw unsaid.0 tt
  by_answer C seen spares reason requests old new result (Ok rows) (inr it) =
      both_lines w it.0 w' requests it.1 it.2.followed result it.2.tells
  by_answer C seen spares reason requests old new result (Err fault) it = rw it.0 tt

  module _ (S P : Type 0) (g : Ghosts S) (IsNamed : P → Type 0)
      (known : P → Option (List ℕ) × Option (List ReadCall)) (old new : Bank S g)
      (result : Result (Unit {0}) CommandFault) where
    by_counted : (counted : Result ℕ Fault) (stood : Bank S g)
        → FollowsCounted g IsNamed known r r' q q' w w' counted stood new result
        → PrintsFollow w w' (done_after result)
    by_counted (Ok requests) stood (inl unopened) = rw (err_from_is_err_and result unopened.0).1 tt
    by_counted (Ok requests) stood (inr it) =
        by_answer (Bank S g) (bank_seen g) (SparesOtherTables g) (bank_reason g) requests stood new result it.2 it.5
    by_counted (Err cause) stood it = rw it.0 tt

    pub prints_follow : (end : Result Status CommandFault) → end ≡ done_after result
        → FollowsCounting g IsNamed known r r' q q' w w' old new result → PrintsFollow w w' end
    prints_follow end is it = rw is (by_counted it.counted it.stood it.follows)

-- ---- the tables of other products

-- they were spared after a count that left the tables as they were
pub counted_spares : {S : Type 0} (g : Ghosts S) (old stood new : Bank S g)
    → (HasCleanDisk (file_of stood) → database_of g stood ≡ database_of g old)
    → SparesWhileOpen g (connection_of old) (connection_of stood)
    → SparesWhileOpen g (connection_of stood) (connection_of new)
    → SparesWhileOpen g (connection_of old) (connection_of new)
counted_spares g old stood new same one two = record {
  now = λ clean is_open. subst (λ (db : Database). SparesOthers db (database_of g new)) (shown clean)
      (two.now clean is_open);
  left = survives_then (file_of old) (file_of stood) (file_of new) _ _ _
      (λ clean db left. left)
      (λ clean db left. (
        left.0,
        left.1,
        subst (λ (shows : Database). SparesOthers shows left.0) (shown clean) left.2,
      ))
      one.left two.left;
}
  where
    shown : HasCleanDisk (file_of new) → database_of g stood ≡ database_of g old
    shown clean = same (omega (arith, two.left.clean, clean))
