-- How a report ends: never in two ways, and what the refusal that ended it says.
use Rattle.std.proofs.Common.{◌≡◌, ℕ, zero, suc, Bool, true, false, List, [], take, Option, Ok, Err, Result, refl, subst}
use Rattle.std.specs.Prelude.{OnErr, OnOk}
use Rattle.posting_rules.specs.{declared.fault.Fault.Fault, declared.fault.Rule.Rule, believed.Commands.Command}
use Rattle.posting_rules.specs.{believed.Runs.followed_by, believed.Tables.AreTablesOf}
use Rattle.posting_rules.specs.declared.fault.Fault.TheVariants.{Memory, Store, Down, Damaged}
use Rattle.posting_rules.specs.believed.Counter.{Seen, ShowsLog, StandsAt, Refuses, LeavesOnly}
use Rattle.posting_rules.proofs.Remaining.{leaves_still}
use Rattle.posting_core.specs.EndCalls.{WriteCall}
use Rattle.bank_reports.specs.{declared.fault.ReportFault.ReportFault, Leaving.TellsDown, Postings.HasAnswered}
use Rattle.bank_reports.specs.{Postings.HasWritten, Statements.LeavesWriter}
use Rattle.bank_reports.specs.declared.fault.ReportFault.TheVariants.{NoAccount, Write, Bank}

pub of_ok : {E P : Type 0} (r : Result (Unit {0}) E) → (r ≡ Ok tt → P) → OnOk r P
of_ok (Ok x) f = f refl
of_ok (Err e) f = tt

pub of_err : {E P : Type 0} (r : Result (Unit {0}) E) → ((e : E) → r ≡ Err e → P) → OnErr r P
of_err (Ok x) f = tt
of_err (Err e) f = f e refl

-- a bank that was tested and found up wasn't down
pub tested_up : (tested is_down : Bool) → tested ≡ is_down → tested ≡ false → is_down ≡ true → ⊥
tested_up tested is_down same up down = cc

pub was_down_tells : {was_down answered nothing_done : Type 0} → was_down → answered → nothing_done
    → TellsDown was_down answered nothing_done
was_down_tells was is idle = record { down = λ down. is; tried = λ told. was; idle = λ told. idle }

pub was_up_tells : {was_down answered nothing_done : Type 0} → (was_down → ⊥) → (answered → was_down)
    → TellsDown was_down answered nothing_done
was_up_tells up tried = record {
  down = λ down. absurd (up down);
  tried = tried;
  idle = λ is. absurd (up (tried is));
}

-- a report that the bank's fault ended wasn't ended by anything else
pub not_missing : (r : Result (Unit {0}) ReportFault) (e : Fault) → r ≡ Err (Bank e) → r ≡ Err NoAccount → ⊥
not_missing r e is none = cc

pub not_write : (r : Result (Unit {0}) ReportFault) (e : Fault) → r ≡ Err (Bank e) → r ≡ Err Write → ⊥
not_write r e is write = cc

-- nothing was written
pub unwritten : {W : Type 0} {calls : W → Option (List WriteCall)} {writer : W} {refused : Type 0}
    {end : Result (Unit {0}) ReportFault} (fault : Fault) → end ≡ Err (Bank fault)
    → LeavesWriter calls writer writer refused end
unwritten fault is = record {
  silent = λ none. refl;
  flushed = rw is tt;
  failed = λ write. absurd (not_write _ fault is write);
}

pub not_both : (r : Result (Unit {0}) ReportFault) → r ≡ Err Write → r ≡ Err NoAccount → ⊥
not_both r write none = cc

pub same_fault : (r : Result (Unit {0}) ReportFault) (e f : Fault) → r ≡ Err (Bank e) → r ≡ Err (Bank f)
    → e ≡ f
same_fault r e f one other = cc

-- a row's damage, or a bank that is down, is no fault of the store
pub damaged_not_down : (r : Result (Unit {0}) ReportFault) (rule : Rule) → r ≡ Err (Bank (Damaged rule))
    → r ≡ Err (Bank Down) → ⊥
damaged_not_down r rule is down = cc

pub damaged_not_memory : (r : Result (Unit {0}) ReportFault) (rule : Rule) → r ≡ Err (Bank (Damaged rule))
    → r ≡ Err (Bank Memory) → ⊥
damaged_not_memory r rule is memory = cc

pub down_not_memory : (r : Result (Unit {0}) ReportFault) (e : Fault) → r ≡ Err (Bank e) → e ≡ Down
    → r ≡ Err (Bank Memory) → ⊥
down_not_memory r e is down memory = cc

pub damaged_not_store : (r : Result (Unit {0}) ReportFault) (rule : Rule) → r ≡ Err (Bank (Damaged rule))
    → r ≡ Err (Bank Store) → ⊥
damaged_not_store r rule is store = cc

pub down_not_store : (r : Result (Unit {0}) ReportFault) (e : Fault) → r ≡ Err (Bank e) → e ≡ Down
    → r ≡ Err (Bank Store) → ⊥
down_not_store r e is down store = cc

pub not_ok : {A E : Type 0} (r : Result A E) (x : A) (e : E) → r ≡ Ok x → r ≡ Err e → ⊥
not_ok r x e answer error = cc

-- what was answered for an open account
pub written_of : (r : Result (Unit {0}) ReportFault) → (r ≡ Err NoAccount → ⊥) → HasAnswered r
    → HasWritten r
written_of (Ok done) found answered = tt
written_of (Err NoAccount) found answered = absurd (found refl)
written_of (Err Write) found answered = tt
written_of (Err (Bank fault)) found answered = absurd answered

-- a call that was refused for want of anything but memory leaves the counter down
pub refused_down : (fault : Fault) (old new : Seen) (commands : List Command) → (fault ≡ Memory → ⊥)
    → Refuses fault old new commands → new.is_down
refused_down Memory old new commands frugal refused = absurd (frugal refl)
refused_down Store old new commands frugal refused = refused.down
refused_down Down old new commands frugal refused = refused.after
refused_down (Damaged rule) old new commands frugal refused = refused.down

-- a counter that tried nothing was down
pub refused_before : (fault : Fault) (old new : Seen) (commands : List Command)
    → Refuses fault old new commands → fault ≡ Down → old.is_down
refused_before fault old new commands refused is =
    (subst (λ f. Refuses f old new commands) is refused).before

-- what is told to be damaged shows no log
pub refused_sound : (fault : Fault) (old new : Seen) (commands : List Command)
    → Refuses fault old new commands → (rule : Rule) → fault ≡ Damaged rule → new.honest
    → (log : List Command) → ShowsLog old log → ⊥
refused_sound fault old new commands refused rule is =
    (subst (λ f. Refuses f old new commands) is refused).never_shown

none_taken : (n : ℕ) → take n (let none : List Command = [] in none) ≡ []
none_taken zero = refl
none_taken (suc n) = refl

-- a call of no commands that was refused leaves what shows the log
pub refused_leaves : (fault : Fault) (old new : Seen) → Refuses fault old new [] → new.honest
    → (log : List Command) → StandsAt old log
    → LeavesOnly new (λ t. AreTablesOf t log)
refused_leaves Memory old new refused honest log at = leaves_still old new (λ t. AreTablesOf t log) refused.left at.survives
refused_leaves Store old new refused honest log at = λ remains left.
    let it = refused.survives honest log at remains left in
    (it.0, it.1, subst (λ cs. AreTablesOf it.0 (followed_by log cs)) (none_taken it.2.count) it.2.shows)
refused_leaves Down old new refused honest log at = leaves_still old new (λ t. AreTablesOf t log) refused.left at.survives
refused_leaves (Damaged rule) old new refused honest log at = absurd (refused.never_shown honest log at.shows)
