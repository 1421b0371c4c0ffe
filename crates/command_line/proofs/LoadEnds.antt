-- How the loading of a plan ends, by the call that ended it.
use Rattle.std.proofs.Common.{◌≡◌, ◌≢◌, refl, inl, inr, subst, ℕ, List, Option, Result, Ok, Err}
use Rattle.std.specs.{Prelude.IfErr, Prelude.IfOk, Result.IsErrOf, Io.KnownBytes.Appends, Io.KnownBytes.Keeps}
use Rattle.std.proofs.KnownBytes.{Keeps-refl}
use Rattle.posting_rules.specs.{declared.fault.Fault.Fault, believed.Counter.Seen}
use Rattle.posting_rules.specs.declared.fault.Fault.TheVariants as bank
use Rattle.posting_core.specs.{believed.EndCalls.ReadCall, EndCalls.HasWriteFailed, EndCalls.WriteCall}
use Rattle.report_contents.specs.Written.{AppendsPart}
use Rattle.branch_loader.specs.{believed.Plans.Rows, Plans.ReadsPlan, declared.loader.Loaded.Loaded}
use Rattle.branch_loader.specs.declared.fault.PlanFault.{PlanFault}
use Rattle.branch_loader.specs.declared.fault.PlanFault.TheVariants.{Memory}
use Rattle.command_line.specs.{CommandFaults.fault_of_bank, CommandFaults.fault_of_plan, Lines.loaded_line, Looking.IsOfPlanFile}
use Rattle.command_line.specs.declared.fault.CommandFault.{CommandFault}
use Rattle.command_line.specs.declared.fault.CommandFault.TheVariants.{Write}
use Rattle.command_line.specs.Working.{IsRefusedLoad, Loads, LoadsFrom, LoadsOver, ended_by_load}

-- no fault of a plan is one of the output, and none of a bank
pub not_write : (fault : PlanFault) → fault_of_plan fault ≡ Write → ⊥
not_write Memory e = cc e
not_write other e = cc e

pub never_write : (fault : Fault) → fault_of_bank fault ≡ Write → ⊥
never_write bank.Memory e = cc e
never_write other e = cc e

-- ---- a plan that is read from a source

-- what load_from ensures
pub record Ended {C : Type 0} (seen : C → Seen) (reason : Fault → C → C → Type 0) (r r' : Option (List ℕ))
    (q q' : Option (List ReadCall)) (w w' : Option (List ℕ)) (t t' : Option (List WriteCall))
    (result : Result Loaded CommandFault) (old new : C) : Type 0 where
  pub loads : LoadsFrom seen reason r r' q q' w w' (λ end. ended_by_load result ≡ end) old new
  pub line : IfOk result (λ loaded. Appends w w' (loaded_line loaded))
  pub silent : IfErr result (λ fault. fault ≢ Write → Keeps w w')
  pub unprinted : IsErrOf result Write → HasWriteFailed t t'

module _ {C : Type 0} (seen : C → Seen) (reason : Fault → C → C → Type 0) {r r' : Option (List ℕ)}
    {q q' : Option (List ReadCall)} (w : Option (List ℕ)) (t : Option (List WriteCall)) (old : C) where
  -- it is none
  pub unread : (result : Result Loaded CommandFault) (fault : PlanFault) → result ≡ Err (fault_of_plan fault)
      → ReadsPlan r r' q q' (Err fault) → Ended seen reason r r' q q' w w t t result old old
  unread result fault same reads = rw same record {
    loads = record { answer = Err fault; reads = reads; does = ((refl, Keeps-refl w), refl) };
    line = tt;
    silent = λ other. Keeps-refl w;
    unprinted = λ is. absurd (not_write fault (cc is));
  }

  -- the bank refused an opening
  pub refused : (new : C) (result : Result Loaded CommandFault) (rows : Rows) (fault : Fault)
      → result ≡ Err (fault_of_bank fault) → ReadsPlan r r' q q' (Ok rows)
      → IsRefusedLoad seen reason rows fault old new
      → Ended seen reason r r' q q' w w t t result old new
  refused new result rows fault same reads did = rw same record {
    loads = record { answer = Ok rows; reads = reads; does = (Err fault, (refl, Keeps-refl w), did) };
    line = tt;
    silent = λ other. Keeps-refl w;
    unprinted = λ is. absurd (never_write fault (cc is));
  }

  -- the openings were answered, but a prefix of the line was printed
  pub unprinted : (w' : Option (List ℕ)) (t' : Option (List WriteCall)) (new : C)
      (result : Result Loaded CommandFault) (rows : Rows)
      (loaded : Loaded) → result ≡ Err Write → ReadsPlan r r' q q' (Ok rows)
      → Loads rows (seen old) (seen new) loaded → AppendsPart w w' (loaded_line loaded)
      → HasWriteFailed t t' → Ended seen reason r r' q q' w w' t t' result old new
  unprinted w' t' new result rows loaded same reads did part failed = rw same record {
    loads = record { answer = Ok rows; reads = reads; does = (Ok loaded, inr (refl, part), did) };
    line = tt;
    silent = λ other. absurd (other refl);
    unprinted = λ is. failed;
  }

  -- they were, and it was printed
  pub printed : (w' : Option (List ℕ)) (t' : Option (List WriteCall)) (new : C) (rows : Rows) (loaded : Loaded)
      → Appends w w' (loaded_line loaded) → ReadsPlan r r' q q' (Ok rows)
      → Loads rows (seen old) (seen new) loaded
      → Ended seen reason r r' q q' w w' t t' (Ok loaded) old new
  printed w' t' new rows loaded line reads did = record {
    loads = record { answer = Ok rows; reads = reads; does = (Ok loaded, inl (refl, line), did) };
    line = line;
    silent = tt;
    unprinted = λ is. cc;
  }

-- ---- a plan of a name

-- it wasn't opened
pub unopened : {C P : Type 0} (seen : C → Seen) (reason : Fault → C → C → Type 0) (IsNamed : P → Type 0)
    (known : P → Option (List ℕ) × Option (List ReadCall)) (w : Option (List ℕ)) (bank : C)
    (result : Result Loaded CommandFault) (cause : CommandFault) → result ≡ Err cause → IsOfPlanFile cause
    → LoadsOver seen reason IsNamed known w w (λ end. ended_by_load result ≡ end) bank bank
unopened seen reason IsNamed known w bank result cause same is =
    rw same (inl ((cause, is, refl), Keeps-refl w, refl))

-- no fault of its opening is one of the output
pub file_not_write : (cause : CommandFault) → IsOfPlanFile cause → cause ≡ Write → ⊥
file_not_write cause is e = subst IsOfPlanFile e is
