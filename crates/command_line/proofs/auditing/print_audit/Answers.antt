-- The audit that was told, or the fault.
use Rattle.std.proofs.Common.{◌≡◌, ◌⊎◌, Bool, Err, false, true, ap, inl, inr, refl}
use Rattle.std.specs.Prelude.{if◌then◌else◌}
use Rattle.std.proofs.KnownBytes.{Keeps-refl}
use Rattle.report_contents.specs.Audit.{is_sound}
use Rattle.command_line.specs.{CommandFaults.fault_of_bank, declared.fault.CommandFault.TheVariants.Write}
use Rattle.command_line.specs.declared.status.Status.{Status, TheVariants.Done, TheVariants.Inconsistent}
use Rattle.command_line.proofs.LoadEnds.{never_write}
use Rattle.command_line.proofs.auditing.print_audit.Goals as goal

either : (sound : Bool) (status : Status) → status ≡ if sound then Done else Inconsistent
    → (status ≡ Done) ⊎ (status ≡ Inconsistent)
either true status is = inl is
either false status is = inr is

pub returns-in-Err : goal.returns-in-Err
returns-in-Err g c = record {
  prints = rw c.in-Err.is (ap Err c.from.ensures, Keeps-refl (g.W.Sink.contents c.args.output.now));
  unprinted = λ e.
      let is : fault_of_bank c.in-Err.fault ≡ Write = cc (e, c.from.ensures) in
      absurd (never_write c.in-Err.fault is);
  ends = tt;
}

pub returns-in-Ok-write_audit : goal.returns-in-Ok-write_audit
returns-in-Ok-write_audit g c = record {
  prints = rw c.in-Ok.is (c.status_of.ensures, c.in-Ok-write_audit.ensures.ok);
  unprinted = λ e. cc;
  ends = either (is_sound c.in-Ok.found) c.status_of.result c.status_of.ensures;
}

pub returns : goal.returns
returns g c = record {
  prints = rw c.in-Ok.is (refl, c.in-Err-write_audit.ensures.err);
  unprinted = λ _. c.in-Err-write_audit.ensures.failed;
  ends = tt;
}
