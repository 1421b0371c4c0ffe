-- What the command `audit` prints, and how it ends.
use Rattle.std.specs.Prelude.{◌≡◌, ℕ, List, Option, Result, Ok, Err, if◌then◌else◌}
use Rattle.std.specs.Io.KnownBytes.{Appends, Keeps}
use Rattle.posting_rules.specs.declared.fault.Fault.{Fault}
use Rattle.report_contents.specs.Audit.{is_sound}
use Rattle.report_contents.specs.AuditText.{audit_text}
use Rattle.report_contents.specs.Written.{AppendsPart}
use Rattle.report_contents.specs.declared.audit.Audit.{Audit}
use Rattle.command_line.specs.CommandFaults.{fault_of_bank}
use Rattle.command_line.specs.declared.fault.CommandFault.{CommandFault}
use Rattle.command_line.specs.declared.fault.CommandFault.TheVariants.{Write}
use Rattle.command_line.specs.declared.status.Status.{Status}
use Rattle.command_line.specs.declared.status.Status.TheVariants.{Done, Inconsistent}

-- the program ends in its own way where the books don't agree
abbrev pub status_of_audit : Audit → Status
status_of_audit a = if is_sound a then Done else Inconsistent

-- The text of the audit was printed, or where the writer failed a prefix of it. Nothing was where the
-- bank returned a fault.
abbrev pub Prints : Result Audit Fault → Option (List ℕ) → Option (List ℕ) → Result Status CommandFault
    → Type 0
Prints (Ok a) w w' (Ok status) = (status ≡ status_of_audit a) × Appends w w' (audit_text a)
Prints (Ok a) w w' (Err fault) = (fault ≡ Write) × AppendsPart w w' (audit_text a)
Prints (Err cause) w w' result = (result ≡ Err (fault_of_bank cause)) × Keeps w w'
