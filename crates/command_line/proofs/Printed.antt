-- What was printed of a drive and of a replay.
use Rattle.std.proofs.Common.{◌≡◌, ◌≤◌, ap, inl, inr, refl, ℕ, List, [], length, take, Option, Result, Ok, Err}
use Rattle.std.proofs.Common.{OnOk, arith, subst, sym}
use Rattle.std.proofs.{lemmas.List.take_all, KnownBytes.Appends-nil, KnownBytes.Keeps-refl}
use Rattle.std.specs.{Prelude.OnErr, Result.IsErrOf, Io.KnownBytes.Appends}
use Rattle.posting_rules.specs.{believed.Counter.Seen, declared.fault.Fault.Fault}
use Rattle.posting_core.proofs.Telling.{adds-none}
use Rattle.posting_core.specs.{believed.EndCalls.EndsWith, EndCalls.HasWriteFailed, EndCalls.IsFlush, EndCalls.WriteCall}
use Rattle.report_contents.specs.Written.{AppendsPart}
use Rattle.load_driver.specs.{believed.Drives.Drives, declared.drive.Driven.Driven}
use Rattle.command_line.specs.Lines.{PrintsLine, WritesOut, driven_line}
use Rattle.command_line.specs.declared.fault.CommandFault.{CommandFault, TheVariants.Memory, TheVariants.Write}
use Rattle.command_line.specs.Replaying.{PrintsText}
use Rattle.command_line.specs.Working.{DrivesOver, TellsDriven, done_after}

-- a prefix of a text
pub part_of : {old new : Option (List ℕ)} {text : List ℕ}
    → (n : ℕ) × (n ≤ length text) × Appends old new (take n text) → AppendsPart old new text
part_of p = record { count = p.0; within = p.1; wrote = p.2 }

-- the line has the counts of the drive's replies, and each record was posted or not
pub told_driven : {C : Type 0} (seen : C → Seen) (old new : C) (k k' : Option (List ℕ)) (seed count : ℕ)
    (before after : Option (List ℕ)) (r : Result (Unit {0}) CommandFault) (driven : Driven)
    → Drives seen old new k k' seed count (Ok driven)
    → OnOk r (Appends before after (driven_line count driven))
    → OnOk r (TellsDriven count before after)
told_driven seen old new k k' seed count before after (Ok done) driven drives line =
    (driven, drives.submits.ends.total, line)
told_driven seen old new k k' seed count before after (Err fault) driven drives line = tt

-- ---- what was written to standard error

-- a text was written out, or a prefix of it
pub written_out : {E : Type 0} (text : List ℕ) (w w' : Option (List ℕ)) (t t' : Option (List WriteCall))
    (r : Result (Unit {0}) E)
    → (n : ℕ) × (n ≤ length text) × Appends w w' (take n text) × OnOk r (n ≡ length text)
    → OnOk r (EndsWith IsFlush t t') → OnErr r (HasWriteFailed t t') → WritesOut text w w' t t'
written_out text w w' t t' (Ok done) wrote flushed failed =
    let all : take wrote.0 text ≡ text = take_all wrote.0 text (omega (arith, wrote.3)) in
    inl (subst (λ (bytes : List ℕ). Appends w w' bytes) all wrote.2, inr flushed)
written_out text w w' t t' (Err fault) wrote flushed failed = inr (part_of (wrote.0, wrote.1, wrote.2), failed)

-- a whole text is a prefix of itself
pub in_part : (text : List ℕ) (w w' : Option (List ℕ)) (t t' : Option (List WriteCall)) → WritesOut text w w' t t'
    → AppendsPart w w' text
in_part text w w' t t' (inl out) = record {
  count = length text;
  within = omega arith;
  wrote = subst (λ (bytes : List ℕ). Appends w w' bytes) (sym (take_all (length text) text (omega arith))) out.0;
}
in_part text w w' t t' (inr part) = part.0

-- none was due
pub none_due : (w : Option (List ℕ)) (t : Option (List WriteCall)) → WritesOut [] w w t t
none_due w t = inl (Appends-nil w, inl (adds-none t))

-- ---- how a drive ends

-- it was done, and its line was printed, or a prefix of it
pub drive_printed : {C : Type 0} (seen : C → Seen) (reason : Fault → C → C → Type 0) (old new : C)
    (k k' : Option (List ℕ)) (seed count : ℕ) (w w' : Option (List ℕ)) (t t' : Option (List WriteCall))
    (r : Result (Unit {0}) CommandFault) (driven : Driven) → Drives seen old new k k' seed count (Ok driven)
    → PrintsLine (driven_line count driven) w w' t t' r → OnErr r (IsErrOf r Write)
    → DrivesOver seen reason k k' w w' seed count (λ end. done_after r ≡ end) old new
drive_printed seen reason old new k k' seed count w w' t t' (Ok done) driven drives prints fault =
    (Ok driven, inl (refl, prints.line), drives, tt)
drive_printed seen reason old new k k' seed count w w' t t' (Err cause) driven drives prints fault =
    (Ok driven, inr (ap done_after fault, part_of prints.part), drives, tt)

-- ---- a text that was made in memory

-- memory for it was refused
pub text_unmade : (text : List ℕ) (w : Option (List ℕ)) (t : Option (List WriteCall))
    → PrintsText text w w t t (Err Memory)
text_unmade text w t = record {
  line = tt;
  flushed = tt;
  part = λ bad. cc;
  failed = λ bad. cc;
  silent = λ other. Keeps-refl w;
  memory = λ other. refl;
}

-- or it was printed as a line is
pub text_printed : (text : List ℕ) (w w' : Option (List ℕ)) (t t' : Option (List WriteCall))
    (r : Result (Unit {0}) CommandFault) → PrintsLine text w w' t t' r → OnErr r (IsErrOf r Write)
    → OnErr r (HasWriteFailed t t') → PrintsText text w w' t t' r
text_printed text w w' t t' (Ok done) prints fault failed = record {
  line = prints.line;
  flushed = prints.flushed;
  part = λ bad. cc;
  failed = λ bad. cc;
  silent = tt;
  memory = tt;
}
text_printed text w w' t t' (Err cause) prints fault failed =
    let is : cause ≡ Write = cc fault in
    record {
      line = tt;
      flushed = tt;
      part = λ same. part_of prints.part;
      failed = λ same. failed;
      silent = λ other. absurd (other is);
      memory = λ other. absurd (other is);
    }
