-- A command that ends as one whose output failed had it fail.
use Rattle.std.proofs.Common.{◌≡◌, ◌∙◌, refl, sym, ℕ, List, Option, Result, Ok, Err, Bool, true, false, Some, None}
use Rattle.std.proofs.Common.{OnErr, IsErrOf}
use Rattle.std.specs.Prelude.{IsErrAnd, if◌then◌else◌, nat_lt}
use Rattle.std.proofs.lemmas.Result.{err_from_is_err_and}
use Rattle.sqlite.specs.Held.{Held}
use Rattle.posting_rules.specs.declared.{fault.Fault.Fault, open_fault.OpenFault.OpenFault}
use Rattle.posting_rules.specs.declared.fault.Fault.TheVariants as bank
use Rattle.posting_rules.specs.declared.open_fault.OpenFault.TheVariants as opening
use Rattle.posting_core.specs.believed.EndCalls.{ReadCall}
use Rattle.posting_core.specs.{EndCalls.HasWriteFailed, EndCalls.WriteCall, Stream.StreamFaultIsOfItsEnd}
use Rattle.posting_core.specs.declared.stream.StreamFault.{StreamFault}
use Rattle.posting_core.specs.declared.stream.StreamFault.TheVariants as stream
use Rattle.branch_loader.specs.declared.loader.Loaded.{Loaded}
use Rattle.bank_reports.specs.declared.fault.ReportFault.{ReportFault}
use Rattle.bank_reports.specs.declared.fault.ReportFault.TheVariants as report
use Rattle.bank_replays.specs.declared.{chain.Digest.Digest, difference.Replay.Replay, fault.ReplayFault.ReplayFault}
use Rattle.bank_replays.specs.declared.difference.Replay.TheVariants as replays
use Rattle.bank_replays.specs.declared.fault.ReplayFault.TheVariants as written
use Rattle.bank_replays.specs.Logs.{without_count}
use Rattle.bank_store.specs.declared.refused.Refused.{Refused}
use Rattle.command_line.specs.CommandFaults.{fault_of_bank, fault_of_opening}
use Rattle.command_line.specs.Working.{done_after, ended_by_load}
use Rattle.command_line.specs.declared.fault.CommandFault.{CommandFault}
use Rattle.command_line.specs.declared.fault.CommandFault.TheVariants as fault
use Rattle.command_line.specs.declared.status.Status.{Status}
use Rattle.command_line.specs.declared.status.Status.TheVariants.{Done}
use Rattle.bank_commands.specs.Commands.{EndsAllStated, ended_by, stated_by}
use Rattle.bank_commands.specs.{Following.ended_by_log, Over.IsRefusedOver}
use Rattle.bank_commands.specs.Replaying.{PrintsDigest, PrintsReplay, TellsText, ended_by_writing, ended_with}

-- no bank is missed because the output failed
opening_not_write : {Q : Type 0} (f : OpenFault) → fault_of_opening f ≡ fault.Write → Q
opening_not_write opening.Store is = cc
opening_not_write opening.NotBlank is = cc
opening_not_write opening.Blank is = cc
opening_not_write opening.Foreign is = cc
opening_not_write (opening.Version n) is = cc
opening_not_write (opening.OtherTable table) is = cc
opening_not_write (opening.Damaged rule) is = cc

pub opening_is_no_write : {Q : Type 0} (f : OpenFault) (end : Result Status CommandFault)
    → end ≡ Err (fault_of_opening f) → IsErrOf end fault.Write → Q
opening_is_no_write f end same is =
    let bad : fault_of_opening f ≡ fault.Write = cc (same, is) in
    opening_not_write f bad

pub refused_not_write : {S Q : Type 0} (Why : Refused S → Type 0) (back : Held S) (end : Result Status CommandFault)
    → IsErrAnd end (IsRefusedOver Why back) → IsErrOf end fault.Write → Q
refused_not_write Why back end refused is =
    let f = err_from_is_err_and end refused in
    let same : f.0 ≡ fault.Write = cc (is, f.1) in
    opening_not_write f.2.refused.fault (sym f.2.reason ∙ same)

-- no call of a bank fails since the output did
pub bank_not_write : {Q : Type 0} (cause : Fault) → fault_of_bank cause ≡ fault.Write → Q
bank_not_write bank.Memory is = cc is
bank_not_write bank.Store is = cc is
bank_not_write bank.Down is = cc is
bank_not_write (bank.Damaged rule) is = cc is

-- how a bank's fault ends the command is how no output does
pub ends_by_bank : {Q : Type 0} (cause : Fault) (end : Result Status CommandFault) → end ≡ Err (fault_of_bank cause)
    → IsErrOf end fault.Write → Q
ends_by_bank cause end same is =
    let bad : fault_of_bank cause ≡ fault.Write = cc (same, is) in
    bank_not_write cause bad

-- and a work that is said to have failed to write did
module _ {Failed : Type 0} where
  pub done_not_written : (printed : Result (Unit {0}) CommandFault)
      → (IsErrOf printed fault.Write → Failed) → IsErrOf (done_after printed) fault.Write → Failed
  done_not_written (Ok done) failed is = cc
  done_not_written (Err f) failed is = failed (cc is)

  pub line_not_written : (printed : Result (Unit {0}) CommandFault) → OnErr printed Failed
      → IsErrOf (done_after printed) fault.Write → Failed
  line_not_written (Ok done) failed is = cc
  line_not_written (Err f) failed is = failed

  pub load_not_written : (loaded : Result Loaded CommandFault)
      → (IsErrOf loaded fault.Write → Failed) → IsErrOf (ended_by_load loaded) fault.Write → Failed
  load_not_written (Ok loaded) failed is = cc
  load_not_written (Err f) failed is = failed (cc is)

  pub stated_not_written : (account : ℕ) (stated : Result (Unit {0}) ReportFault)
      → (stated ≡ Err report.Write → Failed) → IsErrOf (stated_by account stated) fault.Write → Failed
  stated_not_written account (Ok done) failed is = cc
  stated_not_written account (Err report.NoAccount) failed is = cc
  stated_not_written account (Err report.Write) failed is = failed refl
  stated_not_written account (Err (report.Bank cause)) failed is = ends_by_bank cause _ refl is

  pub all_not_written : (stated : Result (Unit {0}) ReportFault) (end : Result Status CommandFault)
      → EndsAllStated stated end → (stated ≡ Err report.Write → Failed) → IsErrOf end fault.Write → Failed
  all_not_written (Ok done) end ends failed is = cc
  all_not_written (Err report.NoAccount) end ends failed is = absurd ends
  all_not_written (Err report.Write) end ends failed is = failed refl
  all_not_written (Err (report.Bank cause)) end ends failed is = ends_by_bank cause end ends is

  pub text_not_written : (ends : Result (Unit {0}) ReplayFault) → (ends ≡ Err written.Write → Failed)
      → IsErrOf (ended_by_writing ends) fault.Write → Failed
  text_not_written (Ok done) failed is = cc
  text_not_written (Err written.Write) failed is = failed refl
  text_not_written (Err (written.Bank cause)) failed is = ends_by_bank cause _ refl is

  by_requests : (fewer : Bool) (after : ℕ)
      → IsErrOf (let result : Result Status CommandFault = if fewer then Err (fault.NoRequest after) else Ok Done in result)
      fault.Write → Failed
  by_requests true after is = cc
  by_requests false after is = cc

  pub log_not_written : (after : ℕ) (ends : Result ℕ ReplayFault) → (without_count ends ≡ Err written.Write → Failed)
      → IsErrOf (ended_by_log after ends) fault.Write → Failed
  log_not_written after (Ok requests) failed is = by_requests (nat_lt requests after) after is
  log_not_written after (Err written.Write) failed is = failed refl
  log_not_written after (Err (written.Bank cause)) failed is = ends_by_bank cause _ refl is

-- ---- where lines are printed, or a stream was written

printed_not_written : (status : Status) (printed : Result (Unit {0}) CommandFault) (end : Result Status CommandFault)
    → end ≡ ended_with status printed → IsErrOf end fault.Write → IsErrOf printed fault.Write
printed_not_written status (Ok done) end same is = cc
printed_not_written status (Err f) end same is = cc

text_told : (status : Status) (text : List ℕ) (w w' : Option (List ℕ)) (t t' : Option (List WriteCall))
    (end : Result Status CommandFault) → TellsText status text w w' t t' end → IsErrOf end fault.Write
    → HasWriteFailed t t'
text_told status text w w' t t' end told is = told.1.failed (printed_not_written status told.0 end told.2 is)

pub replay_not_written : (found : Result Replay Fault) (w w' : Option (List ℕ)) (t t' : Option (List WriteCall))
    (end : Result Status CommandFault) → PrintsReplay found w w' t t' end → IsErrOf end fault.Write
    → HasWriteFailed t t'
replay_not_written (Ok (replays.Agrees a)) w w' t t' end told is = text_told _ _ w w' t t' end told is
replay_not_written (Ok (replays.Differs d)) w w' t t' end told is = text_told _ _ w w' t t' end told is
replay_not_written (Err cause) w w' t t' end told is = ends_by_bank cause end told.0 is

pub digest_not_written : (requests : ℕ) (found : Result (Option Digest) Fault) (w w' : Option (List ℕ))
    (t t' : Option (List WriteCall)) (end : Result Status CommandFault) → PrintsDigest requests found w w' t t' end
    → IsErrOf end fault.Write → HasWriteFailed t t'
digest_not_written requests (Ok (Some d)) w w' t t' end told is = text_told _ _ w w' t t' end told is
digest_not_written requests (Ok None) w w' t t' end told is = cc (told.0, is)
digest_not_written requests (Err cause) w w' t t' end told is = ends_by_bank cause end told.0 is

pub stream_not_written : (q q' : Option (List ReadCall)) (t t' : Option (List WriteCall))
    (streamed : Result ℕ StreamFault) → StreamFaultIsOfItsEnd streamed q q' t t'
    → IsErrOf (ended_by streamed) fault.Write → HasWriteFailed t t'
stream_not_written q q' t t' (Ok count) ends is = cc
stream_not_written q q' t t' (Err (stream.Truncated count)) ends is = cc
stream_not_written q q' t t' (Err stream.Read) ends is = cc
stream_not_written q q' t t' (Err stream.Write) ends is = ends
stream_not_written q q' t t' (Err (stream.Bank cause)) ends is = ends_by_bank cause _ refl is
