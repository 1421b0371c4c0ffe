-- What the works that replay the bank that is found, and that write its requests and its branches, do with it, and how
-- they end: old is the bank before and new after, and end the status or the fault. w and w' are the known bytes of the
-- output before and after, and t and t' what its calls are known to have returned.
use Rattle.std.specs.Prelude.{◌≡◌, ◌≢◌, ℕ, List, Option, Some, None, Result, Ok, Err}
use Rattle.std.specs.Io.KnownBytes.{Keeps}
use Rattle.sqlite_trees.specs.declared.store.Store.{Ghosts}
use Rattle.posting_rules.specs.believed.Commands.{Command}
use Rattle.posting_rules.specs.believed.Counter.{ShowsLog}
use Rattle.posting_rules.specs.declared.fault.{Fault.Fault, Rule.Rule}
use Rattle.posting_rules.specs.declared.fault.Fault.TheVariants.{Damaged, Memory}
use Rattle.posting_core.specs.EndCalls.{WriteCall}
use Rattle.sql_meanings.specs.believed.Entries.{Entry}
use Rattle.store_rows.specs.believed.BankTables.{branch as branch_table, floor as floor_table}
use Rattle.walked_rows.specs.KeptRows.{HasKept, KeptItem}
use Rattle.walked_rows.specs.Rows.{HasStoredRows}
use Rattle.bank_store.specs.believed.Seen.{bank_seen, database_of, file_of}
use Rattle.bank_store.specs.declared.bank.Bank.{Bank}
use Rattle.bank_replays.specs.{Damaged.TellsWhy, Damaged.fault_in, DifferenceText.difference_text}
use Rattle.bank_replays.specs.Differences.{DiffersFrom}
use Rattle.posting_core.specs.believed.LogEntries.{answered_after}
use Rattle.bank_replays.specs.Digests.{DigestsFirst, DigestsRows}
use Rattle.bank_replays.specs.FileTables.{FileTables, HasTables, IsKept}
use Rattle.bank_replays.specs.Reading.{IsOnlyRead}
use Rattle.bank_replays.specs.Replays.{AreDigestsIn, OnAgrees, OnDiffers, Replays}
use Rattle.bank_replays.specs.Writing.{ExportsRows, LeavesWriter, WritesPlan, WritesSound, records_of}
use Rattle.bank_replays.specs.declared.chain.Digest.{Digest}
use Rattle.bank_replays.specs.declared.difference.Replay.{Replay}
use Rattle.bank_replays.specs.declared.difference.Replay.TheVariants.{Agrees, Differs}
use Rattle.bank_replays.specs.declared.fault.ReplayFault.{ReplayFault}
use Rattle.bank_replays.specs.declared.fault.ReplayFault.TheVariants as written
use Rattle.command_line.specs.CommandFaults.{fault_of_bank}
use Rattle.command_line.specs.Replaying.{PrintsText, agreeing_lines, differing_lines, digest_lines}
use Rattle.command_line.specs.declared.fault.CommandFault.{CommandFault}
use Rattle.command_line.specs.declared.fault.CommandFault.TheVariants as faults
use Rattle.command_line.specs.declared.status.Status.{Status}
use Rattle.command_line.specs.declared.status.Status.TheVariants as statuses

-- ---- lines of what was found

-- how the program ends with this status, once its lines are printed
abbrev pub ended_with : Status → Result (Unit {0}) CommandFault → Result Status CommandFault
ended_with status (Ok done) = Ok status
ended_with status (Err fault) = Err fault

-- the lines were printed, and the program ends with this status; or they couldn't be, and it ends with why
abbrev pub TellsText : Status → List ℕ → (w w' : Option (List ℕ)) → (t t' : Option (List WriteCall))
    → Result Status CommandFault → Type 0
TellsText status text w w' t t' end =
    (printed : Result (Unit {0}) CommandFault) × PrintsText text w w' t t' printed × (end ≡ ended_with status printed)

-- nothing was printed, and the program ends with this fault
abbrev pub TellsFault : CommandFault → (w w' : Option (List ℕ)) → Result Status CommandFault → Type 0
TellsFault fault w w' end = (end ≡ Err fault) × Keeps w w'

-- ---- a replay

-- the digests and the verdict were printed; or the line of the difference, and the verdict
abbrev pub PrintsReplay : Result Replay Fault → (w w' : Option (List ℕ)) → (t t' : Option (List WriteCall))
    → Result Status CommandFault → Type 0
PrintsReplay (Ok (Agrees a)) w w' t t' end =
    TellsText statuses.Done (agreeing_lines a.digest.requests a.digest.sha256 a.plan a.closings) w w' t t' end
PrintsReplay (Ok (Differs d)) w w' t t' end =
    TellsText statuses.Differs (differing_lines (difference_text d)) w w' t t' end
PrintsReplay (Err fault) w w' t t' end = TellsFault (fault_of_bank fault) w w' end

-- a bank was replayed, whatever rows its file has
pub record ReplaysBank {S : Type 0} (g : Ghosts S) (found : Result Replay Fault) (old new : Bank S g)
    : Type 0 where
  pub agrees : (bank_seen g new).honest → IsKept (file_of old)
      → OnAgrees found (λ d. (log : List Command) × ShowsLog (bank_seen g old) log)
  pub digest : (bank_seen g new).honest → OnAgrees found (AreDigestsIn (database_of g old))
  pub differs : (bank_seen g new).honest → OnDiffers found (λ d. (f : FileTables)
      → HasTables (database_of g old) f → DiffersFrom f d)
  pub why : TellsWhy g (λ fault. fault) old new found
  pub bank : Replays (bank_seen g old) (bank_seen g new) found
  pub reads : IsOnlyRead g old new found

abbrev pub ReplaysFound : {S : Type 0} (g : Ghosts S) → (w w' : Option (List ℕ)) → (t t' : Option (List WriteCall))
    → (old new : Bank S g) → Result Status CommandFault → Type 0
ReplaysFound g w w' t t' old new end =
    (found : Result Replay Fault) × PrintsReplay found w w' t t' end × ReplaysBank g found old new

-- ---- the digest of the first so many requests

abbrev pub PrintsDigest : ℕ → Result (Option Digest) Fault → (w w' : Option (List ℕ))
    → (t t' : Option (List WriteCall)) → Result Status CommandFault → Type 0
PrintsDigest requests (Ok (Some d)) w w' t t' end =
    TellsText statuses.Done (digest_lines d.requests d.sha256) w w' t t' end
PrintsDigest requests (Ok None) w w' t t' end = TellsFault (faults.NoRequest requests) w w' end
PrintsDigest requests (Err fault) w w' t t' end = TellsFault (fault_of_bank fault) w w' end

pub record DigestsBank {S : Type 0} (g : Ghosts S) (requests : ℕ) (found : Result (Option Digest) Fault)
    (old new : Bank S g) : Type 0 where
  pub rows : (bank_seen g new).honest → (all : List KeptItem) → HasKept (database_of g old) all
      → DigestsRows requests all found
  pub log : (bank_seen g new).honest → (log : List Command) → ShowsLog (bank_seen g old) log
      → DigestsFirst requests (answered_after log) found
  pub why : TellsWhy g (λ fault. fault) old new found
  pub frugal : found ≢ Err Memory
  pub reads : IsOnlyRead g old new found

abbrev pub DigestsFound : {S : Type 0} (g : Ghosts S) → ℕ → (w w' : Option (List ℕ)) → (t t' : Option (List WriteCall))
    → (old new : Bank S g) → Result Status CommandFault → Type 0
DigestsFound g requests w w' t t' old new end =
    (found : Result (Option Digest) Fault) × PrintsDigest requests found w w' t t' end
    × DigestsBank g requests found old new

-- ---- records, and a plan

-- how what was written ends the command
abbrev pub ended_by_writing : Result (Unit {0}) ReplayFault → Result Status CommandFault
ended_by_writing (Ok done) = Ok statuses.Done
ended_by_writing (Err written.Write) = Err faults.Write
ended_by_writing (Err (written.Bank cause)) = Err (fault_of_bank cause)

-- the requests after the first so many were written as records, whatever rows the file has
pub record ExportsBank {S : Type 0} (g : Ghosts S) (after : ℕ) (w w' : Option (List ℕ))
    (t t' : Option (List WriteCall)) (ends : Result (Unit {0}) ReplayFault) (old new : Bank S g) : Type 0 where
  pub rows : (bank_seen g new).honest → (all : List KeptItem) → HasKept (database_of g old) all
      → ExportsRows after all w w' ends
  pub log : (bank_seen g new).honest → (log : List Command) → ShowsLog (bank_seen g old) log
      → WritesSound (records_of after (answered_after log)) w w' ends
  pub writer : LeavesWriter t t' ends
  pub why : TellsWhy g fault_in old new ends
  pub reads : IsOnlyRead g old new ends

abbrev pub Exports : {S : Type 0} (g : Ghosts S) → ℕ → (w w' : Option (List ℕ)) → (t t' : Option (List WriteCall))
    → (old new : Bank S g) → Result Status CommandFault → Type 0
Exports g after w w' t t' old new end =
    (ends : Result (Unit {0}) ReplayFault) × (end ≡ ended_by_writing ends)
    × ExportsBank g after w w' t t' ends old new

-- the branches were written as a plan, whatever rows the file has
pub record PlansBank {S : Type 0} (g : Ghosts S) (w w' : Option (List ℕ)) (t t' : Option (List WriteCall))
    (ends : Result (Unit {0}) ReplayFault) (old new : Bank S g) : Type 0 where
  pub rows : (bank_seen g new).honest → (floors branches : List Entry)
      → HasStoredRows (database_of g old) floor_table floors
      → HasStoredRows (database_of g old) branch_table branches → WritesPlan floors branches w w' ends
  pub sound : (bank_seen g new).honest → (log : List Command) → ShowsLog (bank_seen g old) log → (rule : Rule)
      → ends ≢ Err (written.Bank (Damaged rule))
  pub writer : LeavesWriter t t' ends
  pub why : TellsWhy g fault_in old new ends
  pub reads : IsOnlyRead g old new ends

abbrev pub WritesPlanOf : {S : Type 0} (g : Ghosts S) → (w w' : Option (List ℕ)) → (t t' : Option (List WriteCall))
    → (old new : Bank S g) → Result Status CommandFault → Type 0
WritesPlanOf g w w' t t' old new end =
    (ends : Result (Unit {0}) ReplayFault) × (end ≡ ended_by_writing ends)
    × PlansBank g w w' t t' ends old new
