-- What the works that write a log, and that follow one, do with the bank that is found, which is old before them and new
-- after them, and how they end: end is the status or the fault. r and r' are the known bytes of the input before and
-- after, and w and w' those of the output; what the calls of these are known to have returned is q and q', and t and t'.
use Rattle.std.specs.Prelude.{◌≡◌, ◌≢◌, ◌++◌, ℕ, ℤ, pos, List, [], ◌∷◌, length, Option, Result, Ok, Err, IfOk, OnOk, if◌then◌else◌, nat_lt}
use Rattle.std.specs.Io.KnownBytes.{Appends, Keeps}
use Rattle.sqlite_trees.specs.declared.store.Store.{Ghosts}
use Rattle.posting_rules.specs.believed.Commands.{Command}
use Rattle.posting_rules.specs.believed.Counter.{ShowsLog}
use Rattle.posting_rules.specs.declared.fault.Fault.{Fault}
use Rattle.posting_rules.specs.declared.fault.Fault.TheVariants.{Damaged, Memory}
use Rattle.posting_rules.specs.declared.fault.Rule.{Rule}
use Rattle.posting_core.specs.believed.LogEntries.{log_entries}
use Rattle.posting_core.specs.EndCalls.{WriteCall}
use Rattle.posting_core.specs.believed.EndCalls.{ReadCall}
use Rattle.store_rows.specs.believed.BankTables.{meta as meta_table}
use Rattle.walked_rows.specs.KeptRows.{HasKept, KeptItem}
use Rattle.walked_rows.specs.OnlyMeta.{bank_entry}
use Rattle.walked_rows.specs.Rows.{HasStoredRows}
use Rattle.bank_store.specs.believed.Down.{bank_reason}
use Rattle.bank_store.specs.believed.Seen.{bank_seen, database_of}
use Rattle.bank_store.specs.believed.BankSparing.{SparesOtherTables}
use Rattle.bank_store.specs.declared.bank.Bank.{Bank}
use Rattle.bank_replays.specs.Damaged.{TellsCount, TellsWhy, fault_in}
use Rattle.bank_replays.specs.Logs.{LogsEntries, LogsRows, without_count}
use Rattle.bank_replays.specs.Reading.{IsOnlyRead}
use Rattle.bank_replays.specs.Writing.{LeavesWriter}
use Rattle.bank_replays.specs.declared.fault.ReplayFault.{ReplayFault}
use Rattle.bank_replays.specs.declared.fault.ReplayFault.TheVariants as written
use Rattle.command_line.specs.CommandFaults.{fault_of_bank}
use Rattle.command_line.specs.Following.{FollowsOver}
use Rattle.command_line.specs.Lines.{after_line, followed_line}
use Rattle.command_line.specs.Working.{done_after}
use Rattle.command_line.specs.declared.fault.CommandFault.{CommandFault}
use Rattle.command_line.specs.declared.fault.CommandFault.TheVariants as faults
use Rattle.command_line.specs.declared.status.Status.{Status}
use Rattle.command_line.specs.declared.status.Status.TheVariants.{Done}

-- ---- a log

-- how the entries after the first so many end the command
abbrev pub ended_by_log : ℕ → Result ℕ ReplayFault → Result Status CommandFault
ended_by_log after (Ok requests) = if nat_lt requests after then Err (faults.NoRequest after) else Ok Done
ended_by_log after (Err written.Write) = Err faults.Write
ended_by_log after (Err (written.Bank cause)) = Err (fault_of_bank cause)

-- they were written, whatever rows the file has
pub record LogsBank {S : Type 0} (g : Ghosts S) (after : ℕ) (w w' : Option (List ℕ))
    (t t' : Option (List WriteCall)) (ends : Result ℕ ReplayFault) (old new : Bank S g) : Type 0 where
  pub rows : (bank_seen g new).honest → (all : List KeptItem) → HasKept (database_of g old) all
      → LogsRows after all w w' ends
  pub log : (bank_seen g new).honest → (log : List Command) → ShowsLog (bank_seen g old) log
      → LogsEntries after (log_entries log) w w' ends
  pub writer : LeavesWriter t t' (without_count ends)
  pub why : TellsWhy g fault_in old new ends
  pub reads : IsOnlyRead g old new ends

abbrev pub Logs : {S : Type 0} (g : Ghosts S) → ℕ → (w w' : Option (List ℕ)) → (t t' : Option (List WriteCall))
    → (old new : Bank S g) → Result Status CommandFault → Type 0
Logs g after w w' t t' old new end =
    (ends : Result ℕ ReplayFault) × (end ≡ ended_by_log after ends) × LogsBank g after w w' t t' ends old new

-- ---- a log is followed

-- the requests of a bank were counted
pub record CountsBank {S : Type 0} (g : Ghosts S) (counted : Result ℕ Fault) (old new : Bank S g) : Type 0 where
  -- of any file it is the count of `meta`
  pub rows : (bank_seen g new).honest → (version decided : ℤ)
      → HasStoredRows (database_of g old) meta_table (bank_entry version decided ∷ [])
      → IfOk counted (λ count. pos count ≡ decided)
  pub log : (bank_seen g new).honest → (log : List Command) → ShowsLog (bank_seen g old) log
      → IfOk counted (λ count. count ≡ length (log_entries log))
  pub sound : (bank_seen g new).honest → (log : List Command) → ShowsLog (bank_seen g old) log → (rule : Rule)
      → counted ≢ Err (Damaged rule)
  pub why : TellsCount g old new counted
  pub frugal : counted ≢ Err Memory
  pub reads : IsOnlyRead g old new counted
  pub same : (bank_seen g new).honest → OnOk counted (database_of g new ≡ database_of g old)

-- and then the log was followed; or they couldn't be counted, and nothing was done
abbrev pub FollowsCounted : {S P : Type 0} (g : Ghosts S) → (IsNamed : P → Type 0)
    → (known : P → Option (List ℕ) × Option (List ReadCall)) → (r r' : Option (List ℕ))
    → (q q' : Option (List ReadCall)) → (w w' : Option (List ℕ)) → Result ℕ Fault → (old new : Bank S g)
    → Result (Unit {0}) CommandFault → Type 0
FollowsCounted g IsNamed known r r' q q' w w' (Ok requests) old new result =
    FollowsOver (bank_seen g) (SparesOtherTables g) (bank_reason g) IsNamed known requests r r' q q' w w' old new result
FollowsCounted g IsNamed known r r' q q' w w' (Err cause) old new result =
    (result ≡ Err (fault_of_bank cause)) × Keeps w w' × (r' ≡ r) × (new ≡ old)

pub record FollowsCounting {S P : Type 0} (g : Ghosts S) (IsNamed : P → Type 0)
    (known : P → Option (List ℕ) × Option (List ReadCall)) (r r' : Option (List ℕ))
    (q q' : Option (List ReadCall)) (w w' : Option (List ℕ)) (old new : Bank S g)
    (result : Result (Unit {0}) CommandFault) : Type 0 where
  pub counted : Result ℕ Fault
  pub stood : Bank S g
  pub counts : CountsBank g counted old stood
  pub follows : FollowsCounted g IsNamed known r r' q q' w w' counted stood new result

-- IsNamed says of a source that it is the plan's, and known what is known of one
abbrev pub Follows : {S P : Type 0} (g : Ghosts S) → (IsNamed : P → Type 0)
    → (known : P → Option (List ℕ) × Option (List ReadCall)) → (r r' : Option (List ℕ))
    → (q q' : Option (List ReadCall)) → (w w' : Option (List ℕ)) → (old new : Bank S g)
    → Result Status CommandFault → Type 0
Follows g IsNamed known r r' q q' w w' old new end =
    (result : Result (Unit {0}) CommandFault) × (end ≡ done_after result)
    × FollowsCounting g IsNamed known r r' q q' w w' old new result

-- at Ok both lines were printed, whatever bank is there
abbrev pub PrintsFollow : (w w' : Option (List ℕ)) → Result Status CommandFault → Type 0
PrintsFollow w w' end = IfOk end (λ status. (status ≡ Done) × (requests : ℕ) × (entries : ℕ)
    × Appends w w' (after_line requests ++ followed_line entries))
