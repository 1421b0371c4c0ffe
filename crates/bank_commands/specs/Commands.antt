-- What each work does with the bank that is found, which is old before it and new after it, and how it ends: end is the
-- status or the fault. r and r' are the known bytes of its input before and after, w and w' those of its output, k and k'
-- the clock's known readings; what the calls of its ends are known to have returned is q and q' of the input, and t and
-- t' of the output; beside which sinks the input is known to have been read is b and b'. A bank that is made or carried
-- over comes over the connection conn, which is handed back as back.
use Rattle.std.specs.Prelude.{◌≡◌, ◌≢◌, ◌⊎◌, ◌+◌, ℕ, List, [], ◌∷◌, Option, Result, Ok, Err, IfErr, IfOk, OnOk, if◌then◌else◌}
use Rattle.std.specs.Io.KnownBytes.{Appends, IsAtEnd, Keeps}
use Rattle.std.specs.declared.net.socket_addr.SocketAddr.{SocketAddr}
use Rattle.sqlite.specs.Held.{Held}
use Rattle.sqlite_trees.specs.declared.store.Store.{Ghosts}
use Rattle.posting_rules.specs.believed.Commands.{Close}
use Rattle.posting_rules.specs.believed.Closings.{sealed}
use Rattle.posting_rules.specs.declared.closed_numbers.Closing.{Closing}
use Rattle.posting_rules.specs.declared.closed_numbers.Closing.TheVariants as answers
use Rattle.posting_rules.specs.declared.fault.Fault.{Fault}
use Rattle.posting_rules.specs.declared.fault.Fault.TheVariants.{Memory}
use Rattle.posting_core.specs.Stream.{Streams}
use Rattle.posting_core.specs.believed.EndCalls.{EndsWith, ReadCall}
use Rattle.posting_core.specs.EndCalls.{Beside, HasWriteFailed, IsFlush, WriteCall}
use Rattle.posting_core.specs.declared.stream.StreamFault.{StreamFault}
use Rattle.branch_loader.specs.declared.loader.Loaded.{Loaded}
use Rattle.load_driver.specs.declared.drive.Driven.{Driven}
use Rattle.report_contents.specs.Written.{AppendsPart}
use Rattle.report_contents.specs.declared.audit.Audit.{Audit}
use Rattle.report_contents.specs.declared.query.Query.{Query}
use Rattle.bank_store.specs.believed.BankSparing.{SparesOtherTables}
use Rattle.bank_store.specs.believed.Down.{AnswersBy, IsBankCall, bank_reason}
use Rattle.bank_store.specs.believed.Seen.{bank_seen}
use Rattle.bank_store.specs.Seen.{fault_of}
use Rattle.bank_store.specs.declared.bank.Bank.{Bank}
use Rattle.bank_store.specs.declared.migration.Migrated.{Migrated}
use Rattle.bank_store.specs.declared.migration.Migrated.TheVariants.{Already, Moved}
use Rattle.bank_reports.specs.AllStatements.{StatesAll, StatesAllOfFile}
use Rattle.bank_reports.specs.Audits.{Audits, AuditsFile}
use Rattle.bank_store.specs.Leaving.{CommitsAsFound, LeavesAsFound}
use Rattle.bank_reports.specs.Statements.{RefusesBalance, StatesFileSelected, StatesSelected}
use Rattle.bank_reports.specs.declared.fault.ReportFault.{ReportFault}
use Rattle.bank_reports.specs.declared.fault.ReportFault.TheVariants as report
use Rattle.store_rows.specs.declared.metas.TheConstants.{VERSION}
use Rattle.command_line.specs.Auditing.{Prints}
use Rattle.command_line.specs.CommandFaults.{IsOfFile, fault_of_bank, fault_of_stream}
use Rattle.command_line.specs.Lines.{already_line, created_line, driven_line, listening_line, loaded_line}
use Rattle.command_line.specs.Lines.{migrated_line, sealed_line, usable_line}
use Rattle.command_line.specs.Statuses.{status_of_loaded}
use Rattle.counter_http.specs.Clients.{ClientsCall}
use Rattle.counter_http.specs.Connections.{Known}
use Rattle.command_line.specs.Working.{DrivesOver, LoadsOver, ServesOver}
use Rattle.command_line.specs.declared.fault.CommandFault.{CommandFault}
use Rattle.command_line.specs.declared.fault.CommandFault.TheVariants as faults
use Rattle.command_line.specs.declared.status.Status.{Status}
use Rattle.command_line.specs.declared.status.Status.TheVariants.{Done}
use Rattle.bank_commands.specs.Over.{FindsOver, IsMadeOver, IsMigratedOver, IsUnmadeOver, IsUnmovedOver, RunsOver}

-- ---- a bank is made, or carried over

-- the line was printed; or a prefix of it, where it couldn't be written
abbrev pub TellsLine : (w w' : Option (List ℕ)) → List ℕ → Result Status CommandFault → Type 0
TellsLine w w' line (Ok status) = (status ≡ Done) × Appends w w' line
TellsLine w w' line (Err fault) = (fault ≡ faults.Write) × AppendsPart w w' line

-- a bank was made, and nothing was done with it
abbrev pub Inits : {S : Type 0} (g : Ghosts S) → (conn back : Held S) → (w w' : Option (List ℕ))
    → Result Status CommandFault → Type 0
Inits g conn back w w' end = RunsOver g (IsUnmadeOver g conn) back end (w' ≡ w)
    (λ old new. IsMadeOver g conn old × (new ≡ old) × TellsLine w w' created_line end)

-- the line that says what was done
abbrev pub migration_line : Migrated → List ℕ
migration_line (Moved from) = migrated_line from VERSION
migration_line Already = already_line VERSION

-- a bank was carried over, or was of this version already, and nothing was done with it
abbrev pub Migrates : {S : Type 0} (g : Ghosts S) → (conn back : Held S) → (w w' : Option (List ℕ))
    → Result Status CommandFault → Type 0
Migrates g conn back w w' end = RunsOver g (IsUnmovedOver g conn) back end (w' ≡ w)
    (λ old new. (migrated : Migrated) × IsMigratedOver g conn migrated old × (new ≡ old)
    × TellsLine w w' (migration_line migrated) end)

-- ---- records and branches are added

-- IsNamed says of a source that it is the plan's, and known what is known of one
abbrev pub Loads : {S P : Type 0} (g : Ghosts S) → (IsNamed : P → Type 0)
    → (known : P → Option (List ℕ) × Option (List ReadCall)) → (w w' : Option (List ℕ)) → (old new : Bank S g)
    → Result Status CommandFault → Type 0
Loads g IsNamed known w w' old new end =
    LoadsOver (bank_seen g) (bank_reason g) IsNamed known w w' (λ other. end ≡ other) old new
    × ((bank_seen g new).honest → (bank_seen g old).honest)

-- how a stream ends the command
abbrev pub ended_by : Result ℕ StreamFault → Result Status CommandFault
ended_by (Ok count) = Ok Done
ended_by (Err fault) = Err (fault_of_stream fault)

abbrev pub Posts : {S : Type 0} (g : Ghosts S) → (r r' : Option (List ℕ)) → (q q' : Option (List ReadCall))
    → (b b' : Option (List Beside)) → (w w' : Option (List ℕ)) → (t t' : Option (List WriteCall))
    → (k k' : Option (List ℕ)) → (old new : Bank S g) → Result Status CommandFault → Type 0
Posts g r r' q q' b b' w w' t t' k k' old new end =
    (streamed : Result ℕ StreamFault) × (end ≡ ended_by streamed)
    × Streams r r' q q' b b' w w' t t' k k' (bank_seen g) (bank_reason g) old new streamed

abbrev pub DrivesBank : {S : Type 0} (g : Ghosts S) → (w w' k k' : Option (List ℕ)) → (seed count : ℕ)
    → (old new : Bank S g) → Result Status CommandFault → Type 0
DrivesBank g w w' k k' seed count old new end =
    DrivesOver (bank_seen g) (bank_reason g) k k' w w' seed count (λ other. end ≡ other) old new

abbrev pub Serves : {S D E : Type 0} (g : Ghosts S) → (IsBound : D → Type 0) → (known : E → Known)
    → (calls : D → Option (List (ClientsCall E))) → (w w' k k' : Option (List ℕ)) → (count : ℕ)
    → (old new : Bank S g) → Result Status CommandFault → Type 0
Serves g IsBound known calls w w' k k' count old new end =
    ServesOver (bank_seen g) (bank_reason g) IsBound known calls k k' w w' count (λ other. end ≡ other) old new

-- the books were sealed
pub record SealsBank {S : Type 0} (g : Ghosts S) (closing : Result Closing Fault) (old new : Bank S g)
    : Type 0 where
  pub answer : AnswersBy g old new closing
      (λ log closing. closing ≡ if sealed log then answers.Already else answers.Closed)
  pub call : IsBankCall g old new (Close 0 0 ∷ []) closing
  pub frugal : closing ≢ Err Memory
  pub spares : SparesOtherTables g old new

abbrev pub PrintsSeal : Result Closing Fault → (w w' : Option (List ℕ)) → Result Status CommandFault → Type 0
PrintsSeal (Ok closing) w w' end = TellsLine w w' (sealed_line closing) end
PrintsSeal (Err fault) w w' end = (end ≡ Err (fault_of_bank fault)) × Keeps w w'

abbrev pub Seals : {S : Type 0} (g : Ghosts S) → (w w' : Option (List ℕ)) → (old new : Bank S g)
    → Result Status CommandFault → Type 0
Seals g w w' old new end =
    (closing : Result Closing Fault) × PrintsSeal closing w w' end × SealsBank g closing old new

-- ---- reports

-- a bank was audited, and so was its file, whatever rows that has
pub record AuditsBank {S : Type 0} (g : Ghosts S) (found : Result Audit Fault) (old new : Bank S g)
    : Type 0 where
  pub bank : Audits (bank_seen g old) (bank_seen g new) found
  pub file : (bank_seen g new).honest → AuditsFile g old new found
  pub memory : found ≡ Err Memory → new ≡ old
  pub up : fault_of new ≡ fault_of old
  pub leaves : LeavesAsFound g old new

abbrev pub AuditsFound : {S : Type 0} (g : Ghosts S) → (w w' : Option (List ℕ)) → (old new : Bank S g)
    → Result Status CommandFault → Type 0
AuditsFound g w w' old new end = (found : Result Audit Fault) × Prints found w w' end × AuditsBank g found old new

-- a bank was found, and nothing was done with it
abbrev pub LooksOver : {S : Type 0} (g : Ghosts S) → (conn back : Held S) → (w w' : Option (List ℕ))
    → Result Status CommandFault → Type 0
LooksOver g conn back w w' end =
    FindsOver g conn back end (w' ≡ w) (λ old new. (new ≡ old) × TellsLine w w' usable_line end)

-- how a statement of this account ends the command
abbrev pub stated_by : ℕ → Result (Unit {0}) ReportFault → Result Status CommandFault
stated_by account (Ok done) = Ok Done
stated_by account (Err report.NoAccount) = Err (faults.NoAccount account)
stated_by account (Err report.Write) = Err faults.Write
stated_by account (Err (report.Bank cause)) = Err (fault_of_bank cause)

-- what is asked for of an account of a bank was stated, and of its file, whatever rows that has
pub record StatesBank {S : Type 0} (g : Ghosts S) (account : ℕ) (query : Query) (w w' : Option (List ℕ))
    (t t' : Option (List WriteCall)) (stated : Result (Unit {0}) ReportFault) (old new : Bank S g)
    : Type 0 where
  pub bank : StatesSelected (bank_seen g old) (bank_seen g new) account query w w' stated
  pub file : (bank_seen g new).honest → ((bank_seen g new).is_down → ⊥)
      → StatesFileSelected g old new account query w w' stated
  pub refused : (bank_seen g new).is_down → RefusesBalance g old new stated
  pub flushed : OnOk stated (EndsWith IsFlush t t')
  pub failed : stated ≡ Err report.Write → HasWriteFailed t t'
  pub frugal : stated ≢ Err (report.Bank Memory)
  pub leaves : CommitsAsFound g old new

abbrev pub States : {S : Type 0} (g : Ghosts S) → ℕ → Query → (w w' : Option (List ℕ))
    → (t t' : Option (List WriteCall)) → (old new : Bank S g) → Result Status CommandFault → Type 0
States g account query w w' t t' old new end =
    (stated : Result (Unit {0}) ReportFault) × (end ≡ stated_by account stated)
    × StatesBank g account query w w' t t' stated old new

-- how the statements of all accounts end it; none misses an account
abbrev pub EndsAllStated : Result (Unit {0}) ReportFault → Result Status CommandFault → Type 0
EndsAllStated (Ok done) end = end ≡ Ok Done
EndsAllStated (Err report.NoAccount) end = ⊥
EndsAllStated (Err report.Write) end = end ≡ Err faults.Write
EndsAllStated (Err (report.Bank cause)) end = end ≡ Err (fault_of_bank cause)

-- what is asked for of all accounts of a bank was stated, and of its file, whatever rows that has
pub record StatesAllOfBank {S : Type 0} (g : Ghosts S) (query : Query) (w w' : Option (List ℕ))
    (t t' : Option (List WriteCall)) (stated : Result (Unit {0}) ReportFault) (old new : Bank S g)
    : Type 0 where
  pub bank : StatesAll (bank_seen g old) (bank_seen g new) query w w' stated
  pub file : (bank_seen g new).honest → StatesAllOfFile g old new query w w' stated
  pub flushed : OnOk stated (EndsWith IsFlush t t')
  pub failed : stated ≡ Err report.Write → HasWriteFailed t t'
  pub memory : stated ≡ Err (report.Bank Memory) → w' ≡ w
  pub up : (bank_seen g new).is_down → (bank_seen g old).is_down
  pub leaves : LeavesAsFound g old new

abbrev pub StatesEach : {S : Type 0} (g : Ghosts S) → Query → (w w' : Option (List ℕ))
    → (t t' : Option (List WriteCall)) → (old new : Bank S g) → Result Status CommandFault → Type 0
StatesEach g query w w' t t' old new end =
    (stated : Result (Unit {0}) ReportFault) × EndsAllStated stated end
    × StatesAllOfBank g query w w' t t' stated old new

-- ---- how a command ends and what it prints, whatever bank is there

-- at Ok a line of those that it has, and at a fault nothing, or a prefix of one where it couldn't be written
abbrev pub PrintsOne : (w w' : Option (List ℕ)) → (Line : Status → List ℕ → Type 0) → Result Status CommandFault
    → Type 0
PrintsOne w w' Line (Ok status) = (text : List ℕ) × Line status text × Appends w w' text
PrintsOne w w' Line (Err fault) = Keeps w w'
    ⊎ ((fault ≡ faults.Write) × (status : Status) × (text : List ℕ) × Line status text × AppendsPart w w' text)

abbrev pub PrintsLoad : (w w' : Option (List ℕ)) → Result Status CommandFault → Type 0
PrintsLoad w w' end = PrintsOne w w'
    (λ status text. (loaded : Loaded) × (status ≡ status_of_loaded loaded) × (text ≡ loaded_line loaded)) end

abbrev pub PrintsDrive : (w w' : Option (List ℕ)) → ℕ → Result Status CommandFault → Type 0
PrintsDrive w w' count end = PrintsOne w w'
    (λ status text. (driven : Driven) × (status ≡ Done) × (text ≡ driven_line count driven)
    × (driven.posted + driven.refused ≡ count)) end

-- where it listens, before it serves
abbrev pub PrintsServe : (w w' : Option (List ℕ)) → Result Status CommandFault → Type 0
PrintsServe w w' (Ok status) = (status ≡ Done) × (address : SocketAddr) × Appends w w' (listening_line address)
PrintsServe w w' (Err fault) = Keeps w w'
    ⊎ ((address : SocketAddr) × (Appends w w' (listening_line address)
    ⊎ ((fault ≡ faults.Write) × AppendsPart w w' (listening_line address))))

-- all input was read, or none where there was no bank
abbrev pub EndsPost : (r r' w w' : Option (List ℕ)) → Result Status CommandFault → Type 0
EndsPost r r' w w' end = IfOk end (λ status. (status ≡ Done) × IsAtEnd r')
    × IfErr end (λ fault. IsOfFile fault → (r' ≡ r) × (w' ≡ w))
