-- What the work of a command does to its bank, and the line that it prints of it.
use Rattle.std.specs.Prelude.{◌≡◌, ◌⊎◌, ◌+◌, ℕ, List, Option, Result, Ok, Err, IfErr, length}
use Rattle.std.specs.Io.KnownBytes.{Appends, Keeps}
use Rattle.std.specs.declared.net.socket_addr.SocketAddr.{SocketAddr}
use Rattle.posting_rules.specs.declared.fault.Fault.{Fault}
use Rattle.posting_rules.specs.believed.Counter.{Seen, Takes}
use Rattle.posting_rules.specs.Counter.{HasRefused}
use Rattle.posting_rules.specs.believed.ByCommands.{TakesByTables}
use Rattle.branch_loader.specs.believed.Loading.{IsRefusedAfter}
use Rattle.branch_loader.specs.Loading.{CountsAnswers, total}
use Rattle.branch_loader.specs.believed.Plans.{Rows}
use Rattle.branch_loader.specs.Plans.{ReadsPlan, openings}
use Rattle.branch_loader.specs.declared.fault.PlanFault.{PlanFault}
use Rattle.branch_loader.specs.declared.loader.Loaded.{Loaded}
use Rattle.load_driver.specs.believed.Drives.{Drives}
use Rattle.load_driver.specs.Drives.{IfRefused}
use Rattle.load_driver.specs.declared.drive.Driven.{Driven}
use Rattle.load_driver.specs.declared.drive_fault.DriveFault.{DriveFault}
use Rattle.counter_http.specs.Clients.{ClientsCall}
use Rattle.counter_http.specs.Connections.{Known}
use Rattle.counter_http.specs.together.Tracing.{ServesTogether}
use Rattle.counter_http.specs.declared.listen_fault.ListenFault.{ListenFault}
use Rattle.posting_core.specs.Stream.{IsOfCall}
use Rattle.posting_core.specs.believed.EndCalls.{ReadCall}
use Rattle.report_contents.specs.Written.{AppendsPart}
use Rattle.command_line.specs.CommandFaults.{fault_of_bank, fault_of_drive, fault_of_plan, fault_of_serving}
use Rattle.command_line.specs.Lines.{driven_line, listening_line, loaded_line}
use Rattle.command_line.specs.Looking.{IsOfPlanFile}
use Rattle.command_line.specs.Statuses.{status_of_loaded}
use Rattle.command_line.specs.declared.fault.CommandFault.{CommandFault}
use Rattle.command_line.specs.declared.fault.CommandFault.TheVariants.{Network, Write}
use Rattle.command_line.specs.declared.status.Status.{Status}
use Rattle.command_line.specs.declared.status.Status.TheVariants.{Done}

-- the bank took the openings of a plan's rows, and they were answered so many times in each way
pub record Loads (rows : Rows) (old new : Seen) (loaded : Loaded) : Type 0 where
  pub takes : Takes old new (openings rows)
  pub by_tables : TakesByTables old new (openings rows)
  pub all : total loaded ≡ length rows
  pub counts : CountsAnswers old new rows loaded

-- the bank answered some openings and refused the next one, for the reason that its fault gives
pub record IsRefusedLoad {C : Type 0} (seen : C → Seen) (reason : Fault → C → C → Type 0) (rows : Rows)
    (fault : Fault) (old new : C) : Type 0 where
  pub answered : ℕ
  pub after : IsRefusedAfter seen old new (openings rows) fault answered
  pub why : HasRefused seen reason old new fault

-- all were taken; or some were, and the bank refused the next one
abbrev pub LoadsAs : {C : Type 0} → (C → Seen) → (reason : Fault → C → C → Type 0) → Rows
    → Result Loaded Fault → (old new : C) → Type 0
LoadsAs seen reason rows (Ok loaded) old new = Loads rows (seen old) (seen new) loaded
LoadsAs seen reason rows (Err fault) old new = IsRefusedLoad seen reason rows fault old new

-- ---- what is printed of the work

-- so many records were driven, each was posted or not, and the line that says it was printed
abbrev pub TellsDriven : ℕ → Option (List ℕ) → Option (List ℕ) → Type 0
TellsDriven count old new =
    (driven : Driven) × (driven.posted + driven.refused ≡ count) × Appends old new (driven_line count driven)

-- ---- how a command ends that worked with a bank, and what it printed: w and w' are the known bytes of the
-- output, and Ends says of a result whether the command ends with it

-- with a fault of this kind
abbrev pub EndsInFault : (IsSo : CommandFault → Type 0) → (Ends : Result Status CommandFault → Type 0)
    → Type 0
EndsInFault IsSo Ends = (fault : CommandFault) × IsSo fault × Ends (Err fault)

-- with a line of what it did, or with a fault where a prefix of that line was written
abbrev pub EndsWithLine : (Ends : Result Status CommandFault → Type 0) → (w w' : Option (List ℕ)) → Status
    → List ℕ
    → Type 0
EndsWithLine Ends w w' status line =
    (Ends (Ok status) × Appends w w' line) ⊎ (Ends (Err Write) × AppendsPart w w' line)

-- with a fault, and nothing was printed
abbrev pub EndsSilently : (Ends : Result Status CommandFault → Type 0) → (w w' : Option (List ℕ))
    → CommandFault
    → Type 0
EndsSilently Ends w w' fault = Ends (Err fault) × Keeps w w'

abbrev pub TellsLoad : (Ends : Result Status CommandFault → Type 0) → (w w' : Option (List ℕ))
    → Result Loaded Fault → Type 0
TellsLoad Ends w w' (Ok loaded) = EndsWithLine Ends w w' (status_of_loaded loaded) (loaded_line loaded)
TellsLoad Ends w w' (Err fault) = EndsSilently Ends w w' (fault_of_bank fault)

abbrev pub TellsDrive : (Ends : Result Status CommandFault → Type 0) → (w w' : Option (List ℕ)) → (count : ℕ)
    → Result Driven DriveFault → Type 0
TellsDrive Ends w w' count (Ok driven) = EndsWithLine Ends w w' Done (driven_line count driven)
TellsDrive Ends w w' count (Err fault) = EndsSilently Ends w w' (fault_of_drive fault)

abbrev pub TellsServing : (Ends : Result Status CommandFault → Type 0) → Result (Unit {0}) ListenFault
    → Type 0
TellsServing Ends (Ok done) = Ends (Ok Done)
TellsServing Ends (Err fault) = Ends (Err (fault_of_serving fault))

-- ---- how the program ends after such a command

-- how the program ends where the command has nothing to say of its work
abbrev pub done_after : Result (Unit {0}) CommandFault → Result Status CommandFault
done_after (Ok done) = Ok Done
done_after (Err fault) = Err fault

-- how the program ends after a plan was loaded
abbrev pub ended_by_load : Result Loaded CommandFault → Result Status CommandFault
ended_by_load (Ok loaded) = Ok (status_of_loaded loaded)
ended_by_load (Err fault) = Err fault

-- ---- the work of such a command

-- the plan that was answered was loaded into a bank; or it is none, and the bank was left as it was
abbrev pub LoadsAnswer : {C : Type 0} → (C → Seen) → (reason : Fault → C → C → Type 0)
    → (w w' : Option (List ℕ)) → (Ends : Result Status CommandFault → Type 0) → Result Rows PlanFault
    → (old new : C) → Type 0
LoadsAnswer seen reason w w' Ends (Ok rows) old new =
    (answer : Result Loaded Fault) × TellsLoad Ends w w' answer × LoadsAs seen reason rows answer old new
LoadsAnswer seen reason w w' Ends (Err fault) old new = EndsSilently Ends w w' (fault_of_plan fault) × (new ≡ old)

-- that of a source: its known bytes before and after are r and r', and what its reads are known to have
-- returned q and q'
pub record LoadsFrom {C : Type 0} (seen : C → Seen) (reason : Fault → C → C → Type 0)
    (r r' : Option (List ℕ)) (q q' : Option (List ReadCall)) (w w' : Option (List ℕ))
    (Ends : Result Status CommandFault → Type 0) (old new : C) : Type 0 where
  pub answer : Result Rows PlanFault
  pub reads : ReadsPlan r r' q q' answer
  pub does : LoadsAnswer seen reason w w' Ends answer old new

-- what is known of a source: its bytes, and what its reads returned
abbrev pub known_source : {P : Type 0} → (P → Option (List ℕ)) → (P → Option (List ReadCall)) → P
    → Option (List ℕ) × Option (List ReadCall)
known_source remaining calls plan = (remaining plan, calls plan)

-- that of a plan that was opened by its name, as far as it was read; or none was, and the bank was left as it was.
-- IsNamed says of a source that the name is its, and known what is known of one
abbrev pub LoadsOver : {C P : Type 0} → (C → Seen) → (reason : Fault → C → C → Type 0) → (IsNamed : P → Type 0)
    → (known : P → Option (List ℕ) × Option (List ReadCall)) → (w w' : Option (List ℕ))
    → (Ends : Result Status CommandFault → Type 0) → (old new : C) → Type 0
LoadsOver {P = P} seen reason IsNamed known w w' Ends old new =
    (EndsInFault IsOfPlanFile Ends × Keeps w w' × (new ≡ old))
    ⊎ ((plan : P) × (left : P) × IsNamed plan
    × LoadsFrom seen reason (known plan).0 (known left).0 (known plan).1 (known left).1 w w' Ends old new)

-- so many records of a seed were submitted to a bank, or as many as it took; it refused a call for the reason
-- that its fault gives
abbrev pub DrivesOver : {C : Type 0} → (C → Seen) → (reason : Fault → C → C → Type 0)
    → (k k' w w' : Option (List ℕ)) → (seed count : ℕ) → (Ends : Result Status CommandFault → Type 0)
    → (old new : C) → Type 0
DrivesOver seen reason k k' w w' seed count Ends old new =
    (answer : Result Driven DriveFault) × TellsDrive Ends w w' count answer
    × Drives seen old new k k' seed count answer
    × IfErr answer (λ fault. IfRefused fault (IsOfCall seen reason old new))

-- The counter listened at an address, said so, and served so many clients by a bank, or as many as it and the
-- network let; or the line couldn't be written, and nothing was served. The calls of what gives clients had returned g
-- before and g' after, and of the ends of a client known says what is known.
abbrev pub ServesAt : {C E : Type 0} → (C → Seen) → (reason : Fault → C → C → Type 0) → (known : E → Known)
    → (g g' : Option (List (ClientsCall E))) → SocketAddr → (k k' w w' : Option (List ℕ)) → (count : ℕ)
    → (Ends : Result Status CommandFault → Type 0) → (old new : C) → Type 0
ServesAt seen reason known g g' address k k' w w' count Ends old new =
    (Ends (Err Write) × AppendsPart w w' (listening_line address) × (k' ≡ k) × (new ≡ old))
    ⊎ (Appends w w' (listening_line address) × (answer : Result (Unit {0}) ListenFault) × TellsServing Ends answer
    × ServesTogether seen reason known g g' k k' old new count answer)

-- So it did with the clients that come to the address that it was told; or it doesn't listen there, and nothing was done.
-- IsBound says of clients that they come there. No clause says of a listener of the system where it is bound, so that any
-- address may stand in the line: review `bind` of `bank_commands` by hand.
abbrev pub ServesOver : {C D E : Type 0} → (C → Seen) → (reason : Fault → C → C → Type 0) → (IsBound : D → Type 0)
    → (known : E → Known) → (calls : D → Option (List (ClientsCall E))) → (k k' w w' : Option (List ℕ)) → (count : ℕ)
    → (Ends : Result Status CommandFault → Type 0) → (old new : C) → Type 0
ServesOver {D = D} seen reason IsBound known calls k k' w w' count Ends old new =
    (Ends (Err Network) × Keeps w w' × (k' ≡ k) × (new ≡ old))
    ⊎ ((clients : D) × (left : D) × IsBound clients × (address : SocketAddr)
    × ServesAt seen reason known (calls clients) (calls left) address k k' w w' count Ends old new)
