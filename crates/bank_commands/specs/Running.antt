-- How a run of the program ends, by its words, and what it prints. e and e' are what is known of its input and its output
-- before and after, and k and k' the clock's known readings.
use Rattle.std.specs.Prelude.{◌≡◌, ◌≢◌, ◌⊎◌, ℕ, Bool, true, List, [], Option, None, Some, Result, Ok, Err}
use Rattle.std.specs.Prelude.{IfOk, option_map}
use Rattle.std.specs.Io.KnownBytes.{Keeps}
use Rattle.clap.specs.Words.{IsAmong, Text, fault_of, takes}
use Rattle.clap.specs.declared.error.kind.ErrorKind.{ErrorKind}
use Rattle.posting_rules.specs.declared.{closed_numbers.Closing.Closing, fault.Fault.Fault}
use Rattle.posting_sheets.specs.declared.money.Money.{Money}
use Rattle.report_contents.specs.Written.{AppendsPart}
use Rattle.report_contents.specs.declared.audit.Audit.{Audit}
use Rattle.bank_store.specs.declared.migration.Migrated.{Migrated}
use Rattle.bank_replays.specs.declared.chain.Digest.{Digest}
use Rattle.bank_replays.specs.declared.difference.Replay.{Replay}
use Rattle.counter_http.specs.Connections.{Known}
use Rattle.command_line.specs.Auditing.{Prints}
use Rattle.command_line.specs.CommandLine.{bank_app}
use Rattle.command_line.specs.CommandFaults.{status_of}
use Rattle.command_line.specs.Lines.{IsHelpOrVersion, created_line, fault_line, usable_line}
use Rattle.command_line.specs.Prompting.{prompt_line}
use Rattle.command_line.specs.Translating.{DecodesPostings, DecodesReplies, EncodesSheet, OpensNoSheet}
use Rattle.command_line.specs.Words.{IsReadFrom}
use Rattle.command_line.specs.declared.fault.CommandFault.{CommandFault}
use Rattle.command_line.specs.declared.fault.CommandFault.TheVariants as faults
use Rattle.command_line.specs.declared.reading.Command.{Command}
use Rattle.command_line.specs.declared.reading.Command.TheVariants as commands
use Rattle.command_line.specs.declared.reading.Task.{Task}
use Rattle.command_line.specs.declared.reading.Task.TheVariants as tasks
use Rattle.command_line.specs.declared.reading.Work.{Work}
use Rattle.command_line.specs.declared.reading.Work.TheVariants as works
use Rattle.command_line.specs.declared.status.Status.{Status}
use Rattle.command_line.specs.declared.status.Status.TheVariants.{Done, System}
use Rattle.bank_commands.specs.Commands.{EndsPost, PrintsDrive, PrintsLoad, PrintsSeal, PrintsServe, TellsLine}
use Rattle.bank_commands.specs.Commands.{migration_line}
use Rattle.bank_commands.specs.Doing.{OnlyWrites, TaskLeaves}
use Rattle.bank_commands.specs.Following.{PrintsFollow}
use Rattle.bank_commands.specs.Replaying.{PrintsDigest, PrintsReplay}
use Rattle.bank_commands.specs.Sharing.{PrintsShared}

-- clap takes the words for a command, or finds no fault in them
abbrev pub AreTaken : List Text → Type 0
AreTaken words = (takes bank_app words ≡ true) ⊎ (fault_of bank_app words ≡ [])

-- it takes them for none, and not for a call for help either
pub record AreRefused (words : List Text) : Type 0 where
  pub some : fault_of bank_app words ≢ []
  pub no_request : (kind : ErrorKind) → IsAmong kind (fault_of bank_app words) → IsHelpOrVersion kind → ⊥

-- what is known of the ends of a run whose calls aren't: the bytes of its input and of its output
abbrev pub by_bytes : (r w : Option (List ℕ)) → Known
by_bytes r w = record { reader = r; reads = None; beside = None; writer = w; writes = None }

-- what a command leaves alone: nothing is read, or the clock isn't asked
abbrev pub Leaves : Command → (e e' : Known) → (k k' : Option (List ℕ)) → Type 0
Leaves (commands.OnFile file task) e e' k k' = TaskLeaves task e e' k k'
Leaves (commands.Why file) e e' k k' = OnlyWrites e e' k k'
Leaves (commands.Mistaken fault) e e' k k' = OnlyWrites e e' k k'
Leaves _ e e' k k' = k' ≡ k

-- ---- how it ends and what it prints, whatever bank is there; the text of `post`, `statement`, `statements`, `export`,
-- `log` and `plan` is the bank's

-- it told a fault and printed nothing; or else Said holds
abbrev pub PrintsNone : (w w' : Option (List ℕ)) → Result Status CommandFault → (Said : Type 0) → Type 0
PrintsNone w w' end Said = (((fault : CommandFault) × (end ≡ Err fault)) × Keeps w w') ⊎ Said

-- replies were decoded, without a sheet of postings or beside one, whatever that was
abbrev pub TellsDecode : Money → Option (List ℕ) → (e e' : Known) → Result Status CommandFault → Type 0
TellsDecode money None e e' end =
    DecodesReplies money e.reader e'.reader e.reads e'.reads e.writer e'.writer e.writes e'.writes end
TellsDecode money (Some name) e e' end = OpensNoSheet e.reader e'.reader e.writer e'.writer end
    ⊎ DecodesPostings money None None None None e.reader e'.reader e.reads e'.reads e.writer e'.writer e.writes e'.writes end

-- of a work with the bank that was found
abbrev pub WorkTells : Work → (e e' : Known) → Result Status CommandFault → Type 0
WorkTells (works.Load plan) e e' end = PrintsLoad e.writer e'.writer end
WorkTells works.Post e e' end = EndsPost e.reader e'.reader e.writer e'.writer end
WorkTells (works.Drive seed count) e e' end = PrintsDrive e.writer e'.writer count end
WorkTells works.Audit e e' end = (found : Result Audit Fault) × Prints found e.writer e'.writer end
WorkTells works.Replay e e' end =
    (found : Result Replay Fault) × PrintsReplay found e.writer e'.writer e.writes e'.writes end
WorkTells (works.Digest requests) e e' end =
    (found : Result (Option Digest) Fault) × PrintsDigest requests found e.writer e'.writer e.writes e'.writes end
WorkTells works.Seal e e' end = (sealed : Result Closing Fault) × PrintsSeal sealed e.writer e'.writer end
WorkTells (works.Follow plan) e e' end = PrintsFollow e.writer e'.writer end
WorkTells (works.Serve address connections) e e' end = PrintsServe e.writer e'.writer end
WorkTells _ e e' end = IfOk end (λ status. status ≡ Done)

-- nothing was done, for a fault
abbrev pub DoesNothing : (e e' : Known) → Result Status CommandFault → Type 0
DoesNothing e e' end = ((fault : CommandFault) × (end ≡ Err fault)) × (e' ≡ e)

abbrev pub TaskTells : Task → (e e' : Known) → Result Status CommandFault → Type 0
TaskTells tasks.Init e e' end = PrintsNone e.writer e'.writer end (TellsLine e.writer e'.writer created_line end)
TaskTells tasks.Migrate e e' end = PrintsNone e.writer e'.writer end
    ((migrated : Migrated) × TellsLine e.writer e'.writer (migration_line migrated) end)
TaskTells (tasks.Share address connections member name stands_by) e e' end = PrintsShared e.writer e'.writer end
TaskTells (tasks.With work) e e' end = DoesNothing e e' end ⊎ WorkTells work e e' end

abbrev pub Tells : Command → (e e' : Known) → Result Status CommandFault → Type 0
Tells (commands.OnFile file task) e e' end = TaskTells task e e' end
Tells (commands.Why file) e e' end =
    PrintsNone e.writer e'.writer end (TellsLine e.writer e'.writer usable_line end)
Tells commands.Encode e e' end =
    EncodesSheet e.reader e'.reader e.reads e'.reads e.writer e'.writer e.writes e'.writes end
Tells (commands.Decode money sheet) e e' end = TellsDecode money (option_map (λ s. s.now) sheet) e e' end
Tells (commands.Mistaken fault) e e' end = (end ≡ Err (faults.Query fault)) × (e' ≡ e)

-- ---- a run

-- how the program ends after a command
abbrev pub status_after : Result Status CommandFault → Status
status_after (Ok status) = status
status_after (Err fault) = status_of fault

-- what stands on standard error: what it waits for, and at a fault the line of that; a prefix of either where it
-- couldn't be written
abbrev pub Says : (y y' : Option (List ℕ)) → (waiting : List ℕ) → Result Status CommandFault → Type 0
Says y y' waiting (Ok status) = AppendsPart y y' waiting
Says y y' waiting (Err fault) =
    (m : Option (List ℕ)) × AppendsPart y m waiting × AppendsPart m y' (fault_line fault)

-- A command was read from the words, in whatever order they came; it ended so and printed this, and so does the
-- program. e and e' are what is known of its input and output before and after, y and y' the known bytes of standard
-- error, k and k' the clock's known readings, and typed says whether the input is a terminal.
pub record RunsRead (words : List Text) (typed : Bool) (e e' : Known) (y y' k k' : Option (List ℕ))
    (status : Status) : Type 0 where
  pub command : Command
  pub read : IsReadFrom words command
  pub end : Result Status CommandFault
  pub tells : Tells command e e' end
  pub leaves : Leaves command e e' k k'
  pub ends : status ≡ status_after end
  -- what it waits for is told only where the input is typed
  pub said : Says y y' (prompt_line typed command) end

-- or there was no memory to read them, and nothing was read, printed or asked
abbrev pub Runs : List Text → (typed : Bool) → (e e' : Known) → (y y' k k' : Option (List ℕ)) → Status → Type 0
Runs words typed e e' y y' k k' status =
    RunsRead words typed e e' y y' k k' status
    ⊎ ((status ≡ System) × OnlyWrites e e' k k' × Keeps e.writer e'.writer)
