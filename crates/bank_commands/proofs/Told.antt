-- How a command ends over a connection, and what is said of it whatever bank is there.
use Rattle.std.specs.Prelude.{IfOk, IsErrAnd, if◌then◌else◌}
use Rattle.std.proofs.Common.{◌≡◌, ◌≢◌, ◌⊎◌, ◌∙◌, ◌≤◌, inl, inr, refl, subst, sym, ℕ, List, Option, Result, Ok}
use Rattle.std.proofs.Common.{ap, Err, Bool, false, true, Some, None, OnErr, OnOk, IsErrOf, length, take}
use Rattle.std.specs.{Io.KnownBytes.Appends, Io.KnownBytes.Keeps, declared.net.socket_addr.SocketAddr.SocketAddr}
use Rattle.std.proofs.{KnownBytes.Keeps-refl, lemmas.Result.err_from_is_err_and}
use Rattle.sqlite.specs.Held.{Held}
use Rattle.sqlite_trees.specs.declared.store.Store.{Ghosts}
use Rattle.posting_rules.specs.declared.{closed_numbers.Closing.Closing, fault.Fault.Fault}
use Rattle.posting_rules.specs.believed.Counter.{Seen}
use Rattle.posting_rules.specs.declared.fault.Fault.TheVariants as bank
use Rattle.posting_core.specs.{believed.Stream.Streamed, believed.EndCalls.ReadCall, EndCalls.WriteCall}
use Rattle.posting_core.specs.declared.stream.StreamFault.{StreamFault}
use Rattle.counter_http.specs.declared.listen_fault.ListenFault.{ListenFault}
use Rattle.posting_core.specs.declared.stream.StreamFault.TheVariants as stream
use Rattle.branch_loader.specs.{believed.Plans.Rows, declared.fault.PlanFault.PlanFault}
use Rattle.branch_loader.specs.declared.loader.Loaded.{Loaded}
use Rattle.posting_sheets.specs.declared.fault.{RepliesFault.RepliesFault, SheetFault.SheetFault}
use Rattle.report_contents.specs.declared.audit.Audit.{Audit}
use Rattle.bank_reports.specs.declared.fault.ReportFault.{ReportFault}
use Rattle.bank_reports.specs.declared.fault.ReportFault.TheVariants as report
use Rattle.bank_replays.specs.declared.{chain.Digest.Digest, difference.Replay.Replay, fault.ReplayFault.ReplayFault}
use Rattle.bank_replays.specs.declared.difference.Replay.TheVariants as replays
use Rattle.bank_replays.specs.declared.fault.ReplayFault.TheVariants as written
use Rattle.bank_store.specs.believed.{BankSparing.SparesOtherTables, Down.bank_reason, Seen.bank_seen}
use Rattle.bank_store.specs.declared.{bank.Bank.Bank, refused.Refused.Refused}
use Rattle.command_line.specs.{Auditing.Prints, declared.fault.CommandFault.CommandFault}
use Rattle.command_line.specs.declared.reading.{Command.Command, Task.Task, Work.Work}
use Rattle.command_line.specs.{declared.status.Status.Status, Lines.driven_line}
use Rattle.command_line.specs.{Lines.listening_line, Lines.loaded_line, Statuses.status_of_loaded}
use Rattle.command_line.specs.CommandFaults.{IsOfFile, fault_of_opening, fault_of_stream, status_of}
use Rattle.command_line.specs.declared.fault.CommandFault.TheVariants as fault
use Rattle.command_line.specs.declared.reading.Command.TheVariants as commands
use Rattle.command_line.specs.declared.reading.Task.TheVariants as tasks
use Rattle.command_line.specs.declared.reading.Work.TheVariants as works
use Rattle.command_line.specs.declared.status.Status.TheVariants.{Differs, Done, Inconsistent, Input, System, Usage}
use Rattle.load_driver.specs.believed.Drives.{Drives}
use Rattle.load_driver.specs.declared.{drive.Driven.Driven, drive_fault.DriveFault.DriveFault}
use Rattle.counter_http.specs.Clients.{ClientsCall}
use Rattle.counter_http.specs.Connections.{Known}
use Rattle.command_line.specs.Translating.{ended_by_replies, ended_by_sheet}
use Rattle.command_line.specs.Working.{DrivesOver, LoadsAnswer, LoadsOver, ServesOver, TellsDrive, TellsLoad}
use Rattle.command_line.specs.Working.{TellsServing, done_after}
use Rattle.bank_commands.specs.Commands.{EndsAllStated, EndsPost, PrintsDrive, PrintsLoad, PrintsSeal, PrintsServe}
use Rattle.bank_commands.specs.Commands.{TellsLine, ended_by, stated_by}
use Rattle.bank_commands.specs.{Over.IsRefusedOver, Over.RunsOver}
use Rattle.bank_commands.specs.Doing.{DoesOver, TaskLeaves, WorkLeaves, Works}
use Rattle.bank_commands.specs.Running.{PrintsNone, TaskTells, Tells, WorkTells}
use Rattle.shared_log.specs.Known.{Known as Log}
use Rattle.shared_log.specs.Replicated.{replicated_reason, replicated_seen}
use Rattle.shared_log.specs.declared.replicated.Replicated.{Replicated}
use Rattle.command_line.specs.Sharing.{JoinsFirst, ServesJoined, ServesShared}
use Rattle.bank_commands.specs.Sharing.{PrintsShared, SharesOver}
use Rattle.bank_commands.specs.Replaying.{PrintsDigest, PrintsReplay, ended_by_writing, ended_with}
use Rattle.bank_commands.proofs.Endings.{input_is_not_usage, system_is_not_usage}
use Rattle.bank_commands.proofs.FollowTold.{log_done, prints_follow}

-- ---- over a connection

pub refused_over : {S : Type 0} (Why : Refused S → Type 0) (refused : Refused S) (back : Held S)
    (end : Result Status CommandFault) → end ≡ Err (fault_of_opening refused.fault) → back ≡ refused.conn
    → Why refused → IsErrAnd end (IsRefusedOver Why back)
refused_over Why refused back end is same why = rw is record {
  refused = refused;
  conn = same;
  reason = refl;
  why = why;
}

-- a line that was printed last, or a part of it
pub line_told : (w w' : Option (List ℕ)) (line : List ℕ) (printed : Result (Unit {0}) CommandFault)
    → OnOk printed (Appends w w' line)
    → OnErr printed ((n : ℕ) × (n ≤ length line) × Appends w w' (take n line))
    → OnErr printed (IsErrOf printed fault.Write) → TellsLine w w' line (done_after printed)
line_told w w' line (Ok done) appends part is = (refl, appends)
line_told w w' line (Err f) appends part is = (cc, record { count = part.0; within = part.1; wrote = part.2 })

-- the line of a load, of a drive, and of serving
module _ (w w' : Option (List ℕ)) (end : Result Status CommandFault) where
  tells_load : (answer : Result Loaded Fault) → TellsLoad (λ other. end ≡ other) w w' answer → PrintsLoad w w' end
  tells_load (Ok loaded) (inl done) = rw done.0 (loaded_line loaded, (loaded, refl, refl), done.1)
  tells_load (Ok loaded) (inr part) =
      rw part.0 (inr (refl, status_of_loaded loaded, loaded_line loaded, (loaded, refl, refl), part.1))
  tells_load (Err f) silent = rw silent.0 (inl silent.1)

  tells_plan : {C : Type 0} (seen : C → Seen) (reason : Fault → C → C → Type 0) (old new : C)
      (answer : Result Rows PlanFault) → LoadsAnswer seen reason w w' (λ other. end ≡ other) answer old new
      → PrintsLoad w w' end
  tells_plan seen reason old new (Ok rows) it = tells_load it.0 it.1
  tells_plan seen reason old new (Err f) it = rw it.0.0 (inl it.0.1)

  pub prints_load : {C P : Type 0} (seen : C → Seen) (reason : Fault → C → C → Type 0) (IsNamed : P → Type 0)
      (known : P → Option (List ℕ) × Option (List ReadCall)) (old new : C)
      → LoadsOver seen reason IsNamed known w w' (λ other. end ≡ other) old new → PrintsLoad w w' end
  prints_load seen reason IsNamed known old new (inl idle) = rw idle.0.2 (inl idle.1)
  prints_load seen reason IsNamed known old new (inr it) = tells_plan seen reason old new it.3.answer it.3.does

  tells_drive : {C : Type 0} (seen : C → Seen) (old new : C) (k k' : Option (List ℕ)) (seed count : ℕ)
      (answer : Result Driven DriveFault) → TellsDrive (λ other. end ≡ other) w w' count answer
      → Drives seen old new k k' seed count answer → PrintsDrive w w' count end
  tells_drive seen old new k k' seed count (Ok driven) (inl done) did =
      rw done.0 (driven_line count driven, (driven, refl, refl, did.submits.ends.total), done.1)
  tells_drive seen old new k k' seed count (Ok driven) (inr part) did = rw part.0 (inr (
    refl,
    Done,
    driven_line count driven,
    (driven, refl, refl, did.submits.ends.total),
    part.1,
  ))
  tells_drive seen old new k k' seed count (Err f) silent did = rw silent.0 (inl silent.1)

  pub prints_drive : {C : Type 0} (seen : C → Seen) (reason : Fault → C → C → Type 0) (old new : C)
      (k k' : Option (List ℕ)) (seed count : ℕ)
      → DrivesOver seen reason k k' w w' seed count (λ other. end ≡ other) old new → PrintsDrive w w' count end
  prints_drive seen reason old new k k' seed count it = tells_drive seen old new k k' seed count it.0 it.1 it.2

  tells_serve : (address : SocketAddr) → Appends w w' (listening_line address)
      → (answer : Result (Unit {0}) ListenFault) → TellsServing (λ other. end ≡ other) answer → PrintsServe w w' end
  tells_serve address line (Ok done) ends = rw ends (refl, address, line)
  tells_serve address line (Err f) ends = rw ends (inr (address, inl line))

  pub prints_serve : {C D E : Type 0} (seen : C → Seen) (reason : Fault → C → C → Type 0) (old new : C)
      (IsBound : D → Type 0) (known : E → Known) (calls : D → Option (List (ClientsCall E))) (k k' : Option (List ℕ)) (count : ℕ)
      → ServesOver seen reason IsBound known calls k k' w w' count (λ other. end ≡ other) old new → PrintsServe w w' end
  prints_serve seen reason old new IsBound known calls k k' count (inl none) = rw none.0 (inl none.1)
  prints_serve seen reason old new IsBound known calls k k' count (inr (clients, left, bound, address, inl part)) =
      rw part.0 (inr (address, inr (refl, part.1)))
  prints_serve seen reason old new IsBound known calls k k' count (inr (clients, left, bound, address, inr it)) =
      tells_serve address it.0 it.1 it.2

-- a stream never ends with a fault of a file
not_of_file : {Q : Type 0} (f : StreamFault) → IsOfFile (fault_of_stream f) → Q
not_of_file (stream.Truncated count) so = absurd so
not_of_file stream.Read so = absurd so
not_of_file stream.Write so = absurd so
not_of_file (stream.Bank bank.Memory) so = absurd so
not_of_file (stream.Bank bank.Store) so = absurd so
not_of_file (stream.Bank bank.Down) so = absurd so
not_of_file (stream.Bank (bank.Damaged rule)) so = absurd so

pub ends_post : (r r' w w' k k' : Option (List ℕ)) {old new : Seen} (streamed : Result ℕ StreamFault)
    → Streamed r r' w w' k k' old new streamed → EndsPost r r' w w' (ended_by streamed)
ends_post r r' w w' k k' (Ok count) it = ((refl, it.ends.ended), tt)
ends_post r r' w w' k k' (Err f) it = (tt, λ so. not_of_file f so)

-- where nothing was printed unless a bank was had
pub prints_none : {S : Type 0} {g : Ghosts S} (Why : Refused S → Type 0) (Did : Bank S g → Bank S g → Type 0)
    {back : Held S} {Said : Type 0} (w w' : Option (List ℕ)) (end : Result Status CommandFault)
    → RunsOver g Why back end (w' ≡ w) Did → ((old new : Bank S g) → Did old new → Said)
    → PrintsNone w w' end Said
prints_none Why Did w w' end (inl none) said =
    let f = err_from_is_err_and end none.0 in
    inl ((f.0, f.1), subst (λ (x : Option (List ℕ)). Keeps w x) (sym none.1) (Keeps-refl w))
prints_none Why Did w w' end (inr works) said = inr (said works.first works.last works.did)

stated_done : (account : ℕ) (stated : Result (Unit {0}) ReportFault)
    → IfOk (stated_by account stated) (λ status. status ≡ Done)
stated_done account (Ok done) = refl
stated_done account (Err report.NoAccount) = tt
stated_done account (Err report.Write) = tt
stated_done account (Err (report.Bank cause)) = tt

all_stated_done : (stated : Result (Unit {0}) ReportFault) (end : Result Status CommandFault)
    → EndsAllStated stated end → IfOk end (λ status. status ≡ Done)
all_stated_done (Ok done) end is = rw is refl
all_stated_done (Err report.NoAccount) end is = absurd is
all_stated_done (Err report.Write) end is = rw is tt
all_stated_done (Err (report.Bank cause)) end is = rw is tt

writing_done : (ends : Result (Unit {0}) ReplayFault) → IfOk (ended_by_writing ends) (λ status. status ≡ Done)
writing_done (Ok done) = refl
writing_done (Err written.Write) = tt
writing_done (Err (written.Bank cause)) = tt

-- ---- where the command wasn't begun

pub task_idle : (task : Task) (f : CommandFault) (e : Known) → TaskTells task e e (Err f)
task_idle tasks.Init f e = inl ((f, refl), Keeps-refl e.writer)
task_idle tasks.Migrate f e = inl ((f, refl), Keeps-refl e.writer)
task_idle (tasks.Share address connections member name stands_by) f e = inl ((f, refl), Keeps-refl e.writer)
task_idle (tasks.With work) f e = inl ((f, refl), refl)

work_untouched : (work : Work) (e : Known) (k : Option (List ℕ)) → WorkLeaves work e e k k
work_untouched works.Post e k = tt
work_untouched (works.Follow plan) e k = refl
work_untouched (works.Drive seed count) e k = (refl, refl, refl)
work_untouched (works.Serve address connections) e k = (refl, refl, refl)
work_untouched other e k = ((refl, refl, refl), refl)

pub task_untouched : (task : Task) (e : Known) (k : Option (List ℕ)) → TaskLeaves task e e k k
task_untouched tasks.Init e k = ((refl, refl, refl), refl)
task_untouched tasks.Migrate e k = ((refl, refl, refl), refl)
task_untouched (tasks.Share address connections member name stands_by) e k = (refl, refl, refl)
task_untouched (tasks.With work) e k = work_untouched work e k

-- ---- where machines share a log

module _ {C L D E : Type 0} (seen : C → Seen) (spares : C → C → Type 0) (reason : Fault → C → C → Type 0)
    (held : L → Log) (IsBound : D → Type 0) (ends : E → Known) (calls : D → Option (List (ClientsCall E)))
    (k k' w w' : Option (List ℕ)) (count : ℕ) (end : Result Status CommandFault) where
  unjoined : (fault : CommandFault) (old new : Replicated C L) → end ≡ Err fault
      → JoinsFirst seen spares held w w' old new (Err fault) → PrintsShared w w' end
  unjoined fault old new is (inl none) = inl ((fault, is), none.2)
  unjoined fault old new is (inr (joined, has, same, part)) =
      inr (joined, inl (is ∙ ap (λ (f : CommandFault). let r : Result Status CommandFault = Err f in r) same, part))

  joined_then : (old new : Replicated C L)
      → ServesJoined seen spares reason held IsBound ends calls k k' w w' count (λ other. end ≡ other) old new
      → PrintsShared w w' end
  joined_then old new (inl (fault, is, joins, same)) = unjoined fault old new is joins
  joined_then old new (inr (stood, said, (joined, has, line), serves)) = inr (
    joined,
    inr (
      said,
      line,
      prints_serve said w' end (replicated_seen seen held) (replicated_reason reason) stood new IsBound ends calls k k' count
          serves,
    ),
  )

  pub prints_shared : (IsShared : L → Type 0) (old new : C)
      → ServesShared seen spares reason IsShared held IsBound ends calls k k' w w' count (λ other. end ≡ other) old new
      → PrintsShared w w' end
  prints_shared IsShared old new (inl none) = inl ((fault.NoQuorum, none.0), none.1)
  prints_shared IsShared old new (inr (first, last, was, shared, is, it)) = joined_then first last it

shared_over_told : {S L D E : Type 0} (g : Ghosts S) (conn back : Held S) (IsShared : L → Type 0) (held : L → Log)
    (IsBound : D → Type 0) (ends : E → Known) (calls : D → Option (List (ClientsCall E))) (w w' k k' : Option (List ℕ))
    (count : ℕ) (end : Result Status CommandFault)
    → SharesOver g conn back IsShared held IsBound ends calls w w' k k' count end → PrintsShared w w' end
shared_over_told g conn back IsShared held IsBound ends calls w w' k k' count end (inl none, spares) =
    let f = err_from_is_err_and end none.0 in
    inl ((f.0, f.1), subst (λ (x : Option (List ℕ)). Keeps w x) (sym none.1.0) (Keeps-refl w))
shared_over_told g conn back IsShared held IsBound ends calls w w' k k' count end (inr works, spares) =
    prints_shared (bank_seen g) (SparesOtherTables g) (bank_reason g) held IsBound ends calls k k' w w' count end IsShared
    works.first works.last works.did.1

-- ---- what a task did with a bank is what it tells of it

module _ {S P D E L : Type 0} (g : Ghosts S) (IsNamed : List ℕ → P → Type 0)
    (known : P → Option (List ℕ) × Option (List ReadCall)) (IsBound : List ℕ → D → Type 0) (ends : E → Known)
    (calls : D → Option (List (ClientsCall E))) (IsShared : List ℕ → List ℕ → L → Type 0) (held : L → Log) where
  work_told : (work : Work) (e e' : Known) (k k' : Option (List ℕ)) (old new : Bank S g)
      (end : Result Status CommandFault) → Works g IsNamed known IsBound ends calls IsShared held work e e' k k' old new end
      → WorkTells work e e' end
  work_told (works.Load plan) e e' k k' old new end did =
      prints_load e.writer e'.writer end (bank_seen g) (bank_reason g) (IsNamed plan.now) known old new did.0
  work_told works.Post e e' k k' old new end did =
      rw did.1 (ends_post e.reader e'.reader e.writer e'.writer k k' did.0 did.2.batches.did)
  work_told (works.Drive seed count) e e' k k' old new end did =
      prints_drive e.writer e'.writer end (bank_seen g) (bank_reason g) old new k k' seed count did
  work_told works.Audit e e' k k' old new end did = (did.0, did.1)
  work_told works.Replay e e' k k' old new end did = (did.0, did.1)
  work_told (works.Digest requests) e e' k k' old new end did = (did.0, did.1)
  work_told (works.Follow plan) e e' k k' old new end did =
      prints_follow e.reader e'.reader e.reads e'.reads e.writer e'.writer S P g (IsNamed plan.now) known old new did.0 end
      did.1 did.2
  work_told (works.Serve address connections) e e' k k' old new end did =
      prints_serve e.writer e'.writer end (bank_seen g) (bank_reason g) old new (IsBound address.now) ends calls k k' _ did
  work_told (works.Statement account query) e e' k k' old new end did = rw did.1 (stated_done account did.0)
  work_told (works.Statements query) e e' k k' old new end did = all_stated_done did.0 end did.1
  work_told (works.Export after) e e' k k' old new end did = rw did.1 (writing_done did.0)
  work_told (works.Log after) e e' k k' old new end did = rw did.1 (log_done after did.0)
  work_told works.Seal e e' k k' old new end did = (did.0, did.1)
  work_told works.Plan e e' k k' old new end did = rw did.1 (writing_done did.0)

  pub task_told : (task : Task) (conn back : Held S) (e e' : Known) (k k' : Option (List ℕ))
      (end : Result Status CommandFault)
      → DoesOver g IsNamed known IsBound ends calls IsShared held task conn back e e' k k' end → TaskTells task e e' end
  unfolding DoesOver
  task_told tasks.Init conn back e e' k k' end does =
      prints_none _ _ e.writer e'.writer end does.0 (λ _ _ did. did.2)
  task_told tasks.Migrate conn back e e' k k' end does =
      prints_none _ _ e.writer e'.writer end does.0 (λ _ _ did. (did.0, did.3))
  task_told (tasks.Share address connections member name stands_by) conn back e e' k k' end does =
      shared_over_told g conn back (IsShared member.now name.now) held (IsBound address.now) ends calls
      e.writer e'.writer k k' _ end does.0
  task_told (tasks.With work) conn back e e' k k' end (inl none, spares) =
      let f = err_from_is_err_and end none.0 in
      inl ((f.0, f.1), none.1.0)
  task_told (tasks.With work) conn back e e' k k' end (inr did, spares) =
      inr (work_told work e e' k k' did.first did.last end did.did.1.0)

  pub task_left : (task : Task) (conn back : Held S) (e e' : Known) (k k' : Option (List ℕ))
      (end : Result Status CommandFault)
      → DoesOver g IsNamed known IsBound ends calls IsShared held task conn back e e' k k' end → TaskLeaves task e e' k k'
  unfolding DoesOver
  task_left tasks.Init conn back e e' k k' end does = does.1
  task_left tasks.Migrate conn back e e' k k' end does = does.1
  task_left (tasks.Share address connections member name stands_by) conn back e e' k k' end does = does.1
  task_left (tasks.With work) conn back e e' k k' end (inl none, spares) =
      rw (none.1.0, none.1.1) (work_untouched work e k)
  task_left (tasks.With work) conn back e e' k k' end (inr did, spares) = did.did.1.1

-- ---- no command ends the program as a mistake in the words

fault_ends : (f : CommandFault) → (status_of f ≡ System) ⊎ (status_of f ≡ Input) ⊎ (status_of f ≡ Differs)
fault_ends fault.Store = inl refl
fault_ends fault.Memory = inl refl
fault_ends (fault.Damaged rule) = inl refl
fault_ends fault.Read = inl refl
fault_ends fault.Write = inl refl
fault_ends (fault.Truncated count) = inr (inl refl)
fault_ends (fault.Plan plan) = inr (inl refl)
fault_ends (fault.Postings sheet) = inr (inl refl)
fault_ends fault.NoSheet = inr (inl refl)
fault_ends (fault.OtherPosting row) = inr (inl refl)
fault_ends fault.MoreReplies = inr (inl refl)
fault_ends (fault.Reply place bad) = inr (inl refl)
fault_ends (fault.NoEntry count) = inr (inl refl)
fault_ends (fault.Differs other) = inr (inr refl)
fault_ends fault.AlreadyBank = inr (inl refl)
fault_ends fault.NoBank = inr (inl refl)
fault_ends fault.Foreign = inr (inl refl)
fault_ends (fault.OtherTable table) = inr (inl refl)
fault_ends (fault.Version version) = inr (inl refl)
fault_ends fault.NoBranches = inr (inl refl)
fault_ends (fault.NoAccount account) = inr (inl refl)
fault_ends (fault.NoRequest count) = inr (inl refl)
fault_ends (fault.Query query) = inr (inl refl)
fault_ends fault.Network = inl refl
fault_ends fault.NoQuorum = inl refl
fault_ends (fault.OtherEntry number) = inr (inr refl)

pub status_is_not_usage : (f : CommandFault) → status_of f ≢ Usage
status_is_not_usage f other = elim (fault_ends f) [
  | inl system ↦ system_is_not_usage (status_of f) system other
  | inr (inl input) ↦ input_is_not_usage (status_of f) input other
  | inr (inr differs) ↦ let bad : Differs ≡ Usage = sym differs ∙ other in cc
]

done_is_not_usage : (status : Status) → status ≡ Done → status ≢ Usage
done_is_not_usage status is other = let bad : Done ≡ Usage = sym is ∙ other in cc

one_of_two : (is_first : Bool) (first second status : Status) → first ≢ Usage → second ≢ Usage
    → status ≡ if is_first then first else second → status ≢ Usage
one_of_two true first second status free free' is other = free (sym is ∙ other)
one_of_two false first second status free free' is other = free' (sym is ∙ other)

differs_is_not_usage : Differs ≢ Usage
differs_is_not_usage bad = cc

inconsistent_is_not_usage : Inconsistent ≢ Usage
inconsistent_is_not_usage bad = cc

not_a_fault : {Q : Type 0} (status : Status) (f : CommandFault)
    → (let result : Result Status CommandFault = Ok status in result) ≡ Err f → Q
not_a_fault status f bad = cc

audited_is_not_usage : (found : Result Audit Fault) (w w' : Option (List ℕ)) (status : Status)
    → Prints found w w' (Ok status) → status ≢ Usage
audited_is_not_usage (Ok found) w w' status printed =
    one_of_two _ Done Inconsistent status (done_is_not_usage Done refl) inconsistent_is_not_usage printed.0
audited_is_not_usage (Err cause) w w' status printed = not_a_fault status _ printed.0

encoded_is_not_usage : (end : Result ℕ SheetFault) (status : Status)
    → (let result : Result Status CommandFault = Ok status in result) ≡ ended_by_sheet end → status ≢ Usage
encoded_is_not_usage (Ok count) status is = done_is_not_usage status cc
encoded_is_not_usage (Err f) status is = not_a_fault status _ is

decoded_is_not_usage : (end : Result ℕ RepliesFault) (status : Status)
    → (let result : Result Status CommandFault = Ok status in result) ≡ ended_by_replies end → status ≢ Usage
decoded_is_not_usage (Ok count) status is = done_is_not_usage status cc
decoded_is_not_usage (Err f) status is = not_a_fault status _ is

ended_is_not_usage : (by status : Status) (printed : Result (Unit {0}) CommandFault) → by ≢ Usage
    → (let result : Result Status CommandFault = Ok status in result) ≡ ended_with by printed → status ≢ Usage
ended_is_not_usage by status (Ok done) free is =
    let same : by ≡ status = cc in
    subst (λ (s : Status). s ≢ Usage) same free
ended_is_not_usage by status (Err f) free is = not_a_fault status _ is

replayed_is_not_usage : (found : Result Replay Fault) (w w' : Option (List ℕ)) (t t' : Option (List WriteCall))
    (status : Status) → PrintsReplay found w w' t t' (Ok status) → status ≢ Usage
replayed_is_not_usage (Ok (replays.Agrees d)) w w' t t' status end =
    ended_is_not_usage Done status end.0 (done_is_not_usage Done refl) end.2
replayed_is_not_usage (Ok (replays.Differs d)) w w' t t' status end =
    ended_is_not_usage Differs status end.0 differs_is_not_usage end.2
replayed_is_not_usage (Err cause) w w' t t' status end = not_a_fault status _ end.0

digested_is_not_usage : (requests : ℕ) (found : Result (Option Digest) Fault) (w w' : Option (List ℕ))
    (t t' : Option (List WriteCall)) (status : Status) → PrintsDigest requests found w w' t t' (Ok status)
    → status ≢ Usage
digested_is_not_usage requests (Ok (Some d)) w w' t t' status end =
    ended_is_not_usage Done status end.0 (done_is_not_usage Done refl) end.2
digested_is_not_usage requests (Ok None) w w' t t' status end = not_a_fault status _ end.0
digested_is_not_usage requests (Err cause) w w' t t' status end = not_a_fault status _ end.0

sealed_is_not_usage : (sealed : Result Closing Fault) (w w' : Option (List ℕ)) (status : Status)
    → PrintsSeal sealed w w' (Ok status) → status ≢ Usage
sealed_is_not_usage (Ok closing) w w' status told = done_is_not_usage status told.0
sealed_is_not_usage (Err cause) w w' status told = not_a_fault status _ told.0

work_is_not_usage : (work : Work) (e e' : Known) (status : Status) → WorkTells work e e' (Ok status) → status ≢ Usage
work_is_not_usage (works.Load plan) e e' status end =
    one_of_two _ Differs Done status differs_is_not_usage (done_is_not_usage Done refl) end.1.1
work_is_not_usage works.Post e e' status end = done_is_not_usage status end.0.0
work_is_not_usage (works.Drive seed count) e e' status end = done_is_not_usage status end.1.1
work_is_not_usage works.Audit e e' status end = audited_is_not_usage end.0 _ _ status end.1
work_is_not_usage works.Replay e e' status end = replayed_is_not_usage end.0 _ _ _ _ status end.1
work_is_not_usage (works.Digest requests) e e' status end =
    digested_is_not_usage requests end.0 _ _ _ _ status end.1
work_is_not_usage works.Seal e e' status end = sealed_is_not_usage end.0 _ _ status end.1
work_is_not_usage (works.Follow plan) e e' status end = done_is_not_usage status end.0
work_is_not_usage (works.Serve address connections) e e' status end = done_is_not_usage status end.0
work_is_not_usage other e e' status end = done_is_not_usage status end

shared_is_not_usage : (w w' : Option (List ℕ)) (status : Status) → PrintsShared w w' (Ok status) → status ≢ Usage
shared_is_not_usage w w' status (inl none) = not_a_fault status _ none.0.1
shared_is_not_usage w w' status (inr (joined, inl part)) = not_a_fault status _ part.0
shared_is_not_usage w w' status (inr (joined, inr (said, line, served))) = done_is_not_usage status served.0

pub told_is_not_usage : (c : Command) (e e' : Known) (status : Status) → Tells c e e' (Ok status) → status ≢ Usage
told_is_not_usage (commands.OnFile file tasks.Init) e e' status (inl none) = not_a_fault status _ none.0.1
told_is_not_usage (commands.OnFile file tasks.Init) e e' status (inr end) = done_is_not_usage status end.0
told_is_not_usage (commands.OnFile file tasks.Migrate) e e' status (inl none) = not_a_fault status _ none.0.1
told_is_not_usage (commands.OnFile file tasks.Migrate) e e' status (inr end) = done_is_not_usage status end.1.0
told_is_not_usage (commands.OnFile file (tasks.Share address connections member name stands_by)) e e' status end =
    shared_is_not_usage e.writer e'.writer status end
told_is_not_usage (commands.OnFile file (tasks.With work)) e e' status (inl none) = not_a_fault status _ none.0.1
told_is_not_usage (commands.OnFile file (tasks.With work)) e e' status (inr end) =
    work_is_not_usage work e e' status end
told_is_not_usage (commands.Why file) e e' status (inl none) = not_a_fault status _ none.0.1
told_is_not_usage (commands.Why file) e e' status (inr end) = done_is_not_usage status end.0
told_is_not_usage commands.Encode e e' status end = encoded_is_not_usage end.sheet status end.ended
told_is_not_usage (commands.Decode money None) e e' status end = decoded_is_not_usage end.replies status end.ended
told_is_not_usage (commands.Decode money (Some sheet)) e e' status (inl none) = not_a_fault status _ none.ended
told_is_not_usage (commands.Decode money (Some sheet)) e e' status (inr end) =
    decoded_is_not_usage end.replies status end.ended
told_is_not_usage (commands.Mistaken fault) e e' status end = not_a_fault status _ end.0
