-- What a task does over a connection conn, which it hands back as back, and what it leaves alone. e and e' are what is
-- known of the input and the output before and after, and k and k' the clock's known readings.
use Rattle.std.specs.Prelude.{⊤, ◌≡◌, ℕ, List, Option, Result, unwrap_or}
use Rattle.sqlite.specs.Held.{Held}
use Rattle.sqlite_trees.specs.declared.store.Store.{Ghosts}
use Rattle.posting_core.specs.believed.EndCalls.{ReadCall}
use Rattle.bank_store.specs.declared.bank.Bank.{Bank}
use Rattle.counter_http.specs.Clients.{ClientsCall}
use Rattle.counter_http.specs.Connections.{Known}
use Rattle.shared_log.specs.Known.{Known as Log}
use Rattle.command_line.specs.declared.fault.CommandFault.{CommandFault}
use Rattle.command_line.specs.declared.reading.Task.{Task}
use Rattle.command_line.specs.declared.reading.Task.TheVariants as tasks
use Rattle.command_line.specs.declared.reading.Work.{Work}
use Rattle.command_line.specs.declared.reading.Work.TheVariants as works
use Rattle.command_line.specs.declared.status.Status.{Status}
use Rattle.bank_commands.specs.Commands.{AuditsFound, DrivesBank, Inits, Loads, Migrates, Posts, Seals, Serves}
use Rattle.bank_commands.specs.Commands.{States, StatesEach}
use Rattle.bank_commands.specs.Following.{Follows, Logs}
use Rattle.bank_commands.specs.Over.{FindsOver}
use Rattle.bank_commands.specs.Sharing.{SharesOver}
use Rattle.bank_commands.specs.Replaying.{DigestsFound, Exports, ReplaysFound, WritesPlanOf}

-- where no number of connections is given, as many are served as come: a count that no run reaches
abbrev pub ALL_THAT_COME : ℕ
ALL_THAT_COME = 18_446_744_073_709_551_615

-- ---- what it leaves alone

-- nothing was read
abbrev pub LeavesInput : (e e' : Known) → Type 0
LeavesInput e e' = (e'.reader ≡ e.reader) × (e'.reads ≡ e.reads) × (e'.beside ≡ e.beside)

-- nothing was read, and the clock wasn't asked
abbrev pub OnlyWrites : (e e' : Known) → (k k' : Option (List ℕ)) → Type 0
OnlyWrites e e' k k' = LeavesInput e e' × (k' ≡ k)

-- a work reads if it posts from the input, and asks the clock if it dates what it posts
abbrev pub WorkLeaves : Work → (e e' : Known) → (k k' : Option (List ℕ)) → Type 0
WorkLeaves works.Post e e' k k' = ⊤
WorkLeaves (works.Follow plan) e e' k k' = k' ≡ k
WorkLeaves (works.Drive seed count) e e' k k' = LeavesInput e e'
WorkLeaves (works.Serve address connections) e e' k k' = LeavesInput e e'
WorkLeaves _ e e' k k' = OnlyWrites e e' k k'

abbrev pub TaskLeaves : Task → (e e' : Known) → (k k' : Option (List ℕ)) → Type 0
TaskLeaves (tasks.With work) e e' k k' = WorkLeaves work e e' k k'
TaskLeaves (tasks.Share address connections member name stands_by) e e' k k' = LeavesInput e e'
TaskLeaves _ e e' k k' = OnlyWrites e e' k k'

-- ---- what a task does with the connection conn, which it hands back as back

-- IsNamed says of a source that it is that of the plan of a name, and known what is known of one; IsBound says of clients
-- that they come to an address, calls what is known of their calls, and ends what is known of the ends of one; IsShared
-- says of a log that it is the one of a member and a name, and held what is known of one
module _ {S P D E L : Type 0} (g : Ghosts S) (IsNamed : List ℕ → P → Type 0)
    (known : P → Option (List ℕ) × Option (List ReadCall)) (IsBound : List ℕ → D → Type 0) (ends : E → Known)
    (calls : D → Option (List (ClientsCall E))) (IsShared : List ℕ → List ℕ → L → Type 0) (held : L → Log) where
  -- what a work does with the bank that is found, old before it and new after it
  abbrev pub Works : Work → (e e' : Known) → (k k' : Option (List ℕ)) → (old new : Bank S g)
      → Result Status CommandFault → Type 0
  Works (works.Load plan) e e' k k' old new end =
      Loads g (IsNamed plan.now) known e.writer e'.writer old new end
  Works works.Post e e' k k' old new end =
      Posts g e.reader e'.reader e.reads e'.reads e.beside e'.beside e.writer e'.writer e.writes e'.writes k k' old new end
  Works (works.Drive seed count) e e' k k' old new end = DrivesBank g e.writer e'.writer k k' seed count old new end
  Works works.Audit e e' k k' old new end = AuditsFound g e.writer e'.writer old new end
  Works (works.Statement account query) e e' k k' old new end =
      States g account query e.writer e'.writer e.writes e'.writes old new end
  Works (works.Statements query) e e' k k' old new end =
      StatesEach g query e.writer e'.writer e.writes e'.writes old new end
  Works works.Replay e e' k k' old new end = ReplaysFound g e.writer e'.writer e.writes e'.writes old new end
  Works (works.Digest requests) e e' k k' old new end =
      DigestsFound g requests e.writer e'.writer e.writes e'.writes old new end
  Works (works.Export after) e e' k k' old new end =
      Exports g after e.writer e'.writer e.writes e'.writes old new end
  Works (works.Log after) e e' k k' old new end = Logs g after e.writer e'.writer e.writes e'.writes old new end
  Works works.Plan e e' k k' old new end = WritesPlanOf g e.writer e'.writer e.writes e'.writes old new end
  Works works.Seal e e' k k' old new end = Seals g e.writer e'.writer old new end
  Works (works.Follow plan) e e' k k' old new end =
      Follows g (IsNamed plan.now) known e.reader e'.reader e.reads e'.reads e.writer e'.writer old new end
  Works (works.Serve address connections) e e' k k' old new end =
      Serves g (IsBound address.now) ends calls e.writer e'.writer k k' (unwrap_or connections ALL_THAT_COME) old new end

  -- no bank is found, and nothing is done; or that was done with it
  unfoldable pub DoesOver : Task → (conn back : Held S) → (e e' : Known) → (k k' : Option (List ℕ))
      → Result Status CommandFault → Type 0
  DoesOver tasks.Init conn back e e' k k' end = Inits g conn back e.writer e'.writer end × OnlyWrites e e' k k'
  DoesOver tasks.Migrate conn back e e' k k' end = Migrates g conn back e.writer e'.writer end × OnlyWrites e e' k k'
  DoesOver (tasks.Share address connections member name stands_by) conn back e e' k k' end =
      SharesOver g conn back (IsShared member.now name.now) held (IsBound address.now) ends calls
      e.writer e'.writer k k' (unwrap_or connections ALL_THAT_COME) end × LeavesInput e e'
  DoesOver (tasks.With work) conn back e e' k k' end =
      FindsOver g conn back end ((e' ≡ e) × (k' ≡ k))
      (λ old new. Works work e e' k k' old new end × WorkLeaves work e e' k k')
