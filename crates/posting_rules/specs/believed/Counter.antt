-- What a counter shows, what a crash may leave of it, and what a call does to both.
use Rattle.std.specs.Prelude.{⊤, ◌≡◌, ℕ, ◌≤◌, List, length, take, Option, Some, None, Bool, ◌==◌, ◌&&◌}
use Rattle.std.specs.Prelude.{if◌then◌else◌, Result, IfOk, OnOk, IfErr}
use Rattle.std.specs.Option.{option_eq}
use Rattle.std.specs.Ordering.{int_eq}
use Rattle.std.specs.Result.{IsErrOf}
use Rattle.posting_rules.specs.declared.fault.Fault.{Fault}
use Rattle.posting_rules.specs.declared.fault.Fault.TheVariants.{Memory, Store, Down, Damaged}
use Rattle.posting_rules.specs.declared.counter.Opening.{Opening}
use Rattle.posting_rules.specs.declared.counter.Opening.TheVariants.{Opened, Already, Differs}
use Rattle.posting_rules.specs.believed.Commands.{Command, AreCommands, Terms, opened}
use Rattle.posting_rules.specs.believed.Tables.{Tables, AreTablesOf}
use Rattle.posting_rules.specs.believed.Runs.{followed_by}

-- what is known of a counter at one moment
pub record Seen : Type 1 where
  -- these are its tables; where it keeps no bank, there are none
  pub tables : Tables → Type 0
  -- it failed earlier, and answers nothing more
  pub is_down : Type 0
  -- what is found where it was stopped, such as a file
  pub Remains : Type 0
  -- a crash at this moment may leave this
  pub left : Remains → Type 0
  -- this is a bank, with these tables
  pub found : Remains → Tables → Type 0
  -- nobody else wrote what it keeps, and what it keeps is what was written
  pub honest : Type 0

-- its tables are those of a log of commands
pub record ShowsLog (seen : Seen) (log : List Command) : Type 0 where
  pub commands : AreCommands log
  pub tables : Tables
  pub are : seen.tables tables
  pub shows : AreTablesOf tables log

-- everything that a crash may leave is a bank, of whose tables P holds
abbrev pub LeavesOnly : Seen → (Tables → Type 0) → Type 0
LeavesOnly seen P = (remains : seen.Remains) → seen.left remains → (t : Tables) × seen.found remains t × P t

-- whatever a crash may leave now is the bank that it could leave before
abbrev pub LeavesNoMore : Seen → Seen → Type 0
LeavesNoMore old new = (remains : new.Remains) → new.left remains
    → (before : old.Remains) × old.left before × ((t : Tables) → old.found before t → new.found remains t)

-- it shows the log, and so does everything that a crash may leave
pub record StandsAt (seen : Seen) (log : List Command) : Type 0 where
  pub shows : ShowsLog seen log
  pub up : seen.is_down → ⊥
  pub survives : LeavesOnly seen (λ t. AreTablesOf t log)

-- the tables show the log and then a prefix of the commands, so many of them at least, all of them the
-- bank's
pub record ShowsPrefix (log commands : List Command) (least : ℕ) (tables : Tables) : Type 0 where
  pub count : ℕ
  pub holds : least ≤ count
  pub within : count ≤ length commands
  pub are : AreCommands (followed_by log (take count commands))
  pub shows : AreTablesOf tables (followed_by log (take count commands))

-- ---- what a call that was given some commands did

-- whatever log was shown, it is shown with the commands after it
abbrev pub ShowMore : Seen → Seen → List Command → Type 0
ShowMore old new commands = (log : List Command) → ShowsLog old log → ShowsLog new (followed_by log commands)

-- it took them all
pub record Takes (old new : Seen) (commands : List Command) : Type 0 where
  pub shows : new.honest → ShowMore old new commands
  pub stands : new.honest → (log : List Command) → StandsAt old log → StandsAt new (followed_by log commands)

-- it changed nothing
pub record IsSeenUnchanged (old new : Seen) : Type 0 where
  pub tables : (t : Tables) → old.tables t → new.tables t
  pub down : new.is_down → old.is_down
  pub left : LeavesNoMore old new

-- the store failed in it: a crash may leave any prefix of the commands
pub record IsCutShort (old new : Seen) (commands : List Command) : Type 0 where
  pub down : new.is_down
  pub survives : new.honest → (log : List Command) → StandsAt old log
      → LeavesOnly new (ShowsPrefix log commands 0)

-- it tried nothing, since the counter was down
pub record WasDown (old new : Seen) : Type 0 where
  pub before : old.is_down
  pub after : new.is_down
  pub tables : new.honest → (t : Tables) → old.tables t → new.tables t
  pub left : LeavesNoMore old new

-- it met rows that no log leads to, and changed none of them
pub record IsDamaged (old new : Seen) : Type 0 where
  pub never_shown : new.honest → (log : List Command) → ShowsLog old log → ⊥
  pub down : new.is_down
  pub tables : new.honest → (t : Tables) → old.tables t → new.tables t

-- what each refusal says
abbrev pub Refuses : Fault → Seen → Seen → List Command → Type 0
Refuses Memory old new commands = IsSeenUnchanged old new
Refuses Store old new commands = IsCutShort old new commands
Refuses Down old new commands = WasDown old new
Refuses (Damaged rule) old new commands = IsDamaged old new

-- it reports rows as damaged
abbrev pub TellsDamage : Fault → Type 0
TellsDamage (Damaged rule) = ⊤
TellsDamage _ = ⊥

-- ---- what every call promises

-- the answer is one of whatever log was shown
abbrev pub Answers : {X : Type 0} → Seen → Seen → Result X Fault → (List Command → X → Type 0) → Type 0
Answers old new result IsAnswerOf =
    IfOk result (λ x. new.honest → (log : List Command) → ShowsLog old log → IsAnswerOf log x)

-- Some commands were given to a counter, whatever it answered: seen is what is seen of it, contents what it
-- keeps, and reason what a fault says of the call that it refused.
pub record IsCounterCall {C K X : Type 0} (seen : C → Seen) (contents : C → K)
    (reason : Fault → C → C → Type 0)
    (old new : C) (commands : List Command) (result : Result X Fault) : Type 0 where
  -- it took them all, and can be used
  pub done : OnOk result (Takes (seen old) (seen new) commands)
  pub up : OnOk result ((seen new).is_down → ⊥)
  -- it refused them, for the reason that its fault gives
  pub fault : IfErr result (λ fault. Refuses fault (seen old) (seen new) commands)
  pub why : IfErr result (λ fault. reason fault old new)
  -- for want of memory, or at damage, all that it keeps is as it was
  pub spared : IsErrOf result Memory → contents new ≡ contents old
  pub unchanged : IfErr result (λ fault. TellsDamage fault → (seen new).honest → contents new ≡ contents old)
  -- one that was down tried nothing, and is the counter that it was
  pub down : (seen old).is_down → IsErrOf result Down
  pub untried : IsErrOf result Down → new ≡ old
  pub honest : (seen new).honest → (seen old).honest

-- ---- the answer to an opening

-- the same count of accounts, and the same floor or none
abbrev pub are_same : Terms → Terms → Bool
are_same one two = (one.accounts == two.accounts) && option_eq int_eq one.floor two.floor

abbrev pub opening_for : Option Terms → Terms → Opening
opening_for None terms = Opened
opening_for (Some first) terms = if are_same first terms then Already else Differs

abbrev pub opening_after : List Command → ℕ → Terms → Opening
opening_after log branch terms = opening_for (opened log branch) terms
