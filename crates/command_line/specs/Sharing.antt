-- What `serve` does with a bank whose log other machines share, and what it prints. w and w' are the known bytes of the
-- output before and after, and k and k' the clock's known readings.
use Rattle.std.specs.Prelude.{◌≡◌, ◌⊎◌, ℕ, List, [], length, Option, Result, Ok, Err, IfSome}
use Rattle.std.specs.Io.KnownBytes.{Appends, Keeps}
use Rattle.posting_rules.specs.believed.Counter.{Seen}
use Rattle.posting_rules.specs.declared.fault.Fault.{Fault}
use Rattle.counter_http.specs.Clients.{ClientsCall}
use Rattle.counter_http.specs.Connections.{Known as Ends}
use Rattle.report_contents.specs.Written.{AppendsPart}
use Rattle.shared_log.specs.Joined.{HasJoined}
use Rattle.shared_log.specs.Known.{Known}
use Rattle.shared_log.specs.Replicated.{counter_of, is_stopped, log_of, replicated_reason, replicated_seen}
use Rattle.shared_log.specs.declared.joining.{JoinFault.JoinFault, Joined.Joined}
use Rattle.shared_log.specs.declared.replicated.Replicated.{Replicated}
use Rattle.command_line.specs.CommandFaults.{fault_of_joining}
use Rattle.command_line.specs.Lines.{joined_line}
use Rattle.command_line.specs.Working.{ServesOver}
use Rattle.command_line.specs.declared.fault.CommandFault.{CommandFault}
use Rattle.command_line.specs.declared.fault.CommandFault.TheVariants.{NoQuorum, Write}
use Rattle.command_line.specs.declared.status.Status.{Status}

-- the machine went as far as the shared log, and the log as far as the machine; no branch was opened for it
pub record HasJoinedAs {C L : Type 0} (seen : C → Seen) (spares : C → C → Type 0) (known : L → Known) (joined : Joined)
    (old new : Replicated C L) : Type 0 where
  pub went : HasJoined seen known spares [] old new
  pub holds : IfSome (known (log_of new)) (λ entries. joined.holds ≡ length entries)

-- it said so; or a part of that was printed; or it didn't join, and nothing was
abbrev pub JoinsFirst : {C L : Type 0} → (C → Seen) → (C → C → Type 0) → (L → Known) → (w w' : Option (List ℕ))
    → (old new : Replicated C L) → Result (Unit {0}) CommandFault → Type 0
JoinsFirst seen spares known w w' old new (Ok done) =
    (joined : Joined) × HasJoinedAs seen spares known joined old new × Appends w w' (joined_line joined)
JoinsFirst seen spares known w w' old new (Err fault) =
    ((cause : JoinFault) × (fault ≡ fault_of_joining cause) × Keeps w w' × is_stopped new)
    ⊎ ((joined : Joined) × HasJoinedAs seen spares known joined old new × (fault ≡ Write)
    × AppendsPart w w' (joined_line joined))

-- and then it served, by the bank over that log; Ends says of a result whether the command ends with it
abbrev pub ServesJoined : {C L D E : Type 0} → (C → Seen) → (C → C → Type 0) → (Fault → C → C → Type 0) → (L → Known)
    → (IsBound : D → Type 0) → (ends : E → Ends) → (calls : D → Option (List (ClientsCall E)))
    → (k k' w w' : Option (List ℕ)) → (count : ℕ) → (Ends : Result Status CommandFault → Type 0)
    → (old new : Replicated C L) → Type 0
ServesJoined {C = C} {L = L} seen spares reason known IsBound ends calls k k' w w' count Ends old new =
    ((fault : CommandFault) × Ends (Err fault) × JoinsFirst seen spares known w w' old new (Err fault) × (k' ≡ k))
    ⊎ ((stood : Replicated C L) × (said : Option (List ℕ)) × JoinsFirst seen spares known w said old stood (Ok tt)
    × ServesOver (replicated_seen seen known) (replicated_reason reason) IsBound ends calls k k' said w' count Ends stood
    new)

-- That was done over the log of a name, which IsShared says; or no member was reached, and nothing was done. No clause says
-- of a connection of the system whose it is: review `share` of `bank_commands` by hand.
abbrev pub ServesShared : {C L D E : Type 0} → (C → Seen) → (C → C → Type 0) → (Fault → C → C → Type 0)
    → (IsShared : L → Type 0) → (L → Known) → (IsBound : D → Type 0) → (ends : E → Ends)
    → (calls : D → Option (List (ClientsCall E))) → (k k' w w' : Option (List ℕ)) → (count : ℕ)
    → (Ends : Result Status CommandFault → Type 0) → (old new : C) → Type 0
ServesShared {C = C} {L = L} seen spares reason IsShared known IsBound ends calls k k' w w' count Ends old new =
    (Ends (Err NoQuorum) × Keeps w w' × (k' ≡ k) × (new ≡ old))
    ⊎ ((first : Replicated C L) × (last : Replicated C L) × (counter_of first ≡ old) × IsShared (log_of first)
    × (counter_of last ≡ new)
    × ServesJoined seen spares reason known IsBound ends calls k k' w w' count Ends first last)
