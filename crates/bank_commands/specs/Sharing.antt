-- What `serve` does over the connection conn, which it hands back as back, where machines share its log, and what it
-- prints: end is the status or the fault. w and w' are the known bytes of the output before and after, and k and k' the
-- clock's known readings.
use Rattle.std.specs.Prelude.{◌≡◌, ◌⊎◌, ℕ, List, Option, Result, Err}
use Rattle.std.specs.Io.KnownBytes.{Appends, Keeps}
use Rattle.sqlite.specs.Held.{Held}
use Rattle.sqlite_trees.specs.declared.store.Store.{Ghosts}
use Rattle.counter_http.specs.Clients.{ClientsCall}
use Rattle.counter_http.specs.Connections.{Known as Ends}
use Rattle.report_contents.specs.Written.{AppendsPart}
use Rattle.shared_log.specs.Known.{Known}
use Rattle.shared_log.specs.declared.joining.Joined.{Joined}
use Rattle.bank_store.specs.believed.{BankSparing.SparesOtherTables, Down.bank_reason, Seen.bank_seen}
use Rattle.command_line.specs.Lines.{joined_line}
use Rattle.command_line.specs.Sharing.{ServesShared}
use Rattle.command_line.specs.declared.fault.CommandFault.{CommandFault}
use Rattle.command_line.specs.declared.fault.CommandFault.TheVariants.{Write}
use Rattle.command_line.specs.declared.status.Status.{Status}
use Rattle.bank_commands.specs.{Commands.PrintsServe, Over.FindsOver}

-- IsShared says of a log that it is the one of a name, and held what is known of one
abbrev pub SharesOver : {S L D E : Type 0} (g : Ghosts S) → (conn back : Held S) → (IsShared : L → Type 0)
    → (held : L → Known) → (IsBound : D → Type 0) → (ends : E → Ends) → (calls : D → Option (List (ClientsCall E)))
    → (w w' k k' : Option (List ℕ)) → (count : ℕ) → Result Status CommandFault → Type 0
SharesOver g conn back IsShared held IsBound ends calls w w' k k' count end =
    FindsOver g conn back end ((w' ≡ w) × (k' ≡ k))
    (ServesShared (bank_seen g) (SparesOtherTables g) (bank_reason g) IsShared held IsBound ends calls k k' w w' count
    (λ other. end ≡ other))

-- how far it went, and then where it listens; or nothing at a fault before that
abbrev pub PrintsShared : (w w' : Option (List ℕ)) → Result Status CommandFault → Type 0
PrintsShared w w' end = (((fault : CommandFault) × (end ≡ Err fault)) × Keeps w w')
    ⊎ ((joined : Joined) × (((end ≡ Err Write) × AppendsPart w w' (joined_line joined))
    ⊎ ((said : Option (List ℕ)) × Appends w said (joined_line joined) × PrintsServe said w' end)))
