-- The lines that the program prints, and how it ends where its words aren't a command.
use Rattle.std.specs.Prelude.{◌≡◌, ◌⊎◌, ◌≤◌, ℕ, ℤ, List, [], ◌∷◌, ◌++◌, codes, length, take}
use Rattle.std.specs.Prelude.{Option, Result, OnErr, OnOk}
use Rattle.std.specs.Fmt.{decimal, signed_decimal}
use Rattle.std.specs.Io.KnownBytes.{Appends}
use Rattle.std.specs.Net.Text.{socket_text}
use Rattle.std.specs.declared.io.ErrorKind.{ErrorKind as FileError}
use Rattle.std.specs.declared.io.ErrorKind.TheVariants.{OutOfMemory}
use Rattle.std.specs.declared.net.socket_addr.SocketAddr.{SocketAddr}
use Rattle.load_driver.specs.declared.drive.Driven.{Driven}
use Rattle.branch_loader.specs.declared.loader.Loaded.{Loaded}
use Rattle.clap.specs.declared.error.kind.ErrorKind.{ErrorKind}
use Rattle.clap.specs.declared.error.kind.ErrorKind.TheVariants as kind
use Rattle.posting_rules.specs.declared.closed_numbers.Closing.{Closing}
use Rattle.posting_rules.specs.declared.closed_numbers.Closing.TheVariants.{Closed}
use Rattle.posting_core.specs.believed.EndCalls.{EndsWith}
use Rattle.posting_core.specs.EndCalls.{HasWriteFailed, IsFlush, IsThrough, WriteCall}
use Rattle.shared_log.specs.declared.joining.Joined.{Joined}
use Rattle.report_contents.specs.Written.{AppendsPart}
use Rattle.command_line.specs.CommandFaults.{fault_text}
use Rattle.command_line.specs.declared.fault.CommandFault.{CommandFault}
use Rattle.command_line.specs.declared.fault.CommandFault.TheVariants.{Memory}
use Rattle.command_line.specs.declared.status.Status.{Status}
use Rattle.command_line.specs.declared.status.Status.TheVariants.{Done, Usage, System}

-- a text, and the end of its line
abbrev pub line : List ℕ → List ℕ
line text = text ++ 10 ∷ []

-- a bank was made
abbrev pub created_line : List ℕ
created_line = line (codes "created")

-- a bank can be opened
abbrev pub usable_line : List ℕ
usable_line = line (codes "it can be opened: bank audit looks at its rows")

-- so many branches of a plan got each answer
abbrev pub loaded_line : Loaded → List ℕ
loaded_line loaded = line (codes "opened " ++ decimal loaded.opened
    ++ codes " already " ++ decimal loaded.already
    ++ codes " differs " ++ decimal loaded.differs)

-- so many records were drawn, and so many got each answer
abbrev pub driven_line : ℕ → Driven → List ℕ
driven_line count driven = line (codes "records " ++ decimal count
    ++ codes " posted " ++ decimal driven.posted
    ++ codes " refused " ++ decimal driven.refused)

-- a bank that is to follow another one has so many requests
abbrev pub after_line : ℕ → List ℕ
after_line requests = line (codes "after " ++ decimal requests)

-- so many entries were followed
abbrev pub followed_line : ℕ → List ℕ
followed_line entries = line (codes "followed " ++ decimal entries)

-- a bank was carried over from one version to another
abbrev pub migrated_line : ℤ → ℤ → List ℕ
migrated_line from to = line (codes "migrated " ++ signed_decimal from ++ codes " to " ++ signed_decimal to)

-- it had this version already
abbrev pub already_line : ℤ → List ℕ
already_line version = line (codes "already version " ++ signed_decimal version)

-- the books are sealed, or were
abbrev pub sealed_line : Closing → List ℕ
sealed_line Closed = line (codes "sealed")
sealed_line _ = line (codes "already sealed")

-- where the counter listens
abbrev pub listening_line : SocketAddr → List ℕ
listening_line address = line (codes "listening " ++ socket_text address)

-- so many entries the quorum held, and so many it and the bank hold now
abbrev pub joined_line : Joined → List ℕ
joined_line joined = line (codes "quorum held " ++ decimal joined.held ++ codes " holds " ++ decimal joined.holds)

-- why a command ended, on standard error
abbrev pub fault_line : CommandFault → List ℕ
fault_line fault = line (codes "bank: " ++ fault_text fault)

-- that its words couldn't be read, for an error of this kind
abbrev pub no_words_line : FileError → List ℕ
no_words_line OutOfMemory = fault_line Memory
no_words_line _ = line (codes "error: a word isn't UTF-8")

-- A line is printed. w and w' are the known bytes of the output before and after, and t and t' what its calls
-- are known to have returned.
pub record PrintsLine (text : List ℕ) (w w' : Option (List ℕ)) (t t' : Option (List WriteCall))
    (end : Result (Unit {0}) CommandFault) : Type 0 where
  -- at Ok it is written
  pub line : OnOk end (Appends w w' text)
  -- and flushed after all else
  pub flushed : OnOk end (EndsWith IsFlush t t')
  -- at a fault a prefix of it is written
  pub part : OnErr end ((n : ℕ) × (n ≤ length text) × Appends w w' (take n text))

-- A text is written and flushed, or none is due; or the output failed, and a prefix of it is written.
abbrev pub WritesOut : List ℕ → (w w' : Option (List ℕ)) → (t t' : Option (List WriteCall)) → Type 0
WritesOut text w w' t t' = (Appends w w' text × IsThrough t t') ⊎ (AppendsPart w w' text × HasWriteFailed t t')

-- help or the version was asked for
abbrev pub IsHelpOrVersion : ErrorKind → Type 0
IsHelpOrVersion asked = (asked ≡ kind.DisplayHelp) ⊎ (asked ≡ kind.DisplayVersion)

-- how the program ends on an error of this kind
abbrev pub IsShown : ErrorKind → Status → Type 0
IsShown kind.OutOfMemory status = status ≡ System
IsShown kind.DisplayHelp status = (status ≡ Done) ⊎ (status ≡ System)
IsShown kind.DisplayVersion status = (status ≡ Done) ⊎ (status ≡ System)
IsShown other status = status ≡ Usage
