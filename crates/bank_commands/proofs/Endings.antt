-- How a run ends where its words are no command.
use Rattle.std.proofs.Common.{◌≡◌, ◌≢◌, ◌⊎◌, ◌∙◌, subst, sym, refl, inl, inr, true, ℕ, List, Option}
use Rattle.std.specs.Io.KnownBytes.{Keeps}
use Rattle.clap.specs.{Words.IsAmong, Words.Kinds, Words.Text, Words.fault_of, Words.takes}
use Rattle.clap.specs.declared.error.kind.ErrorKind.{ErrorKind}
use Rattle.clap.specs.declared.error.kind.ErrorKind.TheVariants.{DisplayHelp, DisplayVersion, OutOfMemory}
use Rattle.command_line.specs.{declared.status.Status.Status, CommandLine.bank_app}
use Rattle.command_line.specs.declared.status.Status.TheVariants.{Done, Input, System, Usage}
use Rattle.command_line.specs.Lines.{IsHelpOrVersion, IsShown}
use Rattle.bank_commands.specs.Running.{AreRefused, AreTaken}

-- the error of words that are refused is no call for help
pub not_asked : (words : List Text) (k : ErrorKind) → AreRefused words
    → (k ≡ OutOfMemory) ⊎ IsAmong k (fault_of bank_app words) → IsHelpOrVersion k → ⊥
not_asked words k refused (inl memory) (inl asked) =
    let bad : OutOfMemory ≡ DisplayHelp = sym memory ∙ asked in
    cc
not_asked words k refused (inl memory) (inr asked) =
    let bad : OutOfMemory ≡ DisplayVersion = sym memory ∙ asked in
    cc
not_asked words k refused (inr among) asked = refused.no_request k among asked

-- an error that is no call for help ends the program as a mistake in the words, or for want of memory
pub mistake_ends : (k : ErrorKind) (status : Status) → (IsHelpOrVersion k → ⊥) → IsShown k status
    → (status ≡ Usage) ⊎ (status ≡ System)
mistake_ends OutOfMemory status free shown = inr shown
mistake_ends DisplayHelp status free shown = absurd (free (inl refl))
mistake_ends DisplayVersion status free shown = absurd (free (inr refl))
mistake_ends other status free shown = inl shown

-- and prints nothing
pub mistake_keeps : (k : ErrorKind) (old new : Option (List ℕ)) → (IsHelpOrVersion k → ⊥)
    → Keeps old new ⊎ IsHelpOrVersion k
    → Keeps old new
mistake_keeps k old new free (inl keeps) = keeps
mistake_keeps k old new free (inr asked) = absurd (free asked)

-- a call for help ends with the help, or for want of memory
pub help_ends : (k : ErrorKind) (status : Status) → (k ≡ DisplayHelp) ⊎ (k ≡ OutOfMemory) → IsShown k status
    → (status ≡ Done) ⊎ (status ≡ System)
help_ends k status (inl help) shown = subst (λ (kind : ErrorKind). IsShown kind status) help shown
help_ends k status (inr memory) shown = inr (subst (λ (kind : ErrorKind). IsShown kind status) memory shown)

-- and where only memory was in the way the status says so
pub memory_ends : (k : ErrorKind) (status : Status) → k ≡ OutOfMemory → IsShown k status → status ≡ System
memory_ends k status memory shown = subst (λ (kind : ErrorKind). IsShown kind status) memory shown

pub system_is_not_usage : (status : Status) → status ≡ System → status ≢ Usage
system_is_not_usage status is other = let bad : System ≡ Usage = sym is ∙ other in cc

pub input_is_not_usage : (status : Status) → status ≡ Input → status ≢ Usage
input_is_not_usage status is other = let bad : Input ≡ Usage = sym is ∙ other in cc

-- where only memory was in the way, help wasn't asked for
pub memory_is_no_request : (kind : ErrorKind) → kind ≡ OutOfMemory → IsHelpOrVersion kind → ⊥
memory_is_no_request kind memory (inl asked) = let bad : OutOfMemory ≡ DisplayHelp = sym memory ∙ asked in cc
memory_is_no_request kind memory (inr asked) =
    let bad : OutOfMemory ≡ DisplayVersion = sym memory ∙ asked in cc

-- and where clap takes the words, only memory was
pub taken_memory : (words : List Text) (kind : ErrorKind) → (takes bank_app words ≡ true → kind ≡ OutOfMemory)
    → (kind ≡ OutOfMemory) ⊎ IsAmong kind (fault_of bank_app words) → AreTaken words → kind ≡ OutOfMemory
taken_memory words kind taken (inl memory) are = memory
taken_memory words kind taken (inr among) (inl takes) = taken takes
taken_memory words kind taken (inr among) (inr none) =
    absurd (subst (λ (kinds : Kinds). IsAmong kind kinds) none among)
