-- Which command the words of the command line tell, and which words ask for help.
use Rattle.std.specs.Prelude.{◌≡◌, ◌⊎◌, ◌&&◌, List, [], ◌∷◌, IsSomeAnd, codes, if◌then◌else◌}
use Rattle.std.specs.Str.{bytes_eq}
use Rattle.clap.specs.Words.{Text, fault_of, kind_of, subcommand_of}
use Rattle.clap.specs.declared.error.Error.{Error}
use Rattle.clap.specs.declared.error.kind.ErrorKind.TheVariants as kind
use Rattle.command_line.specs.CommandLine.{IsCommandOf, bank_app}
use Rattle.command_line.specs.declared.reading.Command.{Command}

-- the words that clap is given: it knows no `bank help --help`, which is read as `bank --help`
abbrev pub words_read : List Text → List Text
words_read (program ∷ name ∷ flag ∷ []) = if bytes_eq name (codes "help") && bytes_eq flag (codes "--help")
    then name ∷ flag ∷ [] else program ∷ name ∷ flag ∷ []
words_read words = words

-- clap matches the words to a subcommand of `bank` and to its values, and the command is that one
abbrev pub IsReadFrom : List Text → Command → Type 0
IsReadFrom words command = IsSomeAnd (subcommand_of bank_app words) (λ p. IsCommandOf p command)

-- ---- words that ask for help

-- clap finds nothing in the words, as it is given them, but a request for help
abbrev pub AsksForHelp : List Text → Type 0
AsksForHelp words = fault_of bank_app (words_read words) ≡ kind.DisplayHelp ∷ []

-- the error is the help, or memory ran out
abbrev pub IsHelp : Error → Type 0
IsHelp error = (kind_of error ≡ kind.DisplayHelp) ⊎ (kind_of error ≡ kind.OutOfMemory)
