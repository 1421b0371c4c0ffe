-- What clap's parse promises of the app that is proved to be `bank`.
use Rattle.std.proofs.Common.{◌≡◌, true, refl, subst, Result, Ok, Err, IfOk, List}
use Rattle.clap.specs.{Walk.Text, Kinds.FailsBy, Faults.fault_of, Faults.is_simple_and_free}
use Rattle.clap.specs.{declared.error.Error.Error, declared.parser.matches.ArgMatches.ArgMatches}
use Rattle.clap.specs.Simple.{App, HasMatchesOf, subcommand_of, subcommand_rows_of}
use Rattle.command_line.specs.CommandLine.{bank_app}

abbrev FailsAs : Result ArgMatches Error → List Text → App → Type 0
FailsAs r words app = is_simple_and_free app ≡ true → FailsBy (fault_of app words) r

pub matches_fail : (r : Result ArgMatches Error) (app : App) (words : List Text) → app ≡ bank_app
    → FailsAs r words app
    → FailsBy (fault_of bank_app words) r
matches_fail r app words is fault = (subst (FailsAs r words) is fault) refl

pub matches_told : (r : Result ArgMatches Error) (app : App) (words : List Text) → app ≡ bank_app
    → IfOk r (HasMatchesOf app words)
    → IfOk r (λ m. subcommand_rows_of m ≡ subcommand_of bank_app words)
matches_told (Err e) app words is matches = tt
matches_told (Ok m) app words is matches = ((subst (λ (a : App). HasMatchesOf a words m) is matches) refl).1
