-- The program's command line as clap's specification sees it: which commands there are, what each takes, and which of
-- them clap matched.
use Rattle.std.specs.Prelude.{◌≡◌, ◌⊎◌, ◌≤◌, ⊤, ℕ, List, [], ◌∷◌, Option, None, Some, Ok, Err, IfSome, IsSomeAnd}
use Rattle.std.specs.Prelude.{◌&&◌, ◌||◌, is_some, true, false, codes, fold, if◌then◌else◌, option_map, unwrap_or}
use Rattle.std.specs.Str.{bytes_eq}
use Rattle.std.specs.Str.Parse.{digits_value, without_leading_plus}
use Rattle.clap.specs.Words.{App, Row, Rule, Text, app_of, first_of, new_app, new_rule, one_of, with_rule, with_subcommand}
use Rattle.clap.specs.declared.builder.action.ArgAction.TheVariants.{SetTrue}
use Rattle.clap.specs.declared.builder.command.Command.{Command}
use Rattle.clap.specs.declared.builder.command.Command.TheViews.{out-Command as fields_of}
use Rattle.clap.specs.declared.builder.value_parser.ValueParser.TheVariants.{Unsigned}
use Rattle.load_driver.specs.declared.drive.TheConstants.{MAX_DRIVEN}
use Rattle.command_line.specs.declared.limits.TheConstants.{MAX_CONNECTIONS}
use Rattle.message_records.specs.declared.limits.TheConstants.{MAX_ACCOUNT}
use Rattle.posting_sheets.specs.declared.money.Money.{Money}
use Rattle.posting_sheets.specs.declared.money.Money.TheVariants.{Cents, Decimals}
use Rattle.command_line.specs.Queries.{is_set, query_in}
use Rattle.command_line.specs.declared.queries.QueryFault.TheVariants.{Sharing as OneMissing}
use Rattle.command_line.specs.declared.reading.Command.{Command as Asked}
use Rattle.command_line.specs.declared.reading.Command.TheVariants.{Decode, Encode, Mistaken, OnFile, Why}
use Rattle.command_line.specs.declared.reading.Task.{Task}
use Rattle.command_line.specs.declared.reading.Task.TheVariants.{Init, Migrate, Share, With}
use Rattle.command_line.specs.declared.reading.Work.{Work}
use Rattle.command_line.specs.declared.reading.Work.TheVariants.{Audit, Digest, Drive, Export, Follow, Load, Log, Plan, Post}
use Rattle.command_line.specs.declared.reading.Work.TheVariants.{Replay, Seal, Serve, Statement, Statements}

-- a required positional argument, which takes one value and has a name in help
abbrev pub required_rule : Text → Rule
required_rule id = record (new_rule id) { value_names = 1; required = true }

-- FILE, the bank's file
abbrev pub file_rule : Rule
file_rule = required_rule (codes "file")

-- CSV, the plan of branches
abbrev pub plan_rule : Rule
plan_rule = required_rule (codes "plan")

-- ADDR, where the counter listens
abbrev pub address_rule : Rule
address_rule = required_rule (codes "address")

-- ACCOUNT, the number of one
abbrev pub account_rule : Rule
account_rule = record (required_rule (codes "account")) { parser = Some (Unsigned 1 MAX_ACCOUNT) }

-- a required option `--NAME N`, for a whole number in a range
abbrev pub number_rule : Text → ℕ → ℕ → Rule
number_rule name least most =
    record (required_rule name) { long = Some name; parser = Some (Unsigned least most) }

-- the same option, which may be left out
abbrev pub optional_rule : Text → ℕ → ℕ → Rule
optional_rule name least most = record (number_rule name least most) { required = false }

-- an option `--NAME TEXT` that may be left out
abbrev pub text_rule : Text → Rule
text_rule name = record (new_rule name) { value_names = 1; long = Some name }

-- an option `--NAME` that has no value
abbrev pub flag_rule : Text → Rule
flag_rule name = record (new_rule name) { long = Some name; action = Some SetTrue }

-- the greatest seed
abbrev pub MAX_SEED : ℕ
MAX_SEED = 18_446_744_073_709_551_615

-- the greatest count of requests that can be asked for
abbrev pub MAX_REQUESTS : ℕ
MAX_REQUESTS = 18_446_744_073_709_551_615

-- N, how many requests
abbrev pub requests_rule : Rule
requests_rule = record (required_rule (codes "requests")) { parser = Some (Unsigned 0 MAX_REQUESTS) }

-- `--after N`, after how many requests it begins
abbrev pub after_rule : Rule
after_rule = optional_rule (codes "after") 0 MAX_REQUESTS

-- `--seed S`, where the driver's draws begin
abbrev pub seed_rule : Rule
seed_rule = number_rule (codes "seed") 0 MAX_SEED

-- `--count N`, how many records are drawn
abbrev pub count_rule : Rule
count_rule = number_rule (codes "count") 1 MAX_DRIVEN

-- `--connections N`, how many connections are served at most
abbrev pub connections_rule : Rule
connections_rule = optional_rule (codes "connections") 1 MAX_CONNECTIONS

-- the command is this app, and has no argument that holds below it too
pub record IsApp (wanted : App) (command : Command) : Type 0 where
  pub app : app_of command ≡ wanted
  pub local : (fields_of command).has_globals ≡ false

-- `init FILE`
abbrev pub init_app : App
init_app = with_rule (new_app (codes "init")) file_rule

-- `load FILE CSV`
abbrev pub load_app : App
load_app = with_rule (with_rule (new_app (codes "load")) file_rule) plan_rule

-- `post FILE`
abbrev pub post_app : App
post_app = with_rule (new_app (codes "post")) file_rule

-- `drive FILE --seed S --count N`
abbrev pub drive_app : App
drive_app = with_rule (with_rule (with_rule (new_app (codes "drive")) file_rule) seed_rule) count_rule

-- `audit FILE`
abbrev pub audit_app : App
audit_app = with_rule (new_app (codes "audit")) file_rule

-- `--from DATE`, the first day of a range
abbrev pub from_rule : Rule
from_rule = text_rule (codes "from")

-- `--to DATE`, its last day
abbrev pub to_rule : Rule
to_rule = text_rule (codes "to")

-- `--zone ZONE`, where these are days
abbrev pub zone_rule : Rule
zone_rule = text_rule (codes "zone")

-- `--reference TEXT`, the reference of the postings
abbrev pub reference_rule : Rule
reference_rule = text_rule (codes "reference")

-- `--csv`, as a sheet
abbrev pub csv_rule : Rule
csv_rule = flag_rule (codes "csv")

-- the command with `[--from DATE] [--to DATE] [--zone ZONE]`
abbrev pub with_days : App → App
with_days app = with_rule (with_rule (with_rule app from_rule) to_rule) zone_rule

-- the command with the options of a query: these, and `[--reference TEXT] [--csv]`
abbrev pub with_query : App → App
with_query app = with_rule (with_rule (with_days app) reference_rule) csv_rule

-- `statement FILE ACCOUNT`
abbrev pub account_app : App
account_app = with_rule (with_rule (new_app (codes "statement")) file_rule) account_rule

-- the same with the options of a query
abbrev pub statement_app : App
statement_app = with_query account_app

-- `statements FILE` with the options of a query
abbrev pub statements_app : App
statements_app = with_query (with_rule (new_app (codes "statements")) file_rule)

-- `replay FILE`
abbrev pub replay_app : App
replay_app = with_rule (new_app (codes "replay")) file_rule

-- `digest FILE N`
abbrev pub digest_app : App
digest_app = with_rule (with_rule (new_app (codes "digest")) file_rule) requests_rule

-- `export FILE [--after N]`
abbrev pub export_app : App
export_app = with_rule (with_rule (new_app (codes "export")) file_rule) after_rule

-- `log FILE [--after N]`
abbrev pub log_app : App
log_app = with_rule (with_rule (new_app (codes "log")) file_rule) after_rule

-- `plan FILE`
abbrev pub plan_app : App
plan_app = with_rule (new_app (codes "plan")) file_rule

-- `follow FILE CSV`
abbrev pub follow_app : App
follow_app = with_rule (with_rule (new_app (codes "follow")) file_rule) plan_rule

-- `serve FILE ADDR [--connections N]`
abbrev pub alone_app : App
alone_app =
    with_rule (with_rule (with_rule (new_app (codes "serve")) file_rule) address_rule) connections_rule

-- `--quorum HOST:PORT`, a member of the quorum that keeps a log
abbrev pub quorum_rule : Rule
quorum_rule = text_rule (codes "quorum")

-- `--name NAME`, the log's name
abbrev pub name_rule : Rule
name_rule = text_rule (codes "name")

-- `--standby`, until it is its turn
abbrev pub standby_rule : Rule
standby_rule = flag_rule (codes "standby")

-- the same with `[--quorum HOST:PORT] [--name NAME] [--standby]`
abbrev pub serve_app : App
serve_app = with_rule (with_rule (with_rule alone_app quorum_rule) name_rule) standby_rule

-- `migrate FILE`
abbrev pub migrate_app : App
migrate_app = with_rule (new_app (codes "migrate")) file_rule

-- `seal FILE`
abbrev pub seal_app : App
seal_app = with_rule (new_app (codes "seal")) file_rule

-- `why FILE`, which is called `faults` too
abbrev pub why_app : App
why_app = let why = with_rule (new_app (codes "why")) file_rule in
    record why { top = record why.top { aliases = codes "faults" ∷ [] } }

-- `encode`, which takes no argument
abbrev pub encode_app : App
encode_app = new_app (codes "encode")

-- FILE, the sheet of the postings that replies answer
abbrev pub sheet_rule : Rule
sheet_rule = text_rule (codes "sheet")

-- `decode [--words] [--sheet FILE]`
abbrev pub decode_app : App
decode_app = with_rule (with_rule (new_app (codes "decode")) (flag_rule (codes "words"))) sheet_rule

-- `bank` before it has its commands: it wants one, and shows its help where no word follows its name
abbrev pub bank_alone : App
bank_alone = let bank = new_app (codes "bank") in record bank {
  top = record bank.top {
    has_version = true;
    subcommand_required = true;
    arg_required_else_help = true;
  };
}

-- the commands of `bank`, in the order of its help
abbrev pub bank_commands : List App
bank_commands = init_app ∷ load_app ∷ post_app ∷ drive_app ∷ audit_app ∷ statement_app ∷ statements_app ∷ replay_app
    ∷ digest_app ∷ export_app ∷ log_app ∷ plan_app ∷ follow_app ∷ serve_app ∷ migrate_app ∷ seal_app ∷ why_app
    ∷ encode_app ∷ decode_app ∷ []

-- the command line `bank` with these commands
abbrev pub with_commands : App → List App → App
with_commands bank commands = fold (λ bank command. with_subcommand bank command.top) bank commands

-- `bank` with its commands; clap adds the command `help`
abbrev pub bank_app : App
bank_app = with_commands bank_alone bank_commands

-- ---- what clap matched

-- the number that a text of digits spells; a plus may come before them
abbrev pub number_of : Text → ℕ
number_of text = digits_value 10 (without_leading_plus text)

-- the number that a text spells, if there is one
abbrev pub spelled : Option Text → Option ℕ
spelled None = None
spelled (Some text) = Some (number_of text)

-- the argument's value is this text
abbrev pub IsText : Text → List Row → Text → Type 0
IsText id rows text = first_of id rows ≡ Some text

-- the argument's value spells this number
abbrev pub IsNumber : Text → List Row → ℕ → Type 0
IsNumber id rows n = IsSomeAnd (one_of id rows) (λ text. n ≡ number_of text)

-- how a sheet of replies writes money: in decimals where the words have the flag, of which clap makes the value `true`
abbrev pub money_of_flag : Option Text → Money
money_of_flag None = Cents
money_of_flag (Some text) = if bytes_eq text (codes "true") then Decimals else Cents

abbrev pub money_in : List Row → Money
money_in rows = money_of_flag (first_of (codes "words") rows)

-- no option of a log that machines share is given
abbrev pub IsAlone : List Row → Type 0
IsAlone rows = (first_of (codes "quorum") rows ≡ None) × (first_of (codes "name") rows ≡ None)
    × (is_set (first_of (codes "standby") rows) ≡ false)

-- or one of them, and the member or the name is missing
abbrev pub IsHalfShared : List Row → Type 0
IsHalfShared rows =
    ((is_some (first_of (codes "quorum") rows) && is_some (first_of (codes "name") rows)) ≡ false)
    × ((is_some (first_of (codes "quorum") rows) || is_some (first_of (codes "name") rows)
    || is_set (first_of (codes "standby") rows)) ≡ true)

-- the work has this name, and its files and numbers are the values of its arguments
abbrev pub IsWorkOf : Text × List Row → Work → Type 0
IsWorkOf p (Load plan) = (p.0 ≡ codes "load") × IsText (codes "plan") p.1 plan.now
IsWorkOf p Post = p.0 ≡ codes "post"
IsWorkOf p (Drive seed count) = (p.0 ≡ codes "drive") × IsNumber (codes "seed") p.1 seed
    × IsNumber (codes "count") p.1 count
IsWorkOf p Audit = p.0 ≡ codes "audit"
IsWorkOf p (Statement account query) = (p.0 ≡ codes "statement") × IsNumber (codes "account") p.1 account
    × (Ok query ≡ query_in p.1)
IsWorkOf p (Statements query) = (p.0 ≡ codes "statements") × (Ok query ≡ query_in p.1)
IsWorkOf p Replay = p.0 ≡ codes "replay"
IsWorkOf p (Digest requests) = (p.0 ≡ codes "digest") × IsNumber (codes "requests") p.1 requests
IsWorkOf p (Export after) = (p.0 ≡ codes "export") × (after ≡ unwrap_or (spelled (one_of (codes "after") p.1)) 0)
IsWorkOf p (Log after) = (p.0 ≡ codes "log") × (after ≡ unwrap_or (spelled (one_of (codes "after") p.1)) 0)
IsWorkOf p Plan = p.0 ≡ codes "plan"
IsWorkOf p (Follow plan) = (p.0 ≡ codes "follow") × IsText (codes "plan") p.1 plan.now
IsWorkOf p Seal = p.0 ≡ codes "seal"
IsWorkOf p (Serve address connections) = (p.0 ≡ codes "serve") × IsText (codes "address") p.1 address.now
    × (connections ≡ spelled (one_of (codes "connections") p.1)) × IsAlone p.1

abbrev pub IsTaskOf : Text × List Row → Task → Type 0
IsTaskOf p Init = p.0 ≡ codes "init"
IsTaskOf p Migrate = p.0 ≡ codes "migrate"
IsTaskOf p (Share address connections member name stands_by) = (p.0 ≡ codes "serve")
    × IsText (codes "address") p.1 address.now × (connections ≡ spelled (one_of (codes "connections") p.1))
    × IsText (codes "quorum") p.1 member.now × IsText (codes "name") p.1 name.now
    × (stands_by ≡ is_set (first_of (codes "standby") p.1))
IsTaskOf p (With work) = IsWorkOf p work

-- the command has this name, and its file and all else that it says are the values of its arguments
abbrev pub IsCommandOf : Text × List Row → Asked → Type 0
IsCommandOf p (OnFile file task) = IsText (codes "file") p.1 file.now × IsTaskOf p task
IsCommandOf p (Why file) = (p.0 ≡ codes "why") × IsText (codes "file") p.1 file.now
IsCommandOf p Encode = p.0 ≡ codes "encode"
IsCommandOf p (Decode money sheet) = (p.0 ≡ codes "decode") × (money ≡ money_in p.1)
    × (option_map (λ s. s.now) sheet ≡ first_of (codes "sheet") p.1)
IsCommandOf p (Mistaken fault) =
    (((p.0 ≡ codes "statement") ⊎ (p.0 ≡ codes "statements")) × (Err fault ≡ query_in p.1))
    ⊎ ((p.0 ≡ codes "serve") × (fault ≡ OneMissing) × IsHalfShared p.1)

-- the numbers of a work are in their ranges
abbrev pub IsWorkInRange : Work → Type 0
IsWorkInRange (Drive seed count) = (seed ≤ MAX_SEED) × (1 ≤ count) × (count ≤ MAX_DRIVEN)
IsWorkInRange (Statement account query) = (1 ≤ account) × (account ≤ MAX_ACCOUNT)
IsWorkInRange (Serve address connections) = IfSome connections (λ n. (1 ≤ n) × (n ≤ MAX_CONNECTIONS))
IsWorkInRange _ = ⊤

abbrev pub IsTaskInRange : Task → Type 0
IsTaskInRange (With work) = IsWorkInRange work
IsTaskInRange (Share address connections member name stands_by) = IfSome connections (λ n. (1 ≤ n) × (n ≤ MAX_CONNECTIONS))
IsTaskInRange _ = ⊤

-- and so are those of a command
abbrev pub AreInRange : Asked → Type 0
AreInRange (OnFile file task) = IsTaskInRange task
AreInRange _ = ⊤
