-- What a counter says of itself: how many replies it gave, by their outcomes, and its text, as Prometheus reads it.
use Rattle.std.specs.Prelude.{◌≡◌, ◌⊎◌, ◌≤◌, ◌+◌, ◌-◌, ◌^◌, ◌==◌, ℕ, List, [], ◌∷◌, ◌++◌, length, filter, Bool, false, Option, Some, None}
use Rattle.std.specs.Prelude.{codes, if◌then◌else◌, option_and_then, slice_range}
use Rattle.std.specs.Fmt.{decimal}
use Rattle.message_records.specs.believed.Outcomes.{code_of, outcome_with}
use Rattle.message_records.specs.believed.Reading.{number_of}
use Rattle.message_records.specs.declared.records.Outcome.{Outcome}
use Rattle.message_records.specs.declared.records.Outcome.TheVariants.{Posted, NoTeller, WrongBranch}
use Rattle.message_records.specs.declared.records.Outcome.TheVariants.{NoAccount, BelowFloor, OverLimit}
use Rattle.message_records.specs.declared.records.Outcome.TheVariants.{ReusedNumber, Closed, Sealed, Full, Malformed}
use Rattle.posting_rules.specs.believed.Commands.{Command}
use Rattle.counter_http.specs.believed.Answers.{Answer, Asked, answer_text, answer_to, is_reading, shows}
use Rattle.counter_http.specs.believed.Paths.{path_of, route_of}
use Rattle.counter_http.specs.declared.routes.Route.{Route}
use Rattle.counter_http.specs.declared.routes.Route.TheVariants.{Metrics}
use Rattle.counter_http.specs.declared.figures.Figures.{Figures}
use Rattle.counter_http.specs.declared.figures.Tally.{Tally}

-- ---- numbers

-- so many more: a number of 64 bits is the sum, or full, where that is no less
abbrev pub IsMore : (old new more : ℕ) → Type 0
IsMore old new more = (new ≡ old + more) ⊎ ((2 ^ 64 - 1 ≤ new) × (2 ^ 64 - 1 ≤ old + more))

abbrev pub tallied : Tally → Outcome → ℕ
tallied t Posted = t.posted
tallied t NoTeller = t.no_teller
tallied t WrongBranch = t.wrong_branch
tallied t NoAccount = t.no_account
tallied t BelowFloor = t.below_floor
tallied t OverLimit = t.over_limit
tallied t ReusedNumber = t.reused_number
tallied t Closed = t.closed
tallied t Sealed = t.sealed
tallied t Full = t.full
tallied t Malformed = t.malformed

abbrev pub nothing : Tally
nothing = record {
  records = 0;
  commits = 0;
  posted = 0;
  no_teller = 0;
  wrong_branch = 0;
  no_account = 0;
  below_floor = 0;
  over_limit = 0;
  reused_number = 0;
  closed = 0;
  sealed = 0;
  full = 0;
  malformed = 0;
}

abbrev pub is_same : (a b : Outcome) → Bool
is_same a b = code_of b == code_of a

-- the outcome that a reply has the code of, if one does
abbrev pub outcome_in : List ℕ → Option Outcome
outcome_in reply = option_and_then outcome_with (number_of (slice_range reply 4 6))

abbrev pub is_told_as : Outcome → Option Outcome → Bool
is_told_as outcome None = false
is_told_as outcome (Some other) = is_same outcome other

abbrev pub has_outcome : Outcome → List ℕ → Bool
has_outcome outcome reply = is_told_as outcome (outcome_in reply)

-- one more of an outcome, and of no other
pub record AddsOutcome (old new : Tally) (outcome : Outcome) : Type 0 where
  pub same : (new.records ≡ old.records) × (new.commits ≡ old.commits)
  pub outcomes_are : (o : Outcome) → IsMore (tallied old o) (tallied new o) (length (filter (is_same o) (outcome ∷ [])))

-- how many of these replies have the outcome
abbrev pub how_many : Outcome → List (List ℕ) → ℕ
how_many outcome replies = length (filter (has_outcome outcome) replies)

-- these replies were given, by so many commits
pub record Counts (old new : Tally) (replies : List (List ℕ)) (commits : ℕ) : Type 0 where
  pub records_are : IsMore old.records new.records (length replies)
  pub commits_are : IsMore old.commits new.commits commits
  pub outcomes_are : (o : Outcome) → IsMore (tallied old o) (tallied new o) (how_many o replies)

-- ---- their text

abbrev pub sample : List ℕ → ℕ → List ℕ
sample name value = name ++ codes " " ++ decimal value ++ codes "\n"

-- a number with its name, what it is, and of which kind
abbrev pub metric : (name help kind : List ℕ) → ℕ → List ℕ
metric name help kind value =
    codes "# HELP " ++ name ++ codes " " ++ help ++ codes "\n# TYPE " ++ name ++ codes " " ++ kind ++ codes "\n"
    ++ sample name value

unfoldable pub refusals_text : Tally → List ℕ
refusals_text t =
    codes "# HELP bank_refusals_total Records replied to with another outcome; one that is sent again counts again.\n# TYPE bank_refusals_total counter\n"
    ++ sample (codes "bank_refusals_total{outcome=\"11\"}") t.no_teller
    ++ sample (codes "bank_refusals_total{outcome=\"12\"}") t.wrong_branch
    ++ sample (codes "bank_refusals_total{outcome=\"13\"}") t.no_account
    ++ sample (codes "bank_refusals_total{outcome=\"14\"}") t.over_limit
    ++ sample (codes "bank_refusals_total{outcome=\"15\"}") t.reused_number
    ++ sample (codes "bank_refusals_total{outcome=\"16\"}") t.full
    ++ sample (codes "bank_refusals_total{outcome=\"17\"}") t.below_floor
    ++ sample (codes "bank_refusals_total{outcome=\"18\"}") t.closed
    ++ sample (codes "bank_refusals_total{outcome=\"19\"}") t.sealed
    ++ sample (codes "bank_refusals_total{outcome=\"90\"}") t.malformed

abbrev pub counter : (name help : List ℕ) → ℕ → List ℕ
counter name help value = metric name help (codes "counter") value

abbrev pub gauge : (name help : List ℕ) → ℕ → List ℕ
gauge name help value = metric name help (codes "gauge") value

unfoldable pub figures_text : Figures → List ℕ
figures_text f =
    counter (codes "bank_postings_total")
    (codes "Records replied to with outcome 00; one that is sent again counts again.") f.tally.posted
    ++ refusals_text f.tally
    ++ counter (codes "bank_records_total") (codes "Records replied to.") f.tally.records
    ++ counter (codes "bank_commits_total") (codes "Transactions by which those records were taken.") f.tally.commits
    ++ gauge (codes "bank_connections") (codes "Clients that are connected.") f.connections
    ++ gauge (codes "bank_uptime_seconds") (codes "Seconds since the counter began to serve.") f.seconds

-- ---- who is told them

abbrev pub asks_on : Option Route → Asked → Bool
asks_on (Some Metrics) asked = is_reading asked.method
asks_on _ asked = false

-- a message asks for the figures
unfoldable pub asks_figures : Asked → Bool
asks_figures asked = asks_on (route_of (path_of asked.target)) asked

abbrev pub figures_answer : Figures → Answer
figures_answer figures =
    record { code = 200; media = codes "text/plain; version=0.0.4"; allow = None; body = figures_text figures }

-- the figures that a message is told, if it asks for them
abbrev pub told_to : Figures → Asked → Option Figures
told_to figures asked = if asks_figures asked then Some figures else None

-- the answer is these figures, or that of the bank
abbrev pub answer_with : Option Figures → List Command → Asked → Answer
answer_with None log asked = answer_to log asked
answer_with (Some figures) log asked = figures_answer figures

abbrev pub answer_told : Option Figures → List Command → Asked → List ℕ
answer_told figures log asked = answer_text (answer_with figures log asked) (shows asked) asked.closes
