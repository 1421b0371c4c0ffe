-- What is to be done for a message.
use Rattle.std.specs.Prelude.{◌≡◌, List, Option, true, false}
use Rattle.posting_rules.specs.believed.Commands.{Command}
use Rattle.posting_core.specs.believed.LogEntries.{entries_given}
use Rattle.counter_http.specs.Holders.{balance_of, holder_line}
use Rattle.counter_http.specs.Listing.{listing_answer}
use Rattle.counter_http.specs.Figures.{asks_on}
use Rattle.counter_http.specs.believed.Answers.{Asked, answer_on, balance_answer, bare, entries_answer}
use Rattle.counter_http.specs.believed.Answers.{submits}
use Rattle.counter_http.specs.believed.Paths.{path_of, route_of}
use Rattle.counter_http.specs.Telling.{said}
use Rattle.counter_http.specs.declared.routes.Route.{Route}
use Rattle.counter_http.specs.declared.tasks.Task.{Task}
use Rattle.counter_http.specs.declared.tasks.Task.TheVariants.{Say, Submit, Balance, Branches, Entries, Metrics}

-- on a route the answer is this, whatever the bank shows; its record is submitted; the answer is read; or it is the
-- figures, where somebody has them
abbrev pub IsTaskOn : Option Route → Asked → Task → Type 0
IsTaskOn route asked (Say response) =
    (submits route asked ≡ false) × ((log : List Command) → answer_on log route asked ≡ said response)
    × (asks_on route asked ≡ false)
IsTaskOn route asked (Submit bytes) = (submits route asked ≡ true) × (bytes.now ≡ asked.body)
IsTaskOn route asked (Balance holder) =
    (submits route asked ≡ false)
    × ((log : List Command) → answer_on log route asked ≡ balance_answer (holder_line holder) (balance_of log holder))
    × (asks_on route asked ≡ false)
IsTaskOn route asked (Branches listing) =
    (submits route asked ≡ false) × ((log : List Command) → answer_on log route asked ≡ listing_answer listing log)
    × (asks_on route asked ≡ false)
IsTaskOn route asked (Entries after) =
    (submits route asked ≡ false)
    × ((log : List Command) → answer_on log route asked ≡ entries_answer (entries_given log after))
    × (asks_on route asked ≡ false)
IsTaskOn route asked Metrics =
    (submits route asked ≡ false) × ((log : List Command) → answer_on log route asked ≡ bare 404)
    × (asks_on route asked ≡ true)

abbrev pub IsTaskOf : Asked → Task → Type 0
IsTaskOf asked task = IsTaskOn (route_of (path_of asked.target)) asked task
