-- Answers that no moment changes.
use Rattle.std.specs.Prelude.{◌≡◌, List, Some}
use Rattle.std.specs.List.{AllByRecursion}
use Rattle.posting_rules.specs.believed.Commands.{Command}
use Rattle.counter_http.specs.declared.routes.Route.TheVariants.{Log}
use Rattle.counter_http.specs.believed.Paths.{path_of, route_of}
use Rattle.counter_http.specs.believed.Turns.{Turn, answers_to, messages_of}

-- it asks for no entries of the log
abbrev pub AsksNoLog : Turn → Type 0
AsksNoLog t = route_of (path_of t.message.head.target) ≡ Some Log → ⊥

-- messages that ask for none have the same answers, whenever their records are submitted
abbrev pub AnswersHaveNoMoment : Type 0
AnswersHaveNoMoment = (log : List Command) (turns others : List Turn) → AllByRecursion AsksNoLog turns
    → messages_of turns ≡ messages_of others → answers_to log turns ≡ answers_to log others
