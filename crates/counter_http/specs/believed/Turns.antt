-- Messages one after another: each is answered in its turn, and a record is submitted under one reading of
-- the clock. The writer's known bytes before and after are w and w', what its calls returned v and v', the
-- clock's known readings k and k'. What is seen of a counter is given by seen, and what a fault says of a
-- call by reason; or the counter is seen as c before and as c' after.
use Rattle.std.specs.Prelude.{ℕ, List, [], ◌∷◌, map, Bool, true, false}
use Rattle.std.specs.List.{flat_map}
use Rattle.posting_rules.specs.believed.Commands.{Command, Post}
use Rattle.posting_rules.specs.believed.Runs.{followed_by}
use Rattle.counter_http.specs.believed.Messages.{Message, message_text}
use Rattle.counter_http.specs.believed.Answers.{Asked, asked_by, is_posting, answer_of}

abbrev pub commands_if : Bool → ℕ → List ℕ → List Command
commands_if true moment body = Post moment body ∷ []
commands_if false moment body = []

abbrev pub readings_if : Bool → ℕ → List ℕ
readings_if true moment = moment ∷ []
readings_if false moment = []

-- the command that a message submits, and the reading of the clock for it
abbrev pub commands_for : ℕ → Asked → List Command
commands_for moment asked = commands_if (is_posting asked) moment asked.body

abbrev pub readings_for : ℕ → Asked → List ℕ
readings_for moment asked = readings_if (is_posting asked) moment

-- a message, and the moment that its record is submitted at, if it has one
pub record Turn : Type 0 where
  pub message : Message
  pub moment : ℕ

abbrev pub commands_in : Turn → List Command
commands_in t = commands_for t.moment (asked_by t.message)

abbrev pub moments_in : Turn → List ℕ
moments_in t = readings_for t.moment (asked_by t.message)

abbrev pub message_in : Turn → Message
message_in t = t.message

abbrev pub text_in : Turn → List ℕ
text_in t = message_text t.message

-- of messages one after another: what they are, their bytes, the commands, and the readings of the clock
abbrev pub messages_of : List Turn → List Message
messages_of ts = map message_in ts

abbrev pub texts_of : List Turn → List ℕ
texts_of ts = flat_map text_in ts

abbrev pub commands_of : List Turn → List Command
commands_of ts = flat_map commands_in ts

abbrev pub moments_of : List Turn → List ℕ
moments_of ts = flat_map moments_in ts

-- the answers after a log
abbrev pub answers_to : List Command → List Turn → List (List ℕ)
answers_to log [] = []
answers_to log (t ∷ ts) = answer_of log (asked_by t.message) ∷ answers_to (followed_by log (commands_in t)) ts
