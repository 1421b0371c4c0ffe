-- What stands at the front of the bytes that were read.
use Rattle.std.specs.Prelude.{◌≡◌, ◌≢◌, ℕ, ◌<◌, List, [], ◌∷◌, ◌++◌, length, drop, Bool}
use Rattle.counter_http.specs.declared.next.Whole.{Whole}
use Rattle.counter_http.specs.declared.next.Next.{Next}
use Rattle.counter_http.specs.declared.next.Next.TheVariants as next
use Rattle.counter_http.specs.declared.limits.TheConstants.{BUFFER}
use Rattle.counter_http.specs.believed.Answers.{Asked, asked_by, refusal, final_answer}
use Rattle.counter_http.specs.believed.Messages.{Message, message_text, IsMessage, Ending, EndsWalk}
use Rattle.counter_http.specs.Messages.{AlwaysEnds}

-- what the parts of a message ask for
abbrev pub asked : Whole → Asked
asked w = record { method = w.method.now; target = w.target.now; body = w.body.now; closes = w.closes }

-- a message stands at the front, of these parts
pub record IsWhole (buf : List ℕ) (w : Whole) : Type 0 where
  pub message : Message
  pub whole : IsMessage message
  pub front : buf ≡ message_text message ++ drop w.length buf
  pub long : w.length ≡ length (message_text message)
  pub asks : asked w ≡ asked_by message

-- no message is there yet, and an input that ended here would end so
pub record IsUnfinished (buf : List ℕ) (shown : Bool) : Type 0 where
  pub ending : Ending
  pub ends : buf ≢ [] → EndsWalk ending buf
  pub answer : final_answer ending ≡ refusal shown ∷ []
  pub room : length buf < BUFFER

-- whatever follows, the walk ends so
pub record IsHopeless (buf : List ℕ) (shown : Bool) : Type 0 where
  pub ending : Ending
  pub ends : AlwaysEnds ending buf
  pub answer : final_answer ending ≡ refusal shown ∷ []

abbrev pub IsNextMessage : List ℕ → Next → Type 0
IsNextMessage buf (next.Message w) = IsWhole buf w
IsNextMessage buf (next.Unfinished shown) = IsUnfinished buf shown
IsNextMessage buf (next.Refused shown) = IsHopeless buf shown
