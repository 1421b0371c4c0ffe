-- The messages of an input, one after another, and how the walk over them ends.
use Rattle.std.specs.Prelude.{◌≡◌, ◌≢◌, ℕ, ◌≤◌, ◌<◌, List, [], ◌∷◌, ◌++◌, length, Option, Some, None, Bool}
use Rattle.std.specs.Prelude.{true, false, ◌||◌, ◌==◌, codes, bytes_eq, ⊤}
use Rattle.httparse.specs.Grammar.{RequestHead, print_request, IsRequestHead}
use Rattle.counter_http.specs.declared.limits.TheConstants.{MAX_FIELDS, MAX_HEAD}
use Rattle.counter_http.specs.believed.Fields.{named_values, body_length, asks_to_close}

-- a head that is taken: one of HTTP/1.0 or HTTP/1.1 as `httparse` defines it, within the limits. Empty lines before
-- it count as part of it, and a target that isn't UTF-8 is none.
pub record IsHead (h : RequestHead) : Type 0 where
  pub head : IsRequestHead h
  pub fields : length h.fields ≤ MAX_FIELDS
  pub bytes : length (print_request h) ≤ MAX_HEAD

pub record Message : Type 0 where
  pub head : RequestHead
  pub body : List ℕ

abbrev pub message_text : Message → List ℕ
message_text m = print_request m.head ++ m.body

-- a message is whole where its head is taken and its body is as long as the head says
pub record IsMessage (m : Message) : Type 0 where
  pub head : IsHead m.head
  pub body : body_length (named_values m.head) ≡ Some (length m.body)

-- the connection ends after the answer to the message
abbrev pub closes : RequestHead → Bool
closes h = h.minor == 0 || asks_to_close (named_values h)

abbrev pub is_head_request : RequestHead → Bool
is_head_request h = bytes_eq h.method (codes "HEAD")

-- ---- the walk

-- why the walk over an input ends
pub data Ending : Type 0 where
  -- nothing remains
  Finished : Ending
  -- the connection ends after the last answer
  Closed : Ending
  -- what remains begins with no head
  No_head : Ending
  -- it begins with this head, and the body is not there or can't be told
  No_body : RequestHead → Ending

-- no head within the limits stands at the front
abbrev pub BeginsWithNoHead : List ℕ → Type 0
BeginsWithNoHead rest = (h : RequestHead) (after : List ℕ) → IsHead h → rest ≢ print_request h ++ after

-- fewer bytes than the body's length, or no length
abbrev pub LacksBody : Option ℕ → List ℕ → Type 0
LacksBody None after = ⊤
LacksBody (Some n) after = length after < n

-- the walk ends so, with what remains
abbrev pub EndsWalk : Ending → List ℕ → Type 0
EndsWalk Finished rest = rest ≡ []
EndsWalk Closed rest = ⊥
EndsWalk No_head rest = (rest ≢ []) × BeginsWithNoHead rest
EndsWalk (No_body h) rest =
    IsHead h
    × ((after : List ℕ) × (rest ≡ print_request h ++ after)
    × LacksBody (body_length (named_values h)) after)

-- the input is these messages, and then the walk ends so: after a message that closes the connection,
-- whatever follows
abbrev pub Walks : List ℕ → List Message → Ending → Type 0
Walks input [] ending = EndsWalk ending input
Walks input (m ∷ ms) ending =
    IsMessage m
    × ((rest : List ℕ) × (input ≡ message_text m ++ rest)
    × (closes m.head ≡ true → (ms ≡ []) × (ending ≡ Closed))
    × (closes m.head ≡ false → Walks rest ms ending))
