-- A connection, message by message: what is read, what is written, what the bank shows, what a crash may
-- leave. The reader's known bytes before and after are r and r', what its reads returned q and q', the
-- writer's known bytes w and w', the clock's known readings k and k'. The bank is old before and new after,
-- and seen says what is seen of it.
use Rattle.std.specs.Prelude.{◌≡◌, ◌≢◌, ◌⊎◌, ℕ, ◌+◌, List, [], ◌∷◌, ◌++◌, length, take, Option, Result, Ok}
use Rattle.std.specs.Prelude.{Err, false}
use Rattle.std.specs.List.{AllByRecursion}
use Rattle.std.specs.Io.KnownBytes.{Appends, Consumes}
use Rattle.posting_rules.specs.declared.fault.Fault.{Fault}
use Rattle.posting_rules.specs.believed.Commands.{Command}
use Rattle.posting_rules.specs.believed.Counter.{Seen, ShowsLog, StandsAt, LeavesOnly, ShowsPrefix, Takes, Refuses}
use Rattle.posting_core.specs.believed.Batches.{joined}
use Rattle.posting_core.specs.believed.Clock.{AreReadings}
use Rattle.posting_core.specs.believed.EndCalls.{ReadCall}
use Rattle.counter_http.specs.declared.fault.ServeFault.{ServeFault}
use Rattle.counter_http.specs.declared.fault.ServeFault.TheVariants.{Read, Write, Bank, Memory}
use Rattle.counter_http.specs.believed.Ends.{HasEnded}
use Rattle.counter_http.specs.believed.Messages.{Message, message_text, IsMessage, closes, Ending, Walks}
use Rattle.counter_http.specs.believed.Answers.{asked_by, unavailable, final_answer}
use Rattle.counter_http.specs.believed.Turns.{Turn, commands_of, moments_of, messages_of, texts_of, answers_to}

-- a message is whole, and the connection goes on after it
pub record KeepsConnection (m : Message) : Type 0 where
  pub whole : IsMessage m
  pub stays : closes m.head ≡ false

-- no whole message stands at the front
abbrev pub BeginsWithNoMessage : List ℕ → Type 0
BeginsWithNoMessage rest = (m : Message) (after : List ℕ) → IsMessage m → rest ≢ message_text m ++ after

-- ---- what was answered last

-- the walk ended, with an input that has ended or whatever bytes follow
pub record IsWalked (has_ended : Type 0) (taken refused : List Turn) (rest : List ℕ) (last : List (List ℕ))
    : Type 0 where
  pub ending : Ending
  pub walks : Walks (texts_of taken ++ rest) (messages_of taken) ending
  pub last_is : last ≡ final_answer ending
  pub ended : has_ended
      ⊎ ((more : List ℕ) → Walks ((texts_of taken ++ rest) ++ more) (messages_of taken) ending)
  pub none_refused : refused ≡ []

-- the whole messages that were read were answered
pub record ServingIsCutOff (taken refused : List Turn) (rest : List ℕ) (last : List (List ℕ)) : Type 0 where
  pub stays : AllByRecursion (λ t. KeepsConnection t.message) taken
  pub no_more : BeginsWithNoMessage rest
  pub none_refused : refused ≡ []
  pub nothing : last ≡ []

-- the answer to a message was the last that was begun
pub record IsAtMessage (taken refused : List Turn) (last : List (List ℕ)) : Type 0 where
  pub before : List Turn
  pub turn : Turn
  pub taken_is : taken ≡ before ++ turn ∷ []
  pub stays : AllByRecursion (λ t. KeepsConnection t.message) before
  pub whole : IsMessage turn.message
  pub none_refused : refused ≡ []
  pub nothing : last ≡ []

-- the bank refused one message, whose answer is a 503
pub record IsBrokenOff (taken refused : List Turn) (last : List (List ℕ)) : Type 0 where
  pub stays : AllByRecursion (λ t. KeepsConnection t.message) taken
  pub turn : Turn
  pub whole : IsMessage turn.message
  pub refused_is : refused ≡ turn ∷ []
  pub last_is : last ≡ unavailable (asked_by turn.message) ∷ []

-- no message was looked at
pub record ServingIsUntouched (taken refused : List Turn) (rest : List ℕ) (last : List (List ℕ))
    : Type 0 where
  pub none_taken : taken ≡ []
  pub none_refused : refused ≡ []
  pub no_rest : rest ≡ []
  pub nothing : last ≡ []

-- ---- how it ended: the bank took some messages, stood there, and refused one then or none

-- an answer was begun, and the writer failed
pub data IsUnwritten {C : Type 0} (seen : C → Seen) (has_ended : Type 0) (stood new : C)
    (taken refused : List Turn) (rest : List ℕ) (last : List (List ℕ)) : Type 0 where
  -- the answer to a message that the bank took
  At_message : IsAtMessage taken refused last → new ≡ stood
      → IsUnwritten seen has_ended stood new taken refused rest last
  -- the 400 to what is no message
  At_last : IsWalked has_ended taken refused rest last → new ≡ stood
      → IsUnwritten seen has_ended stood new taken refused rest last
  -- the 503 to a message that the bank refused
  At_refusal : IsBrokenOff taken refused last → (fault : Fault)
      → Refuses fault (seen stood) (seen new) (commands_of refused)
      → IsUnwritten seen has_ended stood new taken refused rest last

abbrev pub Exits : {C : Type 0} → (C → Seen) → Result ℕ ServeFault → (has_ended : Type 0)
    → (old stood new : C)
    → (taken refused : List Turn) → (rest : List ℕ) → (last : List (List ℕ)) → Type 0
Exits seen (Ok count) has_ended old stood new taken refused rest last =
    IsWalked has_ended taken refused rest last × (count ≡ length taken + length last) × (new ≡ stood)
Exits seen (Err Read) has_ended old stood new taken refused rest last =
    ServingIsCutOff taken refused rest last × (new ≡ stood)
Exits seen (Err Write) has_ended old stood new taken refused rest last =
    IsUnwritten seen has_ended stood new taken refused rest last
Exits seen (Err (Bank fault)) has_ended old stood new taken refused rest last =
    IsBrokenOff taken refused last × Refuses fault (seen stood) (seen new) (commands_of refused)
Exits seen (Err Memory) has_ended old stood new taken refused rest last =
    ServingIsUntouched taken refused rest last × (new ≡ old)

-- what was written of the answers: a prefix where the writer failed, and all of them elsewhere
abbrev pub AnswersAreWritten : Result ℕ ServeFault → List ℕ → List ℕ → Type 0
AnswersAreWritten (Err Write) written text = written ≡ take (length written) text
AnswersAreWritten _ written text = written ≡ text

-- ---- what a call did, whatever its result

pub record ServesConnection {C : Type 0} (seen : C → Seen) (r r' : Option (List ℕ))
    (q q' : Option (List ReadCall))
    (w w' k k' : Option (List ℕ)) (old new : C) (result : Result ℕ ServeFault) : Type 0 where
  -- the messages that the bank took, the one that it refused, what was read after them, and the answer to
  -- what is no message or was refused
  pub taken : List Turn
  pub refused : List Turn
  pub rest : List ℕ
  pub last : List (List ℕ)
  -- this was read and written, and the clock was read once for each record
  pub read : Consumes r r' (texts_of (taken ++ refused) ++ rest)
  pub clock : AreReadings k k' (moments_of (taken ++ refused))
  pub written : List ℕ
  pub wrote : Appends w w' written
  -- the bank stood here when it had taken the messages, and it was down then only where it was down before
  pub stood : C
  pub honest_first : (seen stood).honest → (seen old).honest
  pub honest : (seen new).honest → (seen stood).honest
  pub up : (seen stood).is_down → (seen old).is_down
  pub takes : Takes (seen old) (seen stood) (commands_of taken)
  pub exits : Exits seen result (HasEnded r' q q') old stood new taken refused rest last
  -- the answers are those to what the bank took
  pub answers : (seen new).honest → (log : List Command) → ShowsLog (seen old) log
      → AnswersAreWritten result written (joined (answers_to log taken ++ last))
  -- a crash leaves all that it took
  pub survives : (seen new).honest → (log : List Command) → StandsAt (seen old) log
      → LeavesOnly (seen new)
      (ShowsPrefix log (commands_of (taken ++ refused)) (length (commands_of taken)))
  -- a bank that was down is the one that it was, and so is what a crash may leave of it
  pub idle : (seen old).is_down → new ≡ old
