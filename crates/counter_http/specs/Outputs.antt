-- What a connection writes for the bytes that it reads.
use Rattle.std.specs.Prelude.{◌≡◌, ◌⊎◌, ℕ, List, [], ◌∷◌, ◌++◌, length, take, Option, Result, Ok, Err}
use Rattle.std.specs.Prelude.{OnOk}
use Rattle.std.specs.List.{AllByRecursion}
use Rattle.std.specs.Io.KnownBytes.{Appends, Consumes}
use Rattle.posting_rules.specs.believed.Commands.{Command}
use Rattle.posting_rules.specs.believed.Counter.{Seen, ShowsLog, StandsAt, LeavesOnly, ShowsPrefix}
use Rattle.posting_core.specs.believed.Batches.{joined}
use Rattle.posting_core.specs.believed.Clock.{AreReadings}
use Rattle.posting_core.specs.believed.EndCalls.{ReadCall}
use Rattle.counter_http.specs.declared.fault.ServeFault.{ServeFault}
use Rattle.counter_http.specs.declared.fault.ServeFault.TheVariants.{Read, Write, Bank, Memory}
use Rattle.counter_http.specs.believed.Ends.{HasEnded}
use Rattle.counter_http.specs.believed.Messages.{Message, message_text, IsMessage, Ending, Walks}
use Rattle.counter_http.specs.believed.Answers.{asked_by, unavailable, final_answer}
use Rattle.counter_http.specs.believed.Turns.{Turn, commands_of, messages_of, moments_of, texts_of, answers_to}
use Rattle.counter_http.specs.believed.Serving.{KeepsConnection, BeginsWithNoMessage}
use Rattle.counter_http.specs.believed.Outputs.{acknowledged_records}

-- ---- texts after a log, where records are submitted at these moments, one after another

-- the records of the messages were submitted at the first of the moments
pub record AreTimed (moments : List ℕ) (turns : List Turn) : Type 0 where
  pub later : List ℕ
  pub moments_are : moments ≡ moments_of turns ++ later

-- the walk over the input gives this text
pub record AnswersInput (log : List Command) (moments input text : List ℕ) : Type 0 where
  pub turns : List Turn
  pub ending : Ending
  pub timed : AreTimed moments turns
  pub walks : Walks input (messages_of turns) ending
  pub text_is : text ≡ joined (answers_to log turns ++ final_answer ending)

-- the whole messages at the front of the input have these answers
pub record AnswersWhole (log : List Command) (moments input text : List ℕ) : Type 0 where
  pub turns : List Turn
  pub rest : List ℕ
  pub timed : AreTimed moments turns
  pub input_is : input ≡ texts_of turns ++ rest
  pub stays : AllByRecursion (λ t. KeepsConnection t.message) turns
  pub no_more : BeginsWithNoMessage rest
  pub text_is : text ≡ joined (answers_to log turns)

-- the input begins with some messages and then this one
pub record BeginsWith (input : List ℕ) (before : List Turn) (message : Message) : Type 0 where
  pub rest : List ℕ
  pub input_is : input ≡ texts_of before ++ (message_text message ++ rest)
  pub stays : AllByRecursion (λ t. KeepsConnection t.message) before
  pub whole : IsMessage message

-- its first messages have these answers
pub record AnswersFirst (log : List Command) (moments input text : List ℕ) : Type 0 where
  pub before : List Turn
  pub turn : Turn
  pub timed : AreTimed moments (before ++ turn ∷ [])
  pub begins : BeginsWith input before turn.message
  pub text_is : text ≡ joined (answers_to log (before ++ turn ∷ []))

-- its first messages have these answers, but for the last of them, at which the bank fails
pub record AnswersBroken (log : List Command) (moments input text : List ℕ) : Type 0 where
  pub before : List Turn
  pub message : Message
  pub timed : AreTimed moments before
  pub begins : BeginsWith input before message
  pub text_is : text ≡ joined (answers_to log before ++ unavailable (asked_by message) ∷ [])

-- ---- what is written

-- which text it is, by the result
abbrev pub IsTextFor : Result ℕ ServeFault → List Command → (moments input text : List ℕ) → Type 0
IsTextFor (Ok count) log moments input text = AnswersInput log moments input text
IsTextFor (Err Read) log moments input text = AnswersWhole log moments input text
IsTextFor (Err Write) log moments input text =
    AnswersInput log moments input text
    ⊎ (AnswersFirst log moments input text ⊎ AnswersBroken log moments input text)
IsTextFor (Err (Bank fault)) log moments input text = AnswersBroken log moments input text
IsTextFor (Err Memory) log moments input text = (input ≡ []) × (text ≡ [])

-- all of the text was written, or a prefix of it where the writer failed
abbrev pub WritesAnswers : Result ℕ ServeFault → (w w' : Option (List ℕ)) → List ℕ → Type 0
WritesAnswers (Err Write) w w' text = (n : ℕ) × Appends w w' (take n text)
WritesAnswers _ w w' text = Appends w w' text

-- what follows doesn't change the answers to an input
abbrev pub IsSettled : List ℕ → Type 0
IsSettled input =
    (more : List ℕ) (log : List Command) (moments text : List ℕ) → AnswersInput log moments input text
    → AnswersInput log moments (input ++ more) text

-- what the reads returned is q before and q' after, and the readings of the clock k before and k' after
pub record OutputsAnswers (r r' : Option (List ℕ)) (q q' : Option (List ReadCall)) (w w' k k' : Option (List ℕ))
    (c c' : Seen) (result : Result ℕ ServeFault) : Type 0 where
  pub input : List ℕ
  pub read : Consumes r r' input
  pub moments : List ℕ
  pub clock : AreReadings k k' moments
  pub writes : c'.honest → (log : List Command) → ShowsLog c log
      → (text : List ℕ) × IsTextFor result log moments input text × WritesAnswers result w w' text
  -- the input ended, or what follows it changes nothing
  pub ended : OnOk result (HasEnded r' q q' ⊎ IsSettled input)
  -- an input has one text of either kind
  pub one_text : (log : List Command) (text other : List ℕ)
      → AnswersInput log moments input text → AnswersInput log moments input other → text ≡ other
  pub one_front : (log : List Command) (text other : List ℕ)
      → AnswersWhole log moments input text → AnswersWhole log moments input other → text ≡ other

-- everything that a crash may leave shows the log and a prefix of what was submitted, which holds all
-- records that were acknowledged
pub record SurvivesServing (r r' w w' : Option (List ℕ)) (c c' : Seen) : Type 0 where
  -- the messages that the bank took, the one that it refused, and what was read after them
  pub taken : List Turn
  pub refused : List Turn
  pub rest : List ℕ
  pub read : Consumes r r' (texts_of (taken ++ refused) ++ rest)
  pub written : List ℕ
  pub wrote : Appends w w' written
  pub survives : c'.honest → (log : List Command) → StandsAt c log
      → LeavesOnly c'
      (ShowsPrefix log (commands_of (taken ++ refused)) (acknowledged_records log taken (length written)))
