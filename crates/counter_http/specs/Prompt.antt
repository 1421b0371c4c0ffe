-- No answer waits for the next read: what a connection had written as each of its reads was made. Its reads
-- returned q before and q' after, b and b' are the sinks that they are known to have been made beside, the writer's
-- known bytes were w at first, and its calls had returned t. The bank is seen as c before and as c' after. The records
-- were submitted at these moments, one after another.
use Rattle.std.specs.Prelude.{◌≡◌, ℕ, ◌<◌, List, length, take, get_or, Option}
use Rattle.std.specs.Io.KnownBytes.{Appends, Consumes}
use Rattle.posting_rules.specs.believed.Commands.{Command}
use Rattle.posting_rules.specs.believed.Counter.{Seen, ShowsLog}
use Rattle.posting_core.specs.Stream.{given}
use Rattle.posting_core.specs.believed.Clock.{AreReadings}
use Rattle.posting_core.specs.believed.EndCalls.{GrowsBy, ReadCall}
use Rattle.posting_core.specs.EndCalls.{Beside, IsThrough, WriteCall, unknown}
use Rattle.counter_http.specs.Outputs.{AnswersWhole}

-- the sink held the answers to the whole messages at the front of the input and no more, and they were flushed
pub record HoldsAnswers (w : Option (List ℕ)) (t : Option (List WriteCall)) (c c' : Seen)
    (moments input : List ℕ) (sink : Beside) : Type 0 where
  pub wrote : c'.honest → (log : List Command) → ShowsLog c log
      → (text : List ℕ) × AnswersWhole log moments input text × Appends w sink.contents text
  pub through : IsThrough t sink.calls

-- so it was at each read, of the input that the reads before it gave
pub record AnswersBeforeReads (q q' : Option (List ReadCall)) (b b' : Option (List Beside))
    (w : Option (List ℕ)) (t : Option (List WriteCall)) (c c' : Seen) (moments input : List ℕ) : Type 0 where
  pub reads : List ReadCall
  pub made : GrowsBy q q' reads
  pub long : given reads ≡ length input
  pub sinks : List Beside
  pub beside : GrowsBy b b' sinks
  pub each : length sinks ≡ length reads
  pub answered : (n : ℕ) → n < length reads
      → HoldsAnswers w t c c' moments (take (given (take n reads)) input) (get_or sinks n unknown)

-- so it was of all that a connection read, where the clock's known readings were k before and k' after
pub record IsPrompt (r r' : Option (List ℕ)) (q q' : Option (List ReadCall)) (b b' : Option (List Beside))
    (w : Option (List ℕ)) (t : Option (List WriteCall)) (k k' : Option (List ℕ)) (c c' : Seen) : Type 0 where
  pub input : List ℕ
  pub read : Consumes r r' input
  pub moments : List ℕ
  pub clock : AreReadings k k' moments
  pub before : AnswersBeforeReads q q' b b' w t c c' moments input
