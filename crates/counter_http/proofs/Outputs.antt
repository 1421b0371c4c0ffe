-- What a connection did, said of what was read and written alone, and what a crash leaves of it.
use Rattle.std.proofs.Common.{◌≡◌, ℕ, ◌≤◌, inl, inr, List, [], ◌∷◌, ◌++◌, length, take, drop, Option, Result, Ok, Err}
use Rattle.std.proofs.Common.{refl, sym, ap, subst, ◌∙◌, append_assoc, append-nil, arith}
use Rattle.std.specs.{List.AllByRecursion, Io.KnownBytes.Appends}
use Rattle.std.specs.Prelude.{◌⊎◌, OnOk}
use Rattle.std.proofs.lemmas.List.{length-append, take-append-drop, Concat.flat_map-append}
use Rattle.posting_rules.specs.believed.{Commands.Command, Counter.Seen}
use Rattle.posting_rules.proofs.Remaining.{leaves_weaker}
use Rattle.posting_core.specs.believed.{Batches.joined, Stream.acknowledged, EndCalls.ReadCall}
use Rattle.posting_core.proofs.Stops.{at_least}
use Rattle.counter_http.specs.{declared.fault.ServeFault.ServeFault, believed.Ends.HasEnded}
use Rattle.counter_http.specs.declared.fault.ServeFault.TheVariants.{Read, Write, Bank, Memory}
use Rattle.counter_http.specs.believed.Messages.{Message, message_text, Ending, Walks}
use Rattle.counter_http.specs.believed.Answers.{final_answer}
use Rattle.counter_http.specs.believed.Turns.{Turn, text_in, commands_in, commands_of, messages_of}
use Rattle.counter_http.specs.believed.Turns.{moments_in, moments_of, texts_of, answers_to}
use Rattle.counter_http.specs.believed.Serving.{KeepsConnection, AnswersAreWritten, IsWalked, IsBrokenOff}
use Rattle.counter_http.specs.believed.Serving.{IsAtMessage, At_message, At_last, At_refusal, ServesConnection}
use Rattle.counter_http.specs.Outputs.{AnswersInput, AnswersWhole, AnswersFirst, AreTimed}
use Rattle.counter_http.specs.Outputs.{AnswersBroken, IsTextFor, WritesAnswers, IsSettled, OutputsAnswers}
use Rattle.counter_http.specs.Outputs.{SurvivesServing}
use Rattle.counter_http.proofs.{OneWalk.front_unique, OneWalk.texts_of_all, OneWalk.walk_unique, Timed.same_answers}

-- ---- messages of turns

texts_are : (ts : List Turn) → texts_of ts ≡ texts_of_all (messages_of ts)
texts_are [] = refl
texts_are (t ∷ ts) = ap (λ (x : List ℕ). text_in t ++ x) (texts_are ts)

stays_all : (ts : List Turn) → AllByRecursion (λ (t : Turn). KeepsConnection t.message) ts
    → AllByRecursion KeepsConnection (messages_of ts)
stays_all [] all = tt
stays_all (t ∷ ts) all = (all.0, stays_all ts all.1)

taken_alone : (taken refused : List Turn) → refused ≡ [] → texts_of (taken ++ refused) ≡ texts_of taken
taken_alone taken refused none =
    ap (λ (x : List Turn). texts_of (taken ++ x)) none ∙ ap texts_of (append-nil taken)

input_alone : (taken refused : List Turn) (rest : List ℕ) → refused ≡ []
    → texts_of (taken ++ refused) ++ rest ≡ texts_of taken ++ rest
input_alone taken refused rest none = ap (λ (x : List ℕ). x ++ rest) (taken_alone taken refused none)

-- the readings for the messages that were taken come first
timed_first : (taken refused : List Turn) → AreTimed (moments_of (taken ++ refused)) taken
timed_first taken refused = record {
  later = moments_of refused;
  moments_are = flat_map-append moments_in taken refused;
}

answers_alone : (log : List Command) (ts : List Turn) (last : List (List ℕ)) → last ≡ []
    → joined (answers_to log ts ++ last) ≡ joined (answers_to log ts)
answers_alone log ts last none =
    ap (λ (x : List (List ℕ)). joined (answers_to log ts ++ x)) none ∙ ap joined (append-nil (answers_to log ts))

-- ---- the texts

walked_text : {has_ended : Type 0} (log : List Command) (taken refused : List Turn) (rest : List ℕ)
    (last : List (List ℕ)) → IsWalked has_ended taken refused rest last
    → AnswersInput log (moments_of (taken ++ refused)) (texts_of (taken ++ refused) ++ rest)
    (joined (answers_to log taken ++ last))
walked_text log taken refused rest last is = record {
  turns = taken;
  ending = is.ending;
  timed = timed_first taken refused;
  walks = subst (λ (x : List ℕ). Walks x (messages_of taken) is.ending)
      (sym (input_alone taken refused rest is.none_refused)) is.walks;
  text_is = ap (λ (x : List (List ℕ)). joined (answers_to log taken ++ x)) is.last_is;
}

-- the message after some others
one_after : (before : List Turn) (t : Turn) (rest : List ℕ)
    → texts_of (before ++ t ∷ []) ++ rest ≡ texts_of before ++ (message_text t.message ++ rest)
one_after before t rest =
    ap (λ (x : List ℕ). x ++ rest) (flat_map-append text_in before (t ∷ [])
    ∙ ap (λ (x : List ℕ). texts_of before ++ x) (append-nil (text_in t)))
    ∙ append_assoc (texts_of before) (text_in t) rest

broken_text : (log : List Command) (taken refused : List Turn) (rest : List ℕ) (last : List (List ℕ))
    → IsBrokenOff taken refused last
    → AnswersBroken log (moments_of (taken ++ refused)) (texts_of (taken ++ refused) ++ rest)
    (joined (answers_to log taken ++ last))
broken_text log taken refused rest last is = record {
  before = taken;
  message = is.turn.message;
  timed = timed_first taken refused;
  begins = record {
    rest = rest;
    input_is = ap (λ (x : List Turn). texts_of (taken ++ x) ++ rest) is.refused_is
        ∙ one_after taken is.turn rest;
    stays = is.stays;
    whole = is.whole;
  };
  text_is = ap (λ (x : List (List ℕ)). joined (answers_to log taken ++ x)) is.last_is;
}

first_text : (log : List Command) (taken refused : List Turn) (rest : List ℕ) (last : List (List ℕ))
    → IsAtMessage taken refused last
    → AnswersFirst log (moments_of (taken ++ refused)) (texts_of (taken ++ refused) ++ rest)
    (joined (answers_to log taken ++ last))
first_text log taken refused rest last is = record {
  before = is.before;
  turn = is.turn;
  timed = subst (λ (x : List Turn). AreTimed (moments_of (taken ++ refused)) x) is.taken_is
      (timed_first taken refused);
  begins = record {
    rest = rest;
    input_is = input_alone taken refused rest is.none_refused
        ∙ ap (λ (x : List Turn). texts_of x ++ rest) is.taken_is ∙ one_after is.before is.turn rest;
    stays = is.stays;
    whole = is.whole;
  };
  text_is = answers_alone log taken last is.nothing
      ∙ ap (λ (x : List Turn). joined (answers_to log x)) is.taken_is;
}

-- ---- by the result

settled : {has_ended : Type 0} (taken refused : List Turn) (rest : List ℕ) (last : List (List ℕ))
    (is : IsWalked has_ended taken refused rest last)
    → ((more : List ℕ) → Walks ((texts_of taken ++ rest) ++ more) (messages_of taken) is.ending)
    → IsSettled (texts_of (taken ++ refused) ++ rest)
settled taken refused rest last is always more log moments text a =
    let input = texts_of (taken ++ refused) ++ rest in
    let same = input_alone taken refused rest is.none_refused in
    let one = walk_unique input (messages_of a.turns) (messages_of taken) a.ending is.ending a.walks
    (subst (λ (x : List ℕ). Walks x (messages_of taken) is.ending) (sym same) is.walks) in
    record {
      turns = a.turns;
      ending = a.ending;
      timed = a.timed;
      walks = subst (λ (e : Ending). Walks (input ++ more) (messages_of a.turns) e) (sym one.1)
          (subst (λ (ms : List Message). Walks (input ++ more) ms is.ending) (sym one.0)
          (subst (λ (x : List ℕ). Walks (x ++ more) (messages_of taken) is.ending) (sym same) (always more)));
      text_is = a.text_is;
    }

one_text_of : (log : List Command) (moments input text other : List ℕ) → AnswersInput log moments input text
    → AnswersInput log moments input other → text ≡ other
one_text_of log moments input text other a b =
    let one = walk_unique input (messages_of a.turns) (messages_of b.turns) a.ending b.ending a.walks b.walks in
    a.text_is
    ∙ ap (λ (x : List (List ℕ)). joined (x ++ final_answer a.ending))
    (same_answers log a.turns b.turns a.timed.later b.timed.later one.0
    (sym a.timed.moments_are ∙ b.timed.moments_are))
    ∙ ap (λ (e : Ending). joined (answers_to log b.turns ++ final_answer e)) one.1 ∙ sym b.text_is

one_front_of : (log : List Command) (moments input text other : List ℕ) → AnswersWhole log moments input text
    → AnswersWhole log moments input other → text ≡ other
one_front_of log moments input text other a b =
    let one = front_unique (messages_of a.turns) (messages_of b.turns) a.rest b.rest (stays_all a.turns a.stays)
    (stays_all b.turns b.stays) a.no_more b.no_more
    (ap (λ (x : List ℕ). x ++ a.rest) (sym (texts_are a.turns)) ∙ sym a.input_is ∙ b.input_is
    ∙ ap (λ (x : List ℕ). x ++ b.rest) (texts_are b.turns)) in
    a.text_is
    ∙ ap joined (same_answers log a.turns b.turns a.timed.later b.timed.later one
    (sym a.timed.moments_are ∙ b.timed.moments_are))
    ∙ sym b.text_is

-- the text that the result speaks of
text_for : {C : Type 0} (seen : C → Seen) {r r' : Option (List ℕ)} {q q' : Option (List ReadCall)}
    {w w' k k' : Option (List ℕ)} (old new : C) (result : Result ℕ ServeFault)
    (s : ServesConnection seen r r' q q' w w' k k' old new result) (log : List Command)
    → IsTextFor result log (moments_of (s.taken ++ s.refused)) (texts_of (s.taken ++ s.refused) ++ s.rest)
    (joined (answers_to log s.taken ++ s.last))
text_for seen old new (Ok count) s log = walked_text log s.taken s.refused s.rest s.last s.exits.0
text_for seen old new (Err Read) s log =
    let is = s.exits.0 in
    record {
      turns = s.taken;
      rest = s.rest;
      timed = timed_first s.taken s.refused;
      input_is = input_alone s.taken s.refused s.rest is.none_refused;
      stays = is.stays;
      no_more = is.no_more;
      text_is = answers_alone log s.taken s.last is.nothing;
    }
text_for seen old new (Err Write) s log =
    elim (s.exits) [
      | At_message is stays ↦ inr (inl (first_text log s.taken s.refused s.rest s.last is))
      | At_last is stays ↦ inl (walked_text log s.taken s.refused s.rest s.last is)
      | At_refusal is fault refuses ↦ inr (inr (broken_text log s.taken s.refused s.rest s.last is))
    ]
text_for seen old new (Err (Bank fault)) s log = broken_text log s.taken s.refused s.rest s.last s.exits.0
text_for seen old new (Err Memory) s log =
    let is = s.exits.0 in (
      input_alone s.taken s.refused s.rest is.none_refused
          ∙ ap (λ (x : List Turn). texts_of x ++ s.rest) is.none_taken ∙ is.no_rest,
      ap (λ (x : List Turn). joined (answers_to log x ++ s.last)) is.none_taken ∙ ap joined is.nothing,
    )

-- what was written of it
written_for : (result : Result ℕ ServeFault) (w w' : Option (List ℕ)) (written text : List ℕ)
    → Appends w w' written → AnswersAreWritten result written text → WritesAnswers result w w' text
written_for (Err Write) w w' written text wrote is =
    (length written, subst (λ (x : List ℕ). Appends w w' x) is wrote)
written_for other w w' written text wrote is = subst (λ (x : List ℕ). Appends w w' x) is wrote

ended_for : {C : Type 0} (seen : C → Seen) {r r' : Option (List ℕ)} {q q' : Option (List ReadCall)}
    {w w' k k' : Option (List ℕ)} (old new : C) (result : Result ℕ ServeFault)
    (s : ServesConnection seen r r' q q' w w' k k' old new result)
    → OnOk result (HasEnded r' q q' ⊎ IsSettled (texts_of (s.taken ++ s.refused) ++ s.rest))
ended_for seen old new (Ok count) s =
    elim (s.exits.0.ended) [
      | inl e ↦ inl e
      | inr always ↦ inr (settled s.taken s.refused s.rest s.last s.exits.0 always)
    ]
ended_for seen old new (Err fault) s = tt

pub output_of : {C : Type 0} (seen : C → Seen) {r r' : Option (List ℕ)} {q q' : Option (List ReadCall)}
    {w w' k k' : Option (List ℕ)} (old new : C) (result : Result ℕ ServeFault)
    → ServesConnection seen r r' q q' w w' k k' old new result
    → OutputsAnswers r r' q q' w w' k k' (seen old) (seen new) result
output_of seen {w = w} {w' = w'} old new result s =
    let input = texts_of (s.taken ++ s.refused) ++ s.rest in
    record {
      input = input;
      read = s.read;
      moments = moments_of (s.taken ++ s.refused);
      clock = s.clock;
      writes = λ h log shows. (
        joined (answers_to log s.taken ++ s.last),
        text_for seen old new result s log,
        written_for result w w' s.written _ s.wrote (s.answers h log shows),
      );
      ended = ended_for seen old new result s;
      one_text = λ log text other a b. one_text_of log _ input text other a b;
      one_front = λ log text other a b. one_front_of log _ input text other a b;
    }

-- ---- what a crash leaves

-- the first turns have no more commands than all
pub commands_of_first : (n : ℕ) (ts : List Turn) → length (commands_of (take n ts)) ≤ length (commands_of ts)
commands_of_first n ts =
    let split = flat_map-append commands_in (take n ts) (drop n ts) in
    let all = ap commands_of (take-append-drop n ts) in
    let len = ap length (sym split ∙ all) in
    omega (arith, len, length-append (commands_of (take n ts)) (commands_of (drop n ts)))

pub survives_of : {C : Type 0} (seen : C → Seen) {r r' : Option (List ℕ)} {q q' : Option (List ReadCall)}
    {w w' k k' : Option (List ℕ)} (old new : C) (result : Result ℕ ServeFault)
    → ServesConnection seen r r' q q' w w' k k' old new result
    → SurvivesServing r r' w w' (seen old) (seen new)
survives_of seen old new result s = record {
  taken = s.taken;
  refused = s.refused;
  rest = s.rest;
  read = s.read;
  written = s.written;
  wrote = s.wrote;
  survives = λ h log stood. leaves_weaker (seen new) _ _
      (λ t b. at_least log (commands_of (s.taken ++ s.refused)) (length (commands_of s.taken)) _ t
      (commands_of_first (acknowledged (answers_to log s.taken) (length s.written)) s.taken) b)
      (s.survives h log stood);
}
