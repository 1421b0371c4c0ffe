-- Messages that are answered one after another.
use Rattle.std.proofs.Common.{◌≡◌, ℕ, List, [], ◌∷◌, ◌++◌, Option, refl, sym, ap, subst, ◌∙◌, append-nil}
use Rattle.std.proofs.{KnownBytes.Appends-trans, KnownBytes.Appends-nil, lemmas.List.Concat.flat_map-append}
use Rattle.posting_rules.specs.{believed.Commands.Command, believed.Runs.followed_by}
use Rattle.posting_rules.specs.believed.Counter.{Seen, Takes}
use Rattle.posting_core.specs.{believed.Clock.after_one, believed.Clock.AreReadings, believed.Batches.joined}
use Rattle.posting_rules.proofs.Sequence.{after-append}
use Rattle.counter_http.specs.believed.Answers.{Asked, asked_by, answer_of}
use Rattle.posting_core.proofs.{Batched.joined-append, StreamedBatches.takes_more}
use Rattle.counter_http.specs.believed.Turns.{Turn, commands_for, readings_for, commands_in, moments_in, commands_of}
use Rattle.counter_http.specs.believed.Turns.{moments_of, answers_to}
use Rattle.counter_http.specs.Turns.{AreAnswered, TurnIsAnswered}

pub readings_append : (k k' k'' : Option (List ℕ)) (xs ys : List ℕ) → AreReadings k k' xs
    → AreReadings k' k'' ys → AreReadings k k'' (xs ++ ys)
readings_append k k' k'' [] ys e more = subst (λ (o : Option (List ℕ)). AreReadings o k'' ys) e more
readings_append k k' k'' (x ∷ xs) ys e more = (e.0, readings_append (after_one k) k' k'' xs ys e.1 more)

pub answers-append : (log : List Command) (ts us : List Turn)
    → answers_to log (ts ++ us) ≡ answers_to log ts ++ answers_to (followed_by log (commands_of ts)) us
answers-append log [] us = refl
answers-append log (t ∷ ts) us =
    ap (λ (xs : List (List ℕ)). answer_of log (asked_by t.message) ∷ xs)
    (answers-append (followed_by log (commands_in t)) ts us
    ∙ ap (λ (l : List Command). answers_to (followed_by log (commands_in t)) ts ++ answers_to l us)
    (sym (after-append log (commands_in t) (commands_of ts))))

pub answered_none : {w k : Option (List ℕ)} {c : Seen} → AreAnswered w w k k c c []
answered_none {w = w} = record {
  clock = refl;
  written = [];
  wrote = Appends-nil w;
  honest = λ h. h;
  up = λ d. d;
  takes = record { shows = λ h log s. s; stands = λ h log s. s };
  answers = λ h log s. refl;
}

-- some messages, and then others
pub answered_more : {w w' w'' k k' k'' : Option (List ℕ)} {c c' c'' : Seen} (ts us : List Turn)
    → AreAnswered w w' k k' c c' ts → AreAnswered w' w'' k' k'' c' c'' us
    → AreAnswered w w'' k k'' c c'' (ts ++ us)
answered_more {w = w} {w' = w'} {w'' = w''} {k = k} {k' = k'} {k'' = k''} {c = c} {c' = c'} {c'' = c''} ts us
    a b = record {
      clock = subst (λ (xs : List ℕ). AreReadings k k'' xs) (sym (flat_map-append moments_in ts us))
          (readings_append k k' k'' (moments_of ts) (moments_of us) a.clock b.clock);
      written = a.written ++ b.written;
      wrote = Appends-trans w w' w'' a.written b.written a.wrote b.wrote;
      honest = λ h. a.honest (b.honest h);
      up = λ d. a.up (b.up d);
      takes = subst (λ (cs : List Command). Takes c c'' cs) (sym (flat_map-append commands_in ts us))
          (takes_more c c' c'' (commands_of ts) (commands_of us) b.honest a.takes b.takes);
      answers = λ h log s.
          ap (λ (t : List ℕ). t ++ b.written) (a.answers (b.honest h) log s)
          ∙ ap (λ (t : List ℕ). joined (answers_to log ts) ++ t)
          (b.answers h (followed_by log (commands_of ts)) (a.takes.shows (b.honest h) log s))
          ∙ sym (joined-append (answers_to log ts) (answers_to (followed_by log (commands_of ts)) us))
          ∙ ap joined (sym (answers-append log ts us));
    }

-- one message
pub answered_one : {w w' k k' : Option (List ℕ)} {c c' : Seen} (t : Turn) (a : Asked) → a ≡ asked_by t.message
    → AreReadings k k' (readings_for t.moment a) → (c'.honest → c.honest)
    → TurnIsAnswered w w' c c' a (commands_for t.moment a) → AreAnswered w w' k k' c c' (t ∷ [])
answered_one {k = k} {k' = k'} {c = c} {c' = c'} t a e clock honest is = record {
  clock = subst (λ (ms : List ℕ). AreReadings k k' ms)
      (ap (readings_for t.moment) e ∙ sym (append-nil (moments_in t))) clock;
  written = is.written;
  wrote = is.wrote;
  honest = honest;
  up = is.up;
  takes = subst (λ (cs : List Command). Takes c c' cs)
      (ap (commands_for t.moment) e ∙ sym (append-nil (commands_in t))) is.takes;
  answers = λ h log s. is.answer h log s ∙ ap (answer_of log) e
      ∙ sym (append-nil (answer_of log (asked_by t.message)));
}
