-- What was written as each read was made, read by read.
use Rattle.std.proofs.Common.{◌≡◌, ℕ, ◌+◌, ◌<◌, ◌≤◌, List, [], ◌∷◌, ◌++◌, length, take, drop, get_or, Option, Result}
use Rattle.std.proofs.Common.{Ok, Err, refl, sym, ap, subst, ◌∙◌, arith, inl, inr, append_assoc, append-nil}
use Rattle.std.specs.Prelude.{◌⊎◌, false}
use Rattle.std.specs.{Io.KnownBytes.Appends, Io.KnownBytes.Consumes, Io.KnownBytes.Keeps, declared.io.Error.Error}
use Rattle.std.proofs.{KnownBytes.Consumes-kept, KnownBytes.Consumes-nil, lemmas.List.get_or_append_left}
use Rattle.std.proofs.{lemmas.List.Concat.flat_map-append, lemmas.List.length-append, lemmas.List.length-take-le, lemmas.List.take-append-drop}
use Rattle.std.proofs.{lemmas.List.take-append-le, Math.Seq.get_or-append_seam, Math.Seq.take-append_seam}
use Rattle.posting_rules.specs.{believed.Commands.Command, believed.Counter.Seen, declared.fault.Fault.Fault}
use Rattle.posting_core.specs.{Stream.given, believed.Batches.joined}
use Rattle.posting_core.specs.believed.{Clock.AreReadings, EndCalls.GrowsBy, EndCalls.ReadCall}
use Rattle.posting_core.specs.EndCalls.{Beside, IsThrough, WriteCall, read_call, unknown}
use Rattle.posting_core.proofs.ReadsFollowed.{gave_none, gave_some, given-append}
use Rattle.posting_core.proofs.Telling.{adds-more, adds-none}
use Rattle.counter_http.specs.{Outputs.AnswersWhole, believed.Serving.BeginsWithNoMessage, Next.asked, Next.IsWhole}
use Rattle.counter_http.specs.{declared.next.Whole.Whole, Turns.TurnIsDealtWith}
use Rattle.counter_http.specs.Prompt.{AnswersBeforeReads, HoldsAnswers, IsPrompt}
use Rattle.counter_http.specs.believed.Turns.{Turn, answers_to, moments_in, moments_of, text_in, texts_of}
use Rattle.counter_http.proofs.ConnectionLoop.{Going, going_first, going_message, going_read, texts_one_more, turn_of}
use Rattle.counter_http.proofs.Turning.{readings_append}

-- ---- what stands written

whole_so_far : {r r' w w' k k' : Option (List ℕ)} {c c' : Seen} {count : ℕ} (rest : List ℕ)
    (g : Going r r' w w' k k' c c' rest count) → BeginsWithNoMessage rest → (log : List Command)
    → AnswersWhole log (moments_of g.turns) (texts_of g.turns ++ rest) (joined (answers_to log g.turns))
whole_so_far rest g none log = record {
  turns = g.turns;
  rest = rest;
  timed = record { later = []; moments_are = sym (append-nil (moments_of g.turns)) };
  input_is = refl;
  stays = g.stays;
  no_more = none;
  text_is = refl;
}

-- all whole messages that were read are answered
holds_now : {r r' w w' k k' : Option (List ℕ)} {c c' : Seen} {count : ℕ} {t t' : Option (List WriteCall)}
    (rest : List ℕ) (g : Going r r' w w' k k' c c' rest count) → BeginsWithNoMessage rest → IsThrough t t'
    → HoldsAnswers w t c c' (moments_of g.turns) (texts_of g.turns ++ rest) (record { contents = w'; calls = t' })
holds_now {w = w} {w' = w'} rest g none through = record {
  wrote = λ h log shows. (
    joined (answers_to log g.turns),
    whole_so_far rest g none log,
    subst (λ (x : List ℕ). Appends w w' x) (g.answered.answers h log shows) g.answered.wrote,
  );
  through = through;
}

holds_as : {w : Option (List ℕ)} {t : Option (List WriteCall)} {c c' : Seen} {moments input input' : List ℕ}
    {sink sink' : Beside} → input ≡ input' → sink ≡ sink' → HoldsAnswers w t c c' moments input sink
    → HoldsAnswers w t c c' moments input' sink'
holds_as {w} {t} {c} {c'} {moments} {input} {input'} {sink} {sink'} one two h =
    subst (λ (s : Beside). HoldsAnswers w t c c' moments input' s) two
    (subst (λ (x : List ℕ). HoldsAnswers w t c c' moments x sink) one h)

-- the clock was read again later
whole_later : {log : List Command} {moments input text : List ℕ} (more : List ℕ) → AnswersWhole log moments input text
    → AnswersWhole log (moments ++ more) input text
whole_later more a = record {
  turns = a.turns;
  rest = a.rest;
  timed = record {
    later = a.timed.later ++ more;
    moments_are = ap (λ (ms : List ℕ). ms ++ more) a.timed.moments_are
        ∙ append_assoc (moments_of a.turns) a.timed.later more;
  };
  input_is = a.input_is;
  stays = a.stays;
  no_more = a.no_more;
  text_is = a.text_is;
}

-- ---- one read more

pub given_front : (n : ℕ) (xs : List ReadCall) → given (take n xs) ≤ given xs
given_front n xs =
    let all = ap given (take-append-drop n xs) in
    omega (arith, all, given-append (take n xs) (drop n xs))

pub before_or_last : (n m : ℕ) → n < m + 1 → (n < m) ⊎ (n ≡ m)
before_or_last n m below = grind arith

-- of a read that was made before
as_before : {w : Option (List ℕ)} {t : Option (List WriteCall)} {c c' : Seen} (reads : List ReadCall)
    (sinks : List Beside) {moments : List ℕ} (input bytes : List ℕ) (x : ReadCall) (sink : Beside) (n : ℕ)
    → given reads ≡ length input → length sinks ≡ length reads → n < length reads
    → HoldsAnswers w t c c' moments (take (given (take n reads)) input) (get_or sinks n unknown)
    → HoldsAnswers w t c c' moments (take (given (take n (reads ++ x ∷ []))) (input ++ bytes))
    (get_or (sinks ++ sink ∷ []) n unknown)
as_before reads sinks input bytes x sink n long each below h =
    let few : given (take n reads) ≤ length input = omega (arith, given_front n reads, long) in
    let inside : n < length sinks = omega (arith, each, below) in
    let upto : n ≤ length reads = omega (arith, below) in
    holds_as (sym (ap (λ (ts : List ReadCall). take (given ts) (input ++ bytes))
    (take-append-le n reads (x ∷ []) upto)
    ∙ take-append-le (given (take n reads)) input bytes few))
    (sym (get_or_append_left sinks (sink ∷ []) unknown n inside)) h

-- of the read itself
as_last : {w : Option (List ℕ)} {t : Option (List WriteCall)} {c c' : Seen} (reads : List ReadCall)
    (sinks : List Beside) {moments : List ℕ} (input bytes : List ℕ) (x : ReadCall) (sink : Beside) (n : ℕ)
    → given reads ≡ length input → length sinks ≡ length reads → n ≡ length reads
    → HoldsAnswers w t c c' moments input sink
    → HoldsAnswers w t c c' moments (take (given (take n (reads ++ x ∷ []))) (input ++ bytes))
    (get_or (sinks ++ sink ∷ []) n unknown)
as_last reads sinks input bytes x sink n long each is h =
    holds_as (sym (ap (λ (m : ℕ). take (given (take m (reads ++ x ∷ []))) (input ++ bytes)) is
    ∙ ap (λ (ts : List ReadCall). take (given ts) (input ++ bytes)) (take-append_seam reads (x ∷ []))
    ∙ ap (λ (m : ℕ). take m (input ++ bytes)) long ∙ take-append_seam input bytes))
    (sym (ap (λ (m : ℕ). get_or (sinks ++ sink ∷ []) m unknown) (is ∙ sym each)
    ∙ get_or-append_seam sinks sink [] unknown)) h

one_read : {q q' q'' : Option (List ReadCall)} {b b' b'' : Option (List Beside)} {w : Option (List ℕ)}
    {t : Option (List WriteCall)} {c c' : Seen} {moments : List ℕ} (input bytes : List ℕ) (x : ReadCall)
    (sink : Beside)
    → AnswersBeforeReads q q' b b' w t c c' moments input → HoldsAnswers w t c c' moments input sink
    → GrowsBy q' q'' (x ∷ []) → GrowsBy b' b'' (sink ∷ []) → given (x ∷ []) ≡ length bytes
    → AnswersBeforeReads q q'' b b'' w t c c' moments (input ++ bytes)
one_read {q} {q'} {q''} {b} {b'} {b''} {w} {t} {c} {c'} input bytes x sink p holds made beside long = record {
  reads = p.reads ++ x ∷ [];
  made = adds-more q q' q'' p.reads (x ∷ []) p.made made;
  long = omega (arith, given-append p.reads (x ∷ []), p.long, long, length-append input bytes);
  sinks = p.sinks ++ sink ∷ [];
  beside = adds-more b b' b'' p.sinks (sink ∷ []) p.beside beside;
  each = omega (arith, length-append p.sinks (sink ∷ []), length-append p.reads (x ∷ []), p.each);
  answered = λ n below. elim (before_or_last n (length p.reads)
      (omega (arith, below, length-append p.reads (x ∷ [])))) [
        | inl old ↦ as_before p.reads p.sinks input bytes x sink n p.long p.each old (p.answered n old)
        | inr last ↦ as_last p.reads p.sinks input bytes x sink n p.long p.each last holds
      ];
}

-- ---- where the loop stands

-- what was done so far, and what stood written as each read was made
pub record Prompted (r r' : Option (List ℕ)) (q q' : Option (List ReadCall)) (b b' : Option (List Beside))
    (w w' : Option (List ℕ)) (t : Option (List WriteCall)) (k k' : Option (List ℕ)) (c c' : Seen)
    (rest : List ℕ) (count : ℕ) : Type 0 where
  pub going : Going r r' w w' k k' c c' rest count
  pub before : AnswersBeforeReads q q' b b' w t c c' (moments_of going.turns) (texts_of going.turns ++ rest)

pub none_read : (q : Option (List ReadCall)) (b : Option (List Beside)) {w : Option (List ℕ)}
    {t : Option (List WriteCall)} {c c' : Seen} {moments : List ℕ} → AnswersBeforeReads q q b b w t c c' moments []
none_read q b = record {
  reads = [];
  made = adds-none q;
  long = refl;
  sinks = [];
  beside = adds-none b;
  each = refl;
  answered = λ n below. absurd (omega (arith, below));
}

-- the bank went on
goes_to : {q q' : Option (List ReadCall)} {b b' : Option (List Beside)} {w : Option (List ℕ)}
    {t : Option (List WriteCall)} {c c' c'' : Seen} {moments input input' : List ℕ} → input ≡ input'
    → (c''.honest → c'.honest) → AnswersBeforeReads q q' b b' w t c c' moments input
    → AnswersBeforeReads q q' b b' w t c c'' moments input'
goes_to {q} {q'} {b} {b'} {w} {t} {c} {c'} {c''} {moments} same honest p =
    subst (λ (x : List ℕ). AnswersBeforeReads q q' b b' w t c c'' moments x) same (record {
      reads = p.reads;
      made = p.made;
      long = p.long;
      sinks = p.sinks;
      beside = p.beside;
      each = p.each;
      answered = λ n below. record {
        wrote = λ h. (p.answered n below).wrote (honest h);
        through = (p.answered n below).through;
      };
    })

-- and so did the clock
goes_later : {q q' : Option (List ReadCall)} {b b' : Option (List Beside)} {w : Option (List ℕ)}
    {t : Option (List WriteCall)} {c c' : Seen} {moments input : List ℕ} (more : List ℕ)
    → AnswersBeforeReads q q' b b' w t c c' moments input → AnswersBeforeReads q q' b b' w t c c' (moments ++ more) input
goes_later more p = record {
  reads = p.reads;
  made = p.made;
  long = p.long;
  sinks = p.sinks;
  beside = p.beside;
  each = p.each;
  answered = λ n below. record {
    wrote = λ h log shows. let it = (p.answered n below).wrote h log shows in (it.0, whole_later more it.1, it.2);
    through = (p.answered n below).through;
  };
}

moments_as : {q q' : Option (List ReadCall)} {b b' : Option (List Beside)} {w : Option (List ℕ)}
    {t : Option (List WriteCall)} {c c' : Seen} {moments moments' input : List ℕ} → moments ≡ moments'
    → AnswersBeforeReads q q' b b' w t c c' moments input → AnswersBeforeReads q q' b b' w t c c' moments' input
moments_as {q} {q'} {b} {b'} {w} {t} {c} {c'} {moments} {moments'} {input} same p =
    subst (λ (ms : List ℕ). AnswersBeforeReads q q' b b' w t c c' ms input) same p

-- of all that was read so far
pub prompt_so_far : {r r' : Option (List ℕ)} {q q' : Option (List ReadCall)} {b b' : Option (List Beside)}
    {w w' : Option (List ℕ)} {t : Option (List WriteCall)} {k k' k'' : Option (List ℕ)} {c c' c'' : Seen}
    {rest : List ℕ} {count : ℕ} (more : List ℕ) → AreReadings k' k'' more → (c''.honest → c'.honest)
    → Prompted r r' q q' b b' w w' t k k' c c' rest count
    → IsPrompt r r' q q' b b' w t k k'' c c''
prompt_so_far {k = k} {k' = k'} {k'' = k''} {rest = rest} more clock honest p = record {
  input = texts_of p.going.turns ++ rest;
  read = p.going.read;
  moments = moments_of p.going.turns ++ more;
  clock = readings_append k k' k'' (moments_of p.going.turns) more p.going.answered.clock clock;
  before = goes_later more (goes_to refl honest p.before);
}

-- nothing was read
pub prompt_none : {r : Option (List ℕ)} {q : Option (List ReadCall)} {b : Option (List Beside)}
    {w : Option (List ℕ)} {t : Option (List WriteCall)} {k : Option (List ℕ)} {c c' : Seen}
    → IsPrompt r r q q b b w t k k c c'
prompt_none {r = r} {q = q} {b = b} = record {
  input = [];
  read = Consumes-nil r;
  moments = [];
  clock = refl;
  before = none_read q b;
}

-- ---- step by step

pub prompted_first : {r : Option (List ℕ)} {q : Option (List ReadCall)} {b : Option (List Beside)}
    {w : Option (List ℕ)} {t : Option (List WriteCall)} {k : Option (List ℕ)} {c : Seen} (rest : List ℕ)
    → rest ≡ [] → Prompted r r q q b b w w t k k c c rest 0
unfolding going_first
prompted_first {q = q} {b = b} {c = c} rest none = record {
  going = going_first rest none;
  before = goes_to {c' = c} (sym none) (λ h. h) (none_read q b);
}

-- a read gave some bytes, or it failed and gave none
pub record HasRead (r r' : Option (List ℕ)) (answer : Result ℕ Error) (rest all : List ℕ) : Type 0 where
  pub bytes : List ℕ
  pub got : Consumes r r' bytes
  pub all_is : all ≡ rest ++ bytes
  pub long : given (read_call answer ∷ []) ≡ length bytes

bytes_long : (old new bytes : List ℕ) (filled n : ℕ) → take (filled + n) new ≡ take filled old ++ bytes
    → filled + n ≤ length new → filled ≤ length old → length bytes ≡ n
bytes_long old new bytes filled n e fits within =
    let len = ap length e in
    omega (
      arith,
      len,
      length-append (take filled old) bytes,
      length-take-le filled old within,
      length-take-le (filled + n) new fits,
    )

pub has_read : {r r' : Option (List ℕ)} (old new : List ℕ) (filled filled' n : ℕ) (answer : Result ℕ Error)
    → answer ≡ Ok n → filled + n ≤ length new → filled ≤ length old
    → ((bytes : List ℕ) × (take (filled + n) new ≡ take filled old ++ bytes) × Consumes r r' bytes)
    → filled' ≡ filled + n → HasRead r r' answer (take filled old) (take filled' new)
has_read old new filled filled' n answer is fits within got place = record {
  bytes = got.0;
  got = got.2;
  all_is = ap (λ (j : ℕ). take j new) place ∙ got.1;
  long = gave_some answer n is ∙ sym (bytes_long old new got.0 filled n got.1 fits within);
}

pub has_failed : {r r' : Option (List ℕ)} (old new : List ℕ) (filled filled' : ℕ) (answer : Result ℕ Error)
    (e : Error) → answer ≡ Err e → (Keeps r r' × (take filled new ≡ take filled old)) → filled' ≡ filled
    → HasRead r r' answer (take filled old) (take filled' new)
has_failed {r} {r'} old new filled filled' answer e is kept place = record {
  bytes = [];
  got = Consumes-kept r r r' [] (Consumes-nil r) kept.0;
  all_is = ap (λ (j : ℕ). take j new) place ∙ kept.1 ∙ sym (append-nil (take filled old));
  long = gave_none answer e is;
}

-- one read more, before which all whole messages were answered
pub read_on : {r r' r'' : Option (List ℕ)} {q q' q'' : Option (List ReadCall)}
    {b b' b'' : Option (List Beside)} {w w' : Option (List ℕ)} {t t' : Option (List WriteCall)}
    {k k' : Option (List ℕ)} {c c' : Seen} {count : ℕ} (rest all : List ℕ) (answer : Result ℕ Error)
    → Prompted r r' q q' b b' w w' t k k' c c' rest count → BeginsWithNoMessage rest → IsThrough t t'
    → HasRead r' r'' answer rest all → GrowsBy q' q'' (read_call answer ∷ [])
    → GrowsBy b' b'' (record { contents = w'; calls = t' } ∷ [])
    → Prompted r r'' q q'' b b'' w w' t k k' c c' all count
unfolding going_read
read_on rest all answer p none through read tells beside =
    let before = texts_of p.going.turns in
    record {
      going = going_read rest read.bytes all p.going read.got read.all_is;
      before = goes_to (append_assoc before rest read.bytes
          ∙ ap (λ (x : List ℕ). before ++ x) (sym read.all_is)) (λ h. h)
          (one_read (before ++ rest) read.bytes (read_call answer) _ p.before (holds_now rest p.going none through)
          tells beside read.long);
    }

-- a message was answered
pub message_on : {C : Type 0} (seen : C → Seen) {reason : Fault → C → C → Type 0} {r r' : Option (List ℕ)}
    {q q' : Option (List ReadCall)} {b b' : Option (List Beside)} {w w' w'' : Option (List ℕ)}
    {t v v' : Option (List WriteCall)} {k k' k'' : Option (List ℕ)} {c : Seen} {count : ℕ} (now new : C)
    (all rest : List ℕ) (count' : ℕ) (p : Whole)
    → Prompted r r' q q' b b' w w' t k k' c (seen now) all count → IsWhole all p → p.closes ≡ false
    → rest ≡ drop p.length all → count' ≡ count + 1
    → TurnIsDealtWith seen reason w' w'' v v' k' k'' now new (asked p) (Ok tt)
    → Prompted r r' q q' b b' w w'' t k k'' c (seen new) rest count'
unfolding going_message
message_on seen now new all rest count' p so is on left n d =
    let turns = so.going.turns in
    let turn : Turn = turn_of d.moment is in
    record {
      going = going_message seen now new all rest count' p so.going is on left n d;
      before = goes_to (ap (λ (x : List ℕ). texts_of turns ++ x)
          (is.front ∙ ap (λ (x : List ℕ). text_in turn ++ x) (sym left))
          ∙ sym (texts_one_more turns turn rest)) d.dealt.honest
          (moments_as (sym (flat_map-append moments_in turns (turn ∷ [])))
          (goes_later (moments_of (turn ∷ [])) so.before));
    }
