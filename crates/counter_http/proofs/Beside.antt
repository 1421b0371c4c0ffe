-- A client while messages of others are answered, and its own reads one by one.
use Rattle.std.proofs.Common.{◌≡◌, ℕ, ◌<◌, ◌≤◌, List, [], ◌∷◌, ◌++◌, length, take, get_or, Option, Some, None}
use Rattle.std.proofs.Common.{refl, sym, ap, subst, ◌∙◌, append_assoc, append-nil, arith, inl, inr, Bool}
use Rattle.std.specs.{List.AllByRecursion, Io.KnownBytes.Consumes}
use Rattle.std.proofs.lemmas.List.{get_or_append_left, length-append, take-append-le}
use Rattle.std.proofs.{Math.Seq.get_or-append_seam, Math.Seq.take-append_seam}
use Rattle.posting_rules.specs.{believed.Counter.Seen}
use Rattle.posting_core.specs.{Stream.given, believed.Batches.joined}
use Rattle.posting_core.specs.believed.EndCalls.{GrowsBy, ReadCall}
use Rattle.posting_core.specs.EndCalls.{Beside, WriteCall, unknown}
use Rattle.posting_core.proofs.ReadsFollowed.{given-append}
use Rattle.posting_core.proofs.Telling.{adds-more, adds-none}
use Rattle.counter_http.specs.Connections.{Known}
use Rattle.counter_http.specs.together.Standing.{IsGoing, IsParted, StandsAs}
use Rattle.counter_http.specs.together.Serving.{AnswersBeforeItsReads, ClientIsServed, HoldsOwnAnswers, IsWrittenAs, PartsAs}
use Rattle.counter_http.specs.believed.Ends.{HasEnded}
use Rattle.counter_http.specs.believed.Serving.{KeepsConnection}
use Rattle.counter_http.specs.together.Order.{Step, answers_of, of_client}
use Rattle.counter_http.specs.believed.Turns.{Turn, texts_of}
use Rattle.counter_http.specs.declared.parting.Parting.{Parting}
use Rattle.counter_http.proofs.Prompts.{before_or_last, given_front}
use Rattle.counter_http.proofs.Steps.{OfOther, answers_of-append, no_answers, none_of, of_client-append}

-- ---- reads

holds_further : {i : ℕ} {w : Option (List ℕ)} {t : Option (List WriteCall)} {steps : List Step}
    {input input' : List ℕ} {sink sink' : Beside} (more : List Step) → input ≡ input'
    → sink ≡ sink' → HoldsOwnAnswers i w t steps input sink
    → HoldsOwnAnswers i w t (steps ++ more) input' sink'
holds_further {i} {w} {t} {steps} {input} {input'} {sink} {sink'} more same is h =
    subst (λ (s : Beside). HoldsOwnAnswers i w t (steps ++ more) input' s) is (record {
      before = h.before;
      after = h.after ++ more;
      order = ap (λ (x : List Step). x ++ more) h.order ∙ append_assoc h.before h.after more;
      rest = h.rest;
      input_is = sym same ∙ h.input_is;
      no_more = h.no_more;
      wrote = h.wrote;
      through = h.through;
    })

-- other messages are answered, and the bank goes on
pub reads_further : {i : ℕ} {q q' : Option (List ReadCall)} {b b' : Option (List Beside)} {w : Option (List ℕ)}
    {t : Option (List WriteCall)} {steps : List Step} {input input' : List ℕ} (more : List Step)
    → input ≡ input' → AnswersBeforeItsReads i q q' b b' w t steps input
    → AnswersBeforeItsReads i q q' b b' w t (steps ++ more) input'
reads_further {input = input} more same p = record {
  reads = p.reads;
  made = p.made;
  long = p.long ∙ ap length same;
  sinks = p.sinks;
  beside = p.beside;
  each = p.each;
  answered = λ n below. holds_further more
      (ap (λ (x : List ℕ). take (given (take n p.reads)) x) same) refl (p.answered n below);
}

pub none_read_yet : (i : ℕ) (q : Option (List ReadCall)) (b : Option (List Beside)) {w : Option (List ℕ)}
    {t : Option (List WriteCall)} (steps : List Step)
    → AnswersBeforeItsReads i q q b b w t steps []
none_read_yet i q b steps = record {
  reads = [];
  made = adds-none q;
  long = refl;
  sinks = [];
  beside = adds-none b;
  each = refl;
  answered = λ n below. absurd (omega (arith, below));
}

as_before : {i : ℕ} {w : Option (List ℕ)} {t : Option (List WriteCall)} {steps : List Step}
    (reads : List ReadCall)
    (sinks : List Beside) (input bytes : List ℕ) (x : ReadCall) (sink : Beside) (n : ℕ)
    → given reads ≡ length input → length sinks ≡ length reads → n < length reads
    → HoldsOwnAnswers i w t steps (take (given (take n reads)) input) (get_or sinks n unknown)
    → HoldsOwnAnswers i w t steps (take (given (take n (reads ++ x ∷ []))) (input ++ bytes))
    (get_or (sinks ++ sink ∷ []) n unknown)
as_before {i} {w} {t} {steps} reads sinks input bytes x sink n long each below h =
    let few : given (take n reads) ≤ length input = omega (arith, given_front n reads, long) in
    let inside : n < length sinks = omega (arith, each, below) in
    let upto : n ≤ length reads = omega (arith, below) in
    subst (λ (ss : List Step). HoldsOwnAnswers i w t ss (take (given (take n (reads ++ x ∷ []))) (input ++ bytes))
    (get_or (sinks ++ sink ∷ []) n unknown)) (append-nil steps)
    (holds_further [] (sym (ap (λ (ts : List ReadCall). take (given ts) (input ++ bytes))
    (take-append-le n reads (x ∷ []) upto)
    ∙ take-append-le (given (take n reads)) input bytes few))
    (sym (get_or_append_left sinks (sink ∷ []) unknown n inside)) h)

as_last : {i : ℕ} {w : Option (List ℕ)} {t : Option (List WriteCall)} {steps : List Step}
    (reads : List ReadCall)
    (sinks : List Beside) (input bytes : List ℕ) (x : ReadCall) (sink : Beside) (n : ℕ)
    → given reads ≡ length input → length sinks ≡ length reads → n ≡ length reads
    → HoldsOwnAnswers i w t steps input sink
    → HoldsOwnAnswers i w t steps (take (given (take n (reads ++ x ∷ []))) (input ++ bytes))
    (get_or (sinks ++ sink ∷ []) n unknown)
as_last {i} {w} {t} {steps} reads sinks input bytes x sink n long each is h =
    subst (λ (ss : List Step). HoldsOwnAnswers i w t ss (take (given (take n (reads ++ x ∷ []))) (input ++ bytes))
    (get_or (sinks ++ sink ∷ []) n unknown)) (append-nil steps)
    (holds_further [] (sym (ap (λ (m : ℕ). take (given (take m (reads ++ x ∷ []))) (input ++ bytes)) is
    ∙ ap (λ (ts : List ReadCall). take (given ts) (input ++ bytes)) (take-append_seam reads (x ∷ []))
    ∙ ap (λ (m : ℕ). take m (input ++ bytes)) long ∙ take-append_seam input bytes))
    (sym (ap (λ (m : ℕ). get_or (sinks ++ sink ∷ []) m unknown) (is ∙ sym each)
    ∙ get_or-append_seam sinks sink [] unknown)) h)

pub one_read_more : {i : ℕ} {q q' q'' : Option (List ReadCall)} {b b' b'' : Option (List Beside)}
    {w : Option (List ℕ)} {t : Option (List WriteCall)} {steps : List Step} (input bytes : List ℕ)
    (x : ReadCall) (sink : Beside)
    → AnswersBeforeItsReads i q q' b b' w t steps input → HoldsOwnAnswers i w t steps input sink
    → GrowsBy q' q'' (x ∷ []) → GrowsBy b' b'' (sink ∷ []) → given (x ∷ []) ≡ length bytes
    → AnswersBeforeItsReads i q q'' b b'' w t steps (input ++ bytes)
one_read_more {q = q} {q' = q'} {q'' = q''} {b = b} {b' = b'} {b'' = b''} input bytes x sink p holds made beside long =
    record {
      reads = p.reads ++ x ∷ [];
      made = adds-more q q' q'' p.reads (x ∷ []) p.made made;
      long = omega (arith, given-append p.reads (x ∷ []), p.long, long, length-append input bytes);
      sinks = p.sinks ++ sink ∷ [];
      beside = adds-more b b' b'' p.sinks (sink ∷ []) p.beside beside;
      each = omega (arith, length-append p.sinks (sink ∷ []), length-append p.reads (x ∷ []), p.each);
      answered = λ n below. elim (before_or_last n (length p.reads)
          (omega (arith, below, length-append p.reads (x ∷ [])))) [
            | inl old ↦ as_before p.reads p.sinks input bytes x sink n p.long p.each old (p.answered n old)
            | inr last ↦ as_last p.reads p.sinks input bytes x sink n p.long p.each last holds
          ];
    }

-- ---- beside others

own_beside : (i : ℕ) (steps more : List Step) → AllByRecursion (OfOther i) more
    → of_client i steps ≡ of_client i (steps ++ more)
own_beside i steps more others =
    sym (of_client-append i steps more ∙ ap (λ (x : List Turn). of_client i steps ++ x) (none_of i more others)
    ∙ append-nil (of_client i steps))

answers_beside : (i : ℕ) (steps more : List Step) → AllByRecursion (OfOther i) more
    → answers_of i steps ≡ answers_of i (steps ++ more)
answers_beside i steps more others =
    sym (answers_of-append i steps more ∙ ap (λ (x : List (List ℕ)). answers_of i steps ++ x) (no_answers i more others)
    ∙ append-nil (answers_of i steps))

going_beside : {i : ℕ} {k l : Known} {steps : List Step} {has_more shown : Bool}
    {rest pending : List ℕ} (more : List Step) → AllByRecursion (OfOther i) more → IsGoing i k l steps has_more shown rest pending
    → IsGoing i k l (steps ++ more) has_more shown rest pending
going_beside {i} {k} {l} {steps} {has_more} {shown} {rest} {pending} more others g =
    let own = own_beside i steps more others in
    record {
      read = subst (λ (ts : List Turn). Consumes k.reader l.reader (texts_of ts ++ rest)) own g.read;
      stays = subst (λ (ts : List Turn). AllByRecursion (λ (t : Turn). KeepsConnection t.message) ts) own g.stays;
      waits = g.waits;
      written = g.written;
      wrote = g.wrote;
      answers = g.answers ∙ ap joined (answers_beside i steps more others);
      more = g.more;
      through = g.through;
      prompt = reads_further more (ap (λ (ts : List Turn). texts_of ts ++ rest) own) g.prompt;
    }

parted_beside : {i : ℕ} {k l : Known} {steps : List Step} {pending : List ℕ} {p : Parting}
    (more : List Step) → AllByRecursion (OfOther i) more → IsParted i k l steps pending p → IsParted i k l (steps ++ more) pending p
parted_beside {i} {k} {l} {steps} {pending} {p} more others g =
    let own = own_beside i steps more others in
    record {
      lost = g.lost;
      rest = g.rest;
      last = g.last;
      read = subst (λ (ts : List Turn). Consumes k.reader l.reader (texts_of (ts ++ g.lost) ++ g.rest)) own g.read;
      written = g.written;
      wrote = g.wrote;
      parts = subst (λ (ts : List Turn). PartsAs p (HasEnded l.reader k.reads l.reads) ts g.lost g.rest g.last) own
          g.parts;
      answers = subst (λ (x : List (List ℕ)). IsWrittenAs p (g.written ++ pending) (joined (x ++ g.last)))
          (answers_beside i steps more others) g.answers;
      more = g.more;
      left = g.left;
      ends = g.ends;
      prompt = reads_further more (ap (λ (ts : List Turn). texts_of (ts ++ g.lost) ++ g.rest) own) g.prompt;
    }

pub stands_beside : {i : ℕ} {k l : Known} {steps : List Step} (p : Option Parting)
    {has_more shown : Bool} {rest pending : List ℕ} (more : List Step) → AllByRecursion (OfOther i) more
    → StandsAs p i k l steps has_more shown rest pending
    → StandsAs p i k l (steps ++ more) has_more shown rest pending
stands_beside None more others s = record { is = going_beside more others s.is }
stands_beside (Some p) more others s = record { is = parted_beside more others s.is }

-- ---- one whose connection was closed

pub served_beside : {i : ℕ} {k l : Known} {steps : List Step} {p : Parting} (more : List Step)
    → AllByRecursion (OfOther i) more → ClientIsServed i k l steps p
    → ClientIsServed i k l (steps ++ more) p
served_beside {i} {k} {l} {steps} {p} more others g =
    let own = own_beside i steps more others in
    record {
      lost = g.lost;
      rest = g.rest;
      last = g.last;
      read = subst (λ (ts : List Turn). Consumes k.reader l.reader (texts_of (ts ++ g.lost) ++ g.rest)) own g.read;
      written = g.written;
      wrote = g.wrote;
      parts = subst (λ (ts : List Turn). PartsAs p (HasEnded l.reader k.reads l.reads) ts g.lost g.rest g.last) own
          g.parts;
      answers = subst (λ (x : List (List ℕ)). IsWrittenAs p g.written (joined (x ++ g.last)))
          (answers_beside i steps more others) g.answers;
      ends = g.ends;
      prompt = reads_further more (ap (λ (ts : List Turn). texts_of (ts ++ g.lost) ++ g.rest) own) g.prompt;
    }
