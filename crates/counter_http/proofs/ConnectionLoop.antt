-- Where the loop over a connection stands: what was read, a message, and the buffer.
use Rattle.std.proofs.Common.{◌≡◌, ℕ, ◌+◌, ◌<◌, ◌≤◌, ◌-◌, slice_range, drop-drop, length-drop, Bool, false, List, []}
use Rattle.std.proofs.Common.{◌∷◌, ◌++◌, length, take, drop, Option, Ok, refl, sym, ap, subst, ◌∙◌, append_assoc}
use Rattle.std.proofs.Common.{append-nil, arith}
use Rattle.std.specs.{List.AllByRecursion, Io.KnownBytes.Consumes}
use Rattle.std.proofs.KnownBytes.{Consumes-trans, Consumes-nil}
use Rattle.std.proofs.lemmas.List.{length-append, length-take-le, drop-take, nil_from_length, Concat.flat_map-append}
use Rattle.posting_rules.specs.{declared.fault.Fault.Fault, believed.Counter.Seen}
use Rattle.posting_core.specs.EndCalls.{WriteCall}
use Rattle.httparse.specs.Grammar.{print_request}
use Rattle.counter_http.specs.{declared.next.Whole.Whole, believed.Messages.message_text, believed.Messages.Finished}
use Rattle.counter_http.specs.{believed.Answers.Asked, Turns.AreAnswered, Turns.TurnIsDealtWith}
use Rattle.counter_http.specs.Next.{asked, IsWhole, IsUnfinished}
use Rattle.counter_http.specs.believed.Turns.{Turn, text_in, texts_of}
use Rattle.counter_http.specs.believed.Serving.{KeepsConnection, BeginsWithNoMessage}
use Rattle.counter_http.proofs.Walking.{no_message, head_some}
use Rattle.counter_http.proofs.Turning.{answered_none, answered_more, answered_one}

-- ---- where the loop stands

-- what was done so far, with what was read after the last message and how many were answered
pub record Going (r r' w w' k k' : Option (List ℕ)) (c c' : Seen) (rest : List ℕ) (count : ℕ) : Type 0 where
  pub turns : List Turn
  pub read : Consumes r r' (texts_of turns ++ rest)
  pub stays : AllByRecursion (λ (u : Turn). KeepsConnection u.message) turns
  pub count_is : count ≡ length turns
  pub answered : AreAnswered w w' k k' c c' turns

unfoldable pub going_first : {r w k : Option (List ℕ)} {c : Seen} (rest : List ℕ) → rest ≡ []
    → Going r r w w k k c c rest 0
going_first {r = r} rest e = record {
  turns = [];
  read = subst (λ (t : List ℕ). Consumes r r t) (sym e) (Consumes-nil r);
  stays = tt;
  count_is = refl;
  answered = answered_none;
}

-- more bytes were read
unfoldable pub going_read : {r r' r'' w w' k k' : Option (List ℕ)} {c c' : Seen} {count : ℕ} (rest more all : List ℕ)
    → Going r r' w w' k k' c c' rest count
    → Consumes r' r'' more → all ≡ rest ++ more → Going r r'' w w' k k' c c' all count
going_read {r = r} {r' = r'} {r'' = r''} rest more all g got e =
    let before = texts_of g.turns in
    record {
      turns = g.turns;
      read = subst (λ (t : List ℕ). Consumes r r'' t)
          (append_assoc before rest more ∙ ap (λ (t : List ℕ). before ++ t) (sym e))
          (Consumes-trans r r' r'' (before ++ rest) more g.read got);
      stays = g.stays;
      count_is = g.count_is;
      answered = g.answered;
    }

pub going_filled : {r r' r'' w w' k k' : Option (List ℕ)} {c c' : Seen} {count : ℕ} (old new : List ℕ)
    (filled filled' n : ℕ)
    → Going r r' w w' k k' c c' (take filled old) count
    → ((bytes : List ℕ) × (take (filled + n) new ≡ take filled old ++ bytes) × Consumes r' r'' bytes)
    → filled' ≡ filled + n → Going r r'' w w' k k' c c' (take filled' new) count
going_filled old new filled filled' n g got e =
    going_read (take filled old) got.0 (take filled' new) g got.2 (ap (λ (j : ℕ). take j new) e ∙ got.1)

-- ---- a message

pub texts_one_more : (ts : List Turn) (t : Turn) (rest : List ℕ)
    → texts_of (ts ++ t ∷ []) ++ rest ≡ texts_of ts ++ (text_in t ++ rest)
texts_one_more ts t rest =
    ap (λ (x : List ℕ). x ++ rest) (flat_map-append text_in ts (t ∷ [])
    ∙ ap (λ (x : List ℕ). texts_of ts ++ x) (append-nil (text_in t)))
    ∙ append_assoc (texts_of ts) (text_in t) rest

pub read_one_more : (r r' : Option (List ℕ)) (ts : List Turn) (t : Turn) (all rest : List ℕ)
    → Consumes r r' (texts_of ts ++ all) → all ≡ text_in t ++ rest
    → Consumes r r' (texts_of (ts ++ t ∷ []) ++ rest)
read_one_more r r' ts t all rest got e =
    subst (λ (x : List ℕ). Consumes r r' x)
    (ap (λ (x : List ℕ). texts_of ts ++ x) e ∙ sym (texts_one_more ts t rest)) got

pub stays_one_more : (ts : List Turn) (t : Turn) → AllByRecursion (λ (u : Turn). KeepsConnection u.message) ts
    → KeepsConnection t.message → AllByRecursion (λ (u : Turn). KeepsConnection u.message) (ts ++ t ∷ [])
stays_one_more [] t all one = (one, tt)
stays_one_more (s ∷ ts) t all one = (all.0, stays_one_more ts t all.1 one)

-- the message at the front, as a turn
abbrev pub turn_of : {all : List ℕ} {w : Whole} → ℕ → IsWhole all w → Turn
turn_of moment is = record { message = is.message; moment = moment }

unfoldable pub going_message : {C : Type 0} (seen : C → Seen) {reason : Fault → C → C → Type 0}
    {r r' w w' w'' k k' k'' : Option (List ℕ)} {v v' : Option (List WriteCall)} {c : Seen} {count : ℕ}
    (now new : C) (all rest : List ℕ) (count' : ℕ) (p : Whole)
    → Going r r' w w' k k' c (seen now) all count → IsWhole all p → p.closes ≡ false
    → rest ≡ drop p.length all → count' ≡ count + 1
    → TurnIsDealtWith seen reason w' w'' v v' k' k'' now new (asked p) (Ok tt)
    → Going r r' w w'' k k'' c (seen new) rest count'
going_message seen {r = r} {r' = r'} now new all rest count' p g is on left n d =
    let t : Turn = turn_of d.moment is in record {
      turns = g.turns ++ t ∷ [];
      read = read_one_more r r' g.turns t all rest g.read
          (is.front ∙ ap (λ (x : List ℕ). text_in t ++ x) (sym left));
      stays = stays_one_more g.turns t g.stays
          (record { whole = is.whole; stays = sym (ap (λ (x : Asked). x.closes) is.asks) ∙ on });
      count_is = omega (arith, n, g.count_is, length-append g.turns (t ∷ []));
      answered = answered_more g.turns (t ∷ []) g.answered
          (answered_one t (asked p) is.asks d.clock d.dealt.honest d.dealt.answers);
    }

-- ---- the buffer

-- where bytes are missing, no message stands at the front
pub unfinished_none : {shown : Bool} (rest : List ℕ) → IsUnfinished rest shown → BeginsWithNoMessage rest
unfinished_none [] is = no_message Finished [] refl
unfinished_none (b ∷ bs) is =
    no_message is.ending (b ∷ bs) (is.ends (λ e. let len = ap length e in absurd (omega arith)))

-- nothing was read
pub same_front : (old new bytes : List ℕ) (filled n : ℕ) → n ≡ 0 → filled ≤ length old → filled ≤ length new
    → take (filled + n) new ≡ take filled old ++ bytes
    → take filled new ≡ take filled old
same_front old new bytes filled n none fits fits' e =
    let plain : filled + n ≡ filled = omega arith in
    let front : take filled new ≡ take filled old ++ bytes = rw plain at e in
    let len = ap length front in
    let empty : bytes ≡ [] =
    nil_from_length bytes (omega (
      arith,
      len,
      length-append (take filled old) bytes,
      length-take-le filled old
          fits,
      length-take-le filled new fits',
    )) in
    front ∙ ap (λ (t : List ℕ). take filled old ++ t) empty ∙ append-nil (take filled old)

pub range_all : (b : List ℕ) (f : ℕ) → slice_range b 0 f ≡ take f b
range_all b f = let plain : f - 0 ≡ f = omega arith in rw plain refl

pub range_next : (b : List ℕ) (u n f : ℕ) → u + n ≤ f → slice_range b (u + n) f ≡ drop n (slice_range b u f)
range_next b u n f fits =
    let m = f - (u + n) in
    let whole : f - u ≡ n + m = omega arith in
    sym (ap (λ (k : ℕ). drop n (take k (drop u b))) whole ∙ drop-take n m (drop u b)
    ∙ ap (take m) (drop-drop n u b))

pub range_long : (b : List ℕ) (u f : ℕ) → f ≤ length b → length (slice_range b u f) ≡ f - u
range_long b u f fits = length-take-le (f - u) (drop u b) (omega (arith, length-drop u b))

-- a message has some bytes, and no more than stand there
pub message_long : {all : List ℕ} {p : Whole} → IsWhole all p → (0 < p.length) × (p.length ≤ length all)
message_long {all = all} {p = p} is =
    let len = ap length is.front in (
      omega (
        arith,
        is.long,
        length-append (print_request is.message.head) is.message.body,
        head_some
            is.message.head is.whole.head.head,
      ),
      omega (arith, len, is.long, length-append (message_text is.message) (drop p.length all)),
    )
