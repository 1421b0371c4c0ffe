-- An input has one walk.
use Rattle.std.proofs.Common.{◌≡◌, ℕ, inl, inr, List, [], ◌∷◌, ◌++◌, length, take, drop, Some, refl, sym, ap, subst}
use Rattle.std.proofs.Common.{◌∙◌, append_assoc, arith}
use Rattle.std.proofs.Math.Seq.{take-append_seam, drop-append_seam}
use Rattle.std.proofs.lemmas.{Bool.cases_Bool, List.length-append}
use Rattle.httparse.specs.Grammar.{RequestHead, print_request}
use Rattle.httparse.proofs.GrammarLemmas.{request_unique}
use Rattle.counter_http.specs.{believed.Fields.named_values, believed.Fields.body_length}
use Rattle.counter_http.specs.believed.Messages.{Message, message_text, IsMessage, closes, Ending, Finished, Closed}
use Rattle.counter_http.specs.believed.Messages.{No_head, No_body, EndsWalk, Walks}
use Rattle.std.specs.List.{AllByRecursion, flat_map}
use Rattle.counter_http.specs.believed.Serving.{KeepsConnection, BeginsWithNoMessage}
use Rattle.counter_http.proofs.Walking.{no_message, head_some}

-- the bytes of messages
abbrev pub texts_of_all : List Message → List ℕ
texts_of_all ms = flat_map message_text ms

-- texts of one length at the front of one text
front_same : (a b x y : List ℕ) → length a ≡ length b → a ++ x ≡ b ++ y → (a ≡ b) × (x ≡ y)
front_same a b x y len e = (
  sym (take-append_seam a x) ∙ ap (take (length a)) e ∙ ap (λ (n : ℕ). take n (b ++ y)) len
      ∙ take-append_seam b y,
  sym (drop-append_seam a x) ∙ ap (drop (length a)) e ∙ ap (λ (n : ℕ). drop n (b ++ y)) len
      ∙ drop-append_seam b y,
)

abbrev message_of : RequestHead → List ℕ → Message
message_of h body = record { head = h; body = body }

made : (h k : RequestHead) (x y : List ℕ) → h ≡ k → x ≡ y → message_of h x ≡ message_of k y
made h k x y eh ex = rw (eh, ex) refl

same_message : (m n : Message) (a b : List ℕ) → IsMessage m → IsMessage n
    → message_text m ++ a ≡ message_text n ++ b → (m ≡ n) × (a ≡ b)
same_message m n a b im jn e =
    let same = request_unique (message_text m ++ a) m.head n.head (m.body ++ a) (n.body ++ b)
    (im.head.head, append_assoc (print_request m.head) m.body a)
    (jn.head.head, e ∙ append_assoc (print_request n.head) n.body b) in
    let lengths : Some (length m.body) ≡ Some (length n.body) = sym im.body
    ∙ ap (λ (h : RequestHead). body_length (named_values h)) same.0 ∙ jn.body in
    let len : length m.body ≡ length n.body = cc in
    let rest = front_same m.body n.body a b len same.1 in
    (made m.head n.head m.body n.body same.0 rest.0, rest.1)

ends_unique : (e f : Ending) (rest : List ℕ) → EndsWalk e rest → EndsWalk f rest → e ≡ f
ends_unique Finished Finished rest x y = refl
ends_unique Finished Closed rest x y = absurd y
ends_unique Finished No_head rest x y = absurd (y.0 x)
ends_unique Finished (No_body h) rest x y =
    let len = ap length (sym x ∙ y.1.1) in
    absurd (omega (arith, len, length-append (print_request h) y.1.0, head_some h y.0.head))
ends_unique Closed f rest x y = absurd x
ends_unique No_head Finished rest x y = absurd (x.0 y)
ends_unique No_head Closed rest x y = absurd y
ends_unique No_head No_head rest x y = refl
ends_unique No_head (No_body h) rest x y = absurd (x.1 h y.1.0 y.0 y.1.1)
ends_unique (No_body h) Finished rest x y =
    let len = ap length (sym y ∙ x.1.1) in
    absurd (omega (arith, len, length-append (print_request h) x.1.0, head_some h x.0.head))
ends_unique (No_body h) Closed rest x y = absurd y
ends_unique (No_body h) No_head rest x y = absurd (y.1 h x.1.0 x.0 x.1.1)
ends_unique (No_body h) (No_body k) rest x y =
    ap (λ (j : RequestHead). No_body j)
    (request_unique rest h k x.1.0 y.1.0 (x.0.head, x.1.1) (y.0.head, y.1.1)).0

more : (m n : Message) (ms ns : List Message) → m ≡ n → ms ≡ ns → m ∷ ms ≡ n ∷ ns
more m n ms ns e es = rw (e, es) refl

pub walk_unique : (input : List ℕ) (ms ns : List Message) (e f : Ending) → Walks input ms e → Walks input ns f
    → (ms ≡ ns) × (e ≡ f)
walk_unique input [] [] e f x y = (refl, ends_unique e f input x y)
walk_unique input [] (n ∷ ns) e f x y = absurd (no_message e input x n y.1.0 y.0 y.1.1)
walk_unique input (m ∷ ms) [] e f x y = absurd (no_message f input y m x.1.0 x.0 x.1.1)
walk_unique input (m ∷ ms) (n ∷ ns) e f x y =
    let same = same_message m n x.1.0 y.1.0 x.0 y.0 (sym x.1.1 ∙ y.1.1) in
    let ends : closes m.head ≡ closes n.head = ap (λ (k : Message). closes k.head) same.0 in
    elim (cases_Bool (closes m.head)) [
      | inl t ↦
          let a = x.1.2 t in
          let b = y.1.2 (sym ends ∙ t) in
          (more m n ms ns same.0 (a.0 ∙ sym b.0), a.1 ∙ sym b.1)
      | inr o ↦
          let a = x.1.3 o in
          let b : Walks x.1.0 ns f =
          subst (λ (r : List ℕ). Walks r ns f) (sym same.1) (y.1.3 (sym ends ∙ o)) in
          let rest = walk_unique x.1.0 ms ns e f a b in
          (more m n ms ns same.0 rest.0, rest.1)
    ]

-- the whole messages at the front of an input are one list
pub front_unique : (ms ns : List Message) (a b : List ℕ) → AllByRecursion KeepsConnection ms
    → AllByRecursion KeepsConnection ns
    → BeginsWithNoMessage a → BeginsWithNoMessage b → texts_of_all ms ++ a ≡ texts_of_all ns ++ b → ms ≡ ns
front_unique [] [] a b im jn none none' e = refl
front_unique [] (n ∷ ns) a b im jn none none' e =
    absurd (none n (texts_of_all ns ++ b) jn.0.whole (e ∙ append_assoc (message_text n) (texts_of_all ns) b))
front_unique (m ∷ ms) [] a b im jn none none' e =
    absurd (none' m (texts_of_all ms ++ a) im.0.whole
    (sym e ∙ append_assoc (message_text m) (texts_of_all ms) a))
front_unique (m ∷ ms) (n ∷ ns) a b im jn none none' e =
    let same = same_message m n (texts_of_all ms ++ a) (texts_of_all ns ++ b) im.0.whole jn.0.whole
    (sym (append_assoc (message_text m) (texts_of_all ms) a) ∙ e
    ∙ append_assoc (message_text n) (texts_of_all ns) b) in
    more m n ms ns same.0 (front_unique ms ns a b im.1 jn.1 none none' same.1)
