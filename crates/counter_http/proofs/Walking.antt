-- The walk over messages one after another.
use Rattle.std.proofs.Common.{◌≡◌, ℕ, ◌<◌, true, List, [], ◌∷◌, ◌++◌, length, Option, refl, sym, ap, subst, ◌∙◌}
use Rattle.std.proofs.Common.{append_assoc, append-nil, arith}
use Rattle.std.specs.List.{AllByRecursion}
use Rattle.std.proofs.lemmas.{Bool.true≢false, List.length-append}
use Rattle.httparse.specs.Grammar.{RequestHead, print_request, IsRequestHead}
use Rattle.httparse.proofs.GrammarLemmas.{request_unique}
use Rattle.counter_http.specs.{believed.Fields.named_values, believed.Fields.body_length, Messages.AlwaysEnds}
use Rattle.counter_http.specs.believed.Turns.{Turn, messages_of, text_in, texts_of}
use Rattle.counter_http.specs.believed.Serving.{KeepsConnection, BeginsWithNoMessage}
use Rattle.counter_http.specs.believed.Messages.{Message, message_text, IsMessage, closes, Ending, Finished, Closed}
use Rattle.counter_http.specs.believed.Messages.{No_head, No_body, EndsWalk, LacksBody, Walks}

-- a walk after messages after which the connection goes on
pub walks_after : (ts us : List Turn) (rest : List ℕ) (ending : Ending)
    → AllByRecursion (λ (u : Turn). KeepsConnection u.message) ts → Walks rest (messages_of us) ending
    → Walks (texts_of ts ++ rest) (messages_of (ts ++ us)) ending
walks_after [] us rest ending all w = w
walks_after (t ∷ ts) us rest ending all w = (
  all.0.whole,
  (
    texts_of ts ++ rest,
    append_assoc (text_in t) (texts_of ts) rest,
    λ last. absurd (true≢false (sym last ∙ all.0.stays)),
    λ on. walks_after ts us rest ending all.1 w,
  ),
)

-- a walk that ends with what remains
pub walks_end : (ts : List Turn) (rest : List ℕ) (ending : Ending)
    → AllByRecursion (λ (u : Turn). KeepsConnection u.message) ts → EndsWalk ending rest
    → Walks (texts_of ts ++ rest) (messages_of ts) ending
walks_end ts rest ending all ends =
    subst (λ (us : List Turn). Walks (texts_of ts ++ rest) (messages_of us) ending) (append-nil ts)
    (walks_after ts [] rest ending all ends)

-- whatever follows
pub walks_always : (ts : List Turn) (rest : List ℕ) (ending : Ending)
    → AllByRecursion (λ (u : Turn). KeepsConnection u.message) ts → AlwaysEnds ending rest
    → (more : List ℕ) → Walks ((texts_of ts ++ rest) ++ more) (messages_of ts) ending
walks_always ts rest ending all ends more =
    subst (λ (input : List ℕ). Walks input (messages_of ts) ending)
    (sym (append_assoc (texts_of ts) rest more)) (walks_end ts (rest ++ more) ending all (ends more))

-- a walk that ends with a message
pub walks_closed : (t : Turn) (beyond : List ℕ) → IsMessage t.message → closes t.message.head ≡ true
    → Walks (message_text t.message ++ beyond) (messages_of (t ∷ [])) Closed
walks_closed t beyond is last =
    (is, (beyond, refl, λ _. (refl, refl), λ on. absurd (true≢false (sym last ∙ on))))

-- ---- no message stands where the walk ends

-- a head has some bytes
pub head_some : (h : RequestHead) → IsRequestHead h → 0 < length (print_request h)
unfolding print_request
head_some h is = omega (arith, is.method.0, length-append {A = ℕ})

cut_short : (m : Message) (beyond after : List ℕ) → IsMessage m
    → LacksBody (body_length (named_values m.head)) after → after ≡ m.body ++ beyond → ⊥
cut_short m beyond after is lacks e =
    let short : length after < length m.body = subst (λ (o : Option ℕ). LacksBody o after) is.body lacks in
    let len = ap length e in
    absurd (omega (arith, len, length-append m.body beyond))

pub no_message : (ending : Ending) (rest : List ℕ) → EndsWalk ending rest → BeginsWithNoMessage rest
no_message Finished rest ends m beyond is e =
    let len = ap length (sym ends ∙ e ∙ append_assoc (print_request m.head) m.body beyond) in
    absurd (omega (
      arith,
      len,
      length-append (print_request m.head) (m.body ++ beyond),
      head_some m.head
          is.head.head,
    ))
no_message Closed rest ends m beyond is e = absurd ends
no_message No_head rest ends m beyond is e =
    ends.1 m.head (m.body ++ beyond) is.head (e ∙ append_assoc (print_request m.head) m.body beyond)
no_message (No_body h) rest ends m beyond is e =
    let same = request_unique rest h m.head ends.1.0 (m.body ++ beyond) (ends.0.head, ends.1.1)
    (is.head.head, e ∙ append_assoc (print_request m.head) m.body beyond) in
    cut_short m beyond ends.1.0 is (subst
    (λ (k : RequestHead). LacksBody (body_length (named_values k)) ends.1.0) same.0 ends.1.2) same.1
