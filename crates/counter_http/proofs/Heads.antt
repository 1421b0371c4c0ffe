-- A head at the front of bytes, whatever follows.
use Rattle.std.proofs.Common.{eqb, drop-drop, ◌≡◌, ◌≢◌, ℕ, ◌+◌, ◌<◌, ◌≤◌, List, [], ◌++◌, length, map, take, drop}
use Rattle.std.proofs.Common.{Bool, true, false, Option, Some, None, Result, Err, refl, sym, ap, subst, ◌∙◌}
use Rattle.std.proofs.Common.{append_assoc, arith}
use Rattle.std.proofs.lemmas.List.{length-append, length-take, length-map, take-append-le, take-append-drop}
use Rattle.std.proofs.lemmas.List.{length-take-le}
use Rattle.std.specs.Prelude.{OnErr}
use Rattle.std.proofs.{lemmas.Bool.eq-eqb, lemmas.Bool.ne_eqb, Math.Seq.take-append_seam}
use Rattle.httparse.specs.Grammar.{RequestHead, print_request, ReadsRequest, HasNoRequest}
use Rattle.httparse.specs.declared.spans.{HeaderSpan.HeaderSpan, RequestSpans.RequestSpans}
use Rattle.httparse.specs.Spans.{header_bytes, name_and_value, AreFieldsAt, IsRequestWithin, IsRequestAt, IsRequestOf}
use Rattle.httparse.specs.Spans.{RequestOverflows}
use Rattle.httparse.proofs.GrammarLemmas.{request_prefix_free, ReadsRequest-append}
use Rattle.counter_http.specs.{believed.Answers.Asked, Messages.AlwaysEnds}
use Rattle.counter_http.specs.believed.Fields.{NamedValue, named_values, body_length, asks_to_close}
use Rattle.counter_http.specs.believed.Messages.{message_text, IsMessage, LacksBody, closes, IsHead, No_head, No_body}
use Rattle.counter_http.specs.believed.Messages.{EndsWalk}

-- bytes that are there stay when others follow
pub some_more : (buf more : List ℕ) → 0 < length buf → buf ++ more ≢ []
some_more buf more some e = let len = ap length e in absurd (omega (arith, length-append buf more, len))

-- the head that stands at the front has no more fields than there was room for
few_fields : (buf : List ℕ) (headers : List HeaderSpan) (count : ℕ) (h : RequestHead)
    → AreFieldsAt buf headers count h.fields → count ≤ length headers
    → length h.fields ≡ count
few_fields buf headers count h are fits =
    let len = ap length are in
    omega (
      arith,
      len,
      length-map (take count headers) (header_bytes buf),
      length-map h.fields name_and_value,
      length-take count headers,
    )

pub head_is : (buf : List ℕ) (headers : List HeaderSpan) (r : RequestSpans) (h : RequestHead)
    → length headers ≡ 32 → IsRequestWithin buf headers r
    → IsRequestAt buf headers r h → r.len ≤ 8192 → IsHead h
head_is buf headers r h room within at long = record {
  head = at.reads.0;
  fields = omega (
    arith,
    few_fields buf headers r.headers h at.fields within.section.count_fits,
    within.section.count_fits,
  );
  bytes = omega (arith, at.len);
}

-- a head that is too long stands at the front
pub too_long : (buf : List ℕ) (headers : List HeaderSpan) (r : RequestSpans) → IsRequestWithin buf headers r
    → IsRequestOf buf headers r → 8192 < r.len
    → AlwaysEnds No_head buf
too_long buf headers r within found long more = (
  some_more buf more (omega (arith, within.section.len_fits)),
  λ h after is e.
      let same = request_prefix_free buf more found.0 h (drop r.len buf) after found.1.reads (is.head, e) in
      let len : length (print_request found.0) ≡ length (print_request h) =
      ap (λ (x : RequestHead). length (print_request x)) same.0 in
      absurd (omega (arith, is.bytes, found.1.len, len)),
)

-- no head stands at the front of bytes as long as the longest one
pub too_far : (buf : List ℕ) → HasNoRequest buf → 8192 ≤ length buf → AlwaysEnds No_head buf
too_far buf none long more = (
  some_more buf more (omega arith),
  λ h after is e.
      let text = print_request h in
      let fits : length text ≤ length buf = omega (arith, is.bytes) in
      let front : take (length text) buf ≡ text = sym (take-append-le (length text) buf more fits)
      ∙ ap (take (length text)) e ∙ take-append_seam text after in
      none h (drop (length text) buf) (
        is.head,
        sym (take-append-drop (length text) buf)
            ∙ ap (λ (t : List ℕ). t ++ drop (length text) buf) front,
      ),
)

-- every head that could stand there has too many fields
pub too_many : (buf : List ℕ) → RequestOverflows 32 buf → 0 < length buf → AlwaysEnds No_head buf
too_many buf over some more = (
  some_more buf more some,
  λ h after is e. absurd (omega (arith, is.fields, over more h after (is.head, e))),
)

-- ---- a head, and what stands after it

-- what the fields say is read off their spans
pub fields_say : {X : Type 0} (F : List NamedValue → X) (buf : List ℕ) (headers : List HeaderSpan)
    (r : RequestSpans) (h : RequestHead) → IsRequestAt buf headers r h
    → F (map (header_bytes buf) (take r.headers headers)) ≡ F (named_values h)
fields_say F buf headers r h at = ap F at.fields

-- the body can't be told
pub no_length : (buf : List ℕ) (r : RequestSpans) (h : RequestHead) → IsHead h
    → ReadsRequest buf h (drop r.len buf) → body_length (named_values h) ≡ None
    → AlwaysEnds (No_body h) buf
no_length buf r h is reads none more = (
  is,
  (
    drop r.len buf ++ more,
    (ReadsRequest-append buf h (drop r.len buf) more reads).1,
    subst (λ (o : Option ℕ). LacksBody o (drop r.len buf ++ more)) (sym none) tt,
  ),
)

-- it isn't there yet
pub short_body : (buf : List ℕ) (r : RequestSpans) (h : RequestHead) (n : ℕ) → IsHead h
    → ReadsRequest buf h (drop r.len buf) → body_length (named_values h) ≡ Some n
    → length (drop r.len buf) < n → EndsWalk (No_body h) buf
short_body buf r h n is reads some short =
    (is, (drop r.len buf, reads.1, subst (λ (o : Option ℕ). LacksBody o (drop r.len buf)) (sym some) short))

-- it is there
pub whole_message : (buf : List ℕ) (r : RequestSpans) (h : RequestHead) (n : ℕ) → IsHead h
    → ReadsRequest buf h (drop r.len buf) → r.len ≡ length (print_request h)
    → body_length (named_values h) ≡ Some n → n ≤ length (drop r.len buf)
    → IsMessage (record { head = h; body = take n (drop r.len buf) })
    × (buf ≡ message_text (record { head = h; body = take n (drop r.len buf) }) ++ drop (r.len + n) buf)
    × (r.len + n ≡ length (message_text (record { head = h; body = take n (drop r.len buf) })))
whole_message buf r h n is reads len some there =
    let body = take n (drop r.len buf) in
    let long : length body ≡ n = length-take-le n (drop r.len buf) there in (
      record { head = is; body = some ∙ ap (λ (k : ℕ). Some k) (sym long) },
      reads.1 ∙ ap (λ (t : List ℕ). print_request h ++ t) (sym (take-append-drop n (drop r.len buf)))
          ∙ sym (append_assoc (print_request h) body (drop n (drop r.len buf)))
          ∙ ap (λ (t : List ℕ). (print_request h ++ body) ++ t) (drop-drop n r.len buf),
      omega (arith, length-append (print_request h) body),
    )

pub at_err : {A E : Type 0} {P : Type 0} (r : Result A E) (e : E) → r ≡ Err e → OnErr r P → P
at_err {A = A} {E = E} {P = P} r e is h = subst (λ (q : Result A E). OnErr q P) is h

-- ---- the end of the connection

pub closes_old : (h : RequestHead) (v : ℕ) → v ≡ h.minor → v ≡ 0 → eqb v 0 ≡ closes h
closes_old h v is zero =
    eq-eqb v 0 zero ∙ (let old : eqb h.minor 0 ≡ true = eq-eqb h.minor 0 (sym is ∙ zero) in rw old refl)

pub closes_asked : (h : RequestHead) (v : ℕ) → v ≡ h.minor → (v ≡ 0 → ⊥)
    → asks_to_close (named_values h) ≡ closes h
closes_asked h v is not =
    let new : eqb h.minor 0 ≡ false = ne_eqb h.minor 0 (λ e. not (is ∙ e)) in rw new refl

abbrev pub asked_as : List ℕ → List ℕ → List ℕ → Bool → Asked
asked_as m t b x = record { method = m; target = t; body = b; closes = x }

pub asks_alike : (m m' t t' b b' : List ℕ) (x x' : Bool) → m ≡ m' → t ≡ t' → b ≡ b' → x ≡ x'
    → asked_as m t b x ≡ asked_as m' t' b' x'
asks_alike m m' t t' b b' x x' em et eb ex = rw (em, et, eb, ex) refl
