-- No spelling begins another: all are equally long, and each is read as one value.
use Rattle.std.proofs.Common.{◌≡◌, ℕ, ◌-◌, List, [], ◌∷◌, ◌++◌, length, replicate, Option, Some, None, Result, Ok}
use Rattle.std.proofs.Common.{refl, sym, ap, ◌∙◌, append-nil, arith}
use Rattle.std.specs.Prelude.{pos, IfSome, unwrap_or}
use Rattle.std.proofs.lemmas.List.{length-append, length-replicate}
use Rattle.message_records.specs.declared.limits.TheConstants.{REPLY_BYTES, REQUEST_BYTES}
use Rattle.message_records.specs.{believed.Outcomes.code_of, believed.Reading.request_of, Reading.reply_of}
use Rattle.message_records.specs.believed.Records.{RequestFields, ReplyFields}
use Rattle.message_records.specs.Records.{IsReference}
use Rattle.message_records.specs.Records.{IsRequest, IsReply}
use Rattle.message_records.specs.believed.Spelling.{no_fields, filled, tag_of, reference_text, request_spelling}
use Rattle.message_records.specs.believed.Spelling.{reply_spelling}
use Rattle.message_records.proofs.{Digits.length-digits, Amounts.length-signed, Fields.length-fields}
use Rattle.message_records.proofs.{Requests.request_again, SpelledReplies.length-name, SpelledReplies.reply_again}

-- a list of no elements
nothing : (xs : List ℕ) → length xs ≡ 0 → xs ≡ []
nothing [] e = refl
nothing (x ∷ xs) e = absurd (omega (arith, e))

-- what stands after a whole that is as long is nothing
no_rest : (xs ys rest : List ℕ) → length xs ≡ length ys → xs ++ rest ≡ ys → rest ≡ []
no_rest xs ys rest same e = nothing rest
    (omega (arith, same, ap (λ (t : List ℕ). length t) e, length-append xs rest))

-- what is read from one spelling is one value
one_value : {A E : Type 0} (read : List ℕ → Result A E) (x y : A) (xs ys rest : List ℕ) → read xs ≡ Ok x
    → read ys ≡ Ok y
    → length xs ≡ length ys → xs ++ rest ≡ ys → (x ≡ y) × (rest ≡ [])
one_value read x y xs ys rest ex ey same e =
    let none : rest ≡ [] = no_rest xs ys rest same e in
    let one : xs ≡ ys = sym (append-nil xs) ∙ ap (λ (t : List ℕ). xs ++ t) (sym none) ∙ e in
    let both : Ok x ≡ Ok y = sym ex ∙ ap read one ∙ ey in
    (cc, none)

length-tag : (q : Option (List ℕ)) → length (tag_of q) ≡ 4
length-tag None = refl
length-tag (Some text) = refl

length-after : (q : Option (List ℕ)) → IfSome q IsReference → length (filled 49 (reference_text q)) ≡ 49
length-after None is = refl
length-after (Some text) is =
    let spaces = length-replicate {A = ℕ} (49 - length text) 32 in
    omega (arith, is.0, length-append text (replicate (49 - length text) 32), spaces)

-- every request has so many bytes
pub length-request : (r : RequestFields) → IsRequest r → length (request_spelling r) ≡ REQUEST_BYTES
unfolding request_spelling
length-request r h =
    omega (
      arith,
      length-append {A = ℕ},
      length-tag r.reference,
      length-fields r,
      length-after r.reference h.reference,
    )

-- every reply has so many bytes
pub length-reply : (r : ReplyFields) → length (reply_spelling r) ≡ REPLY_BYTES
unfolding reply_spelling
length-reply r =
    omega (
      arith,
      length-append {A = ℕ},
      length-digits 2 (code_of r.outcome),
      length-fields (unwrap_or r.request no_fields),
      length-signed 12 (unwrap_or r.balance (pos 0)),
      length-name r.outcome,
    )

-- no spelling of a request begins another
pub no_request_begins : (r s : RequestFields) (rest : List ℕ) → IsRequest r → IsRequest s
    → request_spelling r ++ rest ≡ request_spelling s
    → (r ≡ s) × (rest ≡ [])
no_request_begins r s rest hr hs e =
    one_value request_of r s (request_spelling r) (request_spelling s) rest
    (request_again r (request_spelling r) hr refl) (request_again s (request_spelling s) hs refl)
    (length-request r hr ∙ sym (length-request s hs)) e

-- no spelling of a reply begins another
pub no_reply_begins : (r s : ReplyFields) (rest : List ℕ) → IsReply r → IsReply s
    → reply_spelling r ++ rest ≡ reply_spelling s
    → (r ≡ s) × (rest ≡ [])
no_reply_begins r s rest hr hs e =
    one_value reply_of r s (reply_spelling r) (reply_spelling s) rest
    (reply_again r (reply_spelling r) hr refl) (reply_again s (reply_spelling s) hs refl)
    (length-reply r ∙ sym (length-reply s)) e
