-- A request that is spelled is read, and one that is read is spelled so: without a reference, and with one.
use Rattle.std.proofs.Common.{◌≡◌, ℕ, ◌-◌, cond, List, ◌++◌, length, take, drop, replicate, Option, Some, None}
use Rattle.std.proofs.Common.{Result, Ok, Err, refl, sym, ap, subst, ◌∙◌, arith, inl, inr}
use Rattle.std.specs.{Prelude.codes, Prelude.IfOk, Prelude.IfSome, Option.ok_or, Str.bytes_eq}
use Rattle.message_records.specs.declared.{limits.TheConstants.REQUEST_BYTES, fault.Bad.Bad}
use Rattle.message_records.specs.declared.fault.Bad.TheVariants as bad
use Rattle.message_records.specs.believed.Records.{RequestFields, reference_from, unreferenced}
use Rattle.message_records.specs.Records.{IsReference}
use Rattle.message_records.specs.Records.{IsRequest}
use Rattle.message_records.specs.believed.Records.{referenced}
use Rattle.message_records.specs.believed.Spelling.{fields_spelling, filled, tag_of, reference_text, request_spelling}
use Rattle.message_records.specs.believed.Reading.{fields_of, plain_request_of, referenced_request_of, request_of}
use Rattle.message_records.proofs.{Digits.chosen, Fields.length-fields, Fields.fields_again, Fields.fields_take}
use Rattle.message_records.proofs.Pieces.{field_next, field_joined, last_field, last_joined, field_length, text_again}
use Rattle.message_records.proofs.Pieces.{text_step, step_takes, ok_or_some}
use Rattle.message_records.proofs.References.{reference_again, reference_takes, in_range, unreferenced_same}
use Rattle.message_records.proofs.References.{referenced_same}

-- ---- which of the two it is

-- what is chosen by the tag, of bytes that begin so
by_tag : (tag bytes : List ℕ) → take 4 (drop 0 bytes) ≡ tag
    → request_of bytes
    ≡ cond (bytes_eq tag (codes "DC02")) (referenced_request_of bytes) (plain_request_of bytes)
unfolding request_of
by_tag tag bytes e =
    ap (λ (t : List ℕ). cond (bytes_eq t (codes "DC02")) (referenced_request_of bytes)
    (plain_request_of bytes)) e

-- a request that is read without a reference is read
pub plain_is_request : (bytes : List ℕ) (r : RequestFields) → plain_request_of bytes ≡ Ok r
    → request_of bytes ≡ Ok r
unfolding plain_request_of
plain_is_request bytes r e =
    let tag = text_step (codes "DC01") bad.Tag (take 4 (drop 0 bytes)) _ r e in
    by_tag (codes "DC01") bytes tag.0 ∙ e

-- a request that is read with a reference is read
pub referenced_is_request : (bytes : List ℕ) (r : RequestFields) → referenced_request_of bytes ≡ Ok r
    → request_of bytes ≡ Ok r
unfolding referenced_request_of
referenced_is_request bytes r e =
    let tag = text_step (codes "DC02") bad.Tag (take 4 (drop 0 bytes)) _ r e in
    by_tag (codes "DC02") bytes tag.0 ∙ e

-- ---- what is spelled is read

-- the spelling, by what the request has for a reference
spelled : (r : RequestFields) (q : Option (List ℕ)) → r.reference ≡ q
    → request_spelling r ≡ tag_of q ++ (fields_spelling r ++ filled 49 (reference_text q))
unfolding request_spelling
spelled r q e =
    ap (λ (o : Option (List ℕ)). tag_of o ++ (fields_spelling r ++ filled 49 (reference_text o))) e

-- a request without a reference
plain_again : (r : RequestFields) (bytes : List ℕ) → IsRequest r → r.reference ≡ None
    → bytes ≡ request_spelling r → plain_request_of bytes ≡ Ok r
unfolding plain_request_of
plain_again r bytes h none e =
    let whole : bytes ≡ codes "DC01" ++ (fields_spelling r ++ replicate 49 32) = e ∙ spelled r None none in
    let tag = field_next 0 4 bytes (codes "DC01") (fields_spelling r ++ replicate 49 32) whole refl in
    let fields = field_next 4 47 bytes (fields_spelling r) (replicate 49 32) tag.1 (length-fields r) in
    let filler = last_field 51 49 bytes (replicate 49 32) fields.1 refl in
    rw (
      text_again (codes "DC01") bad.Tag (take 4 (drop 0 bytes)) tag.0,
      fields_again r (take 47 (drop 4 bytes)) h fields.0,
      text_again (replicate 49 32) bad.Filler (take 49 (drop 51 bytes)) filler,
    ) (ap Ok (unreferenced_same r none))

-- after a reference are so many spaces
filler_after : (text : List ℕ) → IsReference text → filled 49 text ≡ text ++ replicate 29 32
filler_after text is = ap (λ (k : ℕ). text ++ replicate (49 - k) 32) is.0

-- a request with a reference
referenced_again : (r : RequestFields) (text bytes : List ℕ) → IsRequest r → r.reference ≡ Some text
    → IsReference text
    → bytes ≡ request_spelling r → referenced_request_of bytes ≡ Ok r
unfolding referenced_request_of
referenced_again r text bytes h some is e =
    let whole : bytes ≡ codes "DC02" ++ (fields_spelling r ++ (text ++ replicate 29 32)) =
    e ∙ spelled r (Some text) some
    ∙ ap (λ (t : List ℕ). codes "DC02" ++ (fields_spelling r ++ t)) (filler_after text is) in
    let after = text ++ replicate 29 32 in
    let tag = field_next 0 4 bytes (codes "DC02") (fields_spelling r ++ after) whole refl in
    let fields = field_next 4 47 bytes (fields_spelling r) after tag.1 (length-fields r) in
    let reference = field_next 51 20 bytes text (replicate 29 32) fields.1 is.0 in
    let filler = last_field 71 29 bytes (replicate 29 32) reference.1 refl in
    let read : reference_from (take 20 (drop 51 bytes)) ≡ Some text =
    ap reference_from reference.0 ∙ reference_again text is in
    rw (
      text_again (codes "DC02") bad.Tag (take 4 (drop 0 bytes)) tag.0,
      fields_again r (take 47 (drop 4 bytes)) h fields.0,
      read,
      text_again (replicate 29 32) bad.Filler (take 29 (drop 71 bytes)) filler,
    ) (ap Ok (referenced_same r text some))

again_as : (q : Option (List ℕ)) (r : RequestFields) (bytes : List ℕ) → r.reference ≡ q → IsRequest r
    → IfSome q IsReference
    → bytes ≡ request_spelling r → request_of bytes ≡ Ok r
again_as None r bytes has h is e = plain_is_request bytes r (plain_again r bytes h has e)
again_as (Some text) r bytes has h is e =
    referenced_is_request bytes r (referenced_again r text bytes h has is e)

-- what is spelled is read
pub request_again : (r : RequestFields) (bytes : List ℕ) → IsRequest r → bytes ≡ request_spelling r
    → request_of bytes ≡ Ok r
request_again r bytes h e = again_as r.reference r bytes refl h h.reference e

-- ---- what is read is spelled so

-- a request without a reference
plain_takes : (r : RequestFields) (bytes : List ℕ) → length bytes ≡ REQUEST_BYTES
    → plain_request_of bytes ≡ Ok r
    → (bytes ≡ request_spelling r) × IsRequest r
unfolding plain_request_of
plain_takes r bytes len e =
    let tag = text_step (codes "DC01") bad.Tag (take 4 (drop 0 bytes)) _ r e in
    let fields = step_takes (fields_of (take 47 (drop 4 bytes))) _ r tag.1 in
    let filler = text_step (replicate 49 32) bad.Filler (take 49 (drop 51 bytes)) _ r fields.2 in
    let r-is : fields.0 ≡ r = let h = filler.1 in cc in
    let taken = fields_take fields.0 (take 47 (drop 4 bytes))
    (field_length 4 47 bytes (omega arith)) fields.1 in
    let from_filler = last_joined 51 49 bytes (replicate 49 32) len filler.0 in
    let from_fields = field_joined 4 47 bytes (fields_spelling fields.0)
    (replicate 49 32) taken.0 from_filler in
    let from_tag = field_joined 0 4 bytes (codes "DC01") _ tag.0 from_fields in
    subst (λ (y : RequestFields). (bytes ≡ request_spelling y) × IsRequest y) r-is
    (from_tag ∙ sym (spelled fields.0 None (ap (λ y. y.reference) (sym taken.1.1))), taken.1.0)

-- the reference is none of the fields
fields_alike : (r : RequestFields) (text : List ℕ) → fields_spelling (referenced text r) ≡ fields_spelling r
unfolding fields_spelling
fields_alike r text = refl

-- a request with a reference
referenced_takes : (r : RequestFields) (bytes : List ℕ) → length bytes ≡ REQUEST_BYTES
    → referenced_request_of bytes ≡ Ok r
    → (bytes ≡ request_spelling r) × IsRequest r
unfolding referenced_request_of
referenced_takes r bytes len e =
    let tag = text_step (codes "DC02") bad.Tag (take 4 (drop 0 bytes)) _ r e in
    let fields = step_takes (fields_of (take 47 (drop 4 bytes))) _ r tag.1 in
    let reference = step_takes (ok_or (reference_from (take 20 (drop 51 bytes))) bad.Reference) _ r fields.2 in
    let filler = text_step (replicate 29 32) bad.Filler (take 29 (drop 71 bytes)) _ r reference.2 in
    let text = reference.0 in
    let made = referenced text fields.0 in
    let r-is : made ≡ r = let h = filler.1 in cc in
    let taken = fields_take fields.0 (take 47 (drop 4 bytes))
    (field_length 4 47 bytes (omega arith)) fields.1 in
    let read = reference_takes (take 20 (drop 51 bytes)) text
    (ok_or_some (reference_from (take 20 (drop 51 bytes))) bad.Reference text reference.1) in
    let from_filler = last_joined 71 29 bytes (replicate 29 32) len filler.0 in
    let from_reference = field_joined 51 20 bytes text (replicate 29 32) read.0 from_filler
    ∙ sym (filler_after text read.1) in
    let from_fields = field_joined 4 47 bytes (fields_spelling made) (filled 49 text)
    (taken.0 ∙ sym (fields_alike fields.0 text)) from_reference in
    let from_tag = field_joined 0 4 bytes (codes "DC02") _ tag.0 from_fields in
    let bare : IsRequest (unreferenced made) = subst IsRequest (sym taken.1.1) taken.1.0 in
    subst (λ (y : RequestFields). (bytes ≡ request_spelling y) × IsRequest y) r-is
    (from_tag ∙ sym (spelled made (Some text) refl), in_range made bare read.1)

-- what is read is spelled so, and in range
pub request_takes : (r : RequestFields) (bytes : List ℕ) → length bytes ≡ REQUEST_BYTES
    → request_of bytes ≡ Ok r
    → (bytes ≡ request_spelling r) × IsRequest r
unfolding request_of
request_takes r bytes len e =
    elim (chosen (bytes_eq (take 4 (drop 0 bytes)) (codes "DC02")) (referenced_request_of bytes)
    (plain_request_of bytes) (Ok r) e) [
      | inl t ↦ referenced_takes r bytes len t.1
      | inr f ↦ plain_takes r bytes len f.1
    ]

-- what is read is in range
pub read_in_range : (bytes : List ℕ) (r : RequestFields) → length bytes ≡ REQUEST_BYTES
    → request_of bytes ≡ Ok r → IsRequest r
read_in_range bytes r len e = (request_takes r bytes len e).1

-- the same, of what a call returned
pub request_found : (bytes : List ℕ) (read : Result RequestFields Bad) → length bytes ≡ REQUEST_BYTES
    → read ≡ request_of bytes
    → IfOk read (λ r. IsRequest r × (bytes ≡ request_spelling r))
request_found bytes (Ok r) len e = let taken = request_takes r bytes len (sym e) in (taken.1, taken.0)
request_found bytes (Err fault) len e = tt
