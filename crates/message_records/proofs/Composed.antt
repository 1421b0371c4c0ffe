-- The fields that are put one after another are the record.
use Rattle.std.proofs.Common.{◌≡◌, ℕ, zero, suc, ◌+◌, ◌-◌, ◌≤◌, List, [], ◌∷◌, ◌++◌, length, replicate, refl, sym, ap}
use Rattle.std.proofs.Common.{◌∙◌, append_assoc, zero-add, lit≤, arith}
use Rattle.std.specs.Prelude.{ℤ, pos, codes, unwrap_or}
use Rattle.std.proofs.lemmas.List.{length-append}
use Rattle.message_records.specs.{declared.records.Outcome.Outcome, believed.Records.RequestFields}
use Rattle.message_records.specs.{believed.Records.ReplyFields, believed.Outcomes.code_of, believed.Outcomes.name_of}
use Rattle.message_records.specs.declared.limits.TheConstants.{REPLY_BYTES, REQUEST_BYTES}
use Rattle.message_records.specs.declared.records.Outcome.TheVariants.{Posted}
use Rattle.message_records.specs.believed.Spelling.{digits, signed, fields_spelling, no_fields, filled, tag_of}
use Rattle.message_records.specs.believed.Spelling.{reference_text, request_spelling, reply_spelling}

-- ---- the five fields

-- five fields, each put after the one before, are the fields of the request
pub fields_put : (r : RequestFields) (a t b n : ℕ) (z : ℤ) (d0 d1 d2 d3 d4 d5 : List ℕ)
    → a ≡ r.account → t ≡ r.teller → b ≡ r.branch → n ≡ r.number → z ≡ r.delta
    → d1 ≡ d0 ++ digits 12 a → d2 ≡ d1 ++ digits 8 t → d3 ≡ d2 ++ digits 6 b → d4 ≡ d3 ++ digits 10 n
    → d5 ≡ d4 ++ signed 10 z
    → d5 ≡ d0 ++ fields_spelling r
unfolding fields_spelling
fields_put r a t b n z d0 d1 d2 d3 d4 d5 ea et eb en ez e1 e2 e3 e4 e5 =
    rw (e5, e4, e3, e2, e1, ea, et, eb, en, ez) (simp append_assoc)

-- zeros in the place of each field
pub no_fields_spelled : fields_spelling no_fields ≡ replicate 36 48 ++ 43 ∷ replicate 10 48
unfolding fields_spelling digits
no_fields_spelled = refl

-- ---- the request

-- tag, fields and reference, filled with spaces, are the request
pub request_put : (r : RequestFields) (tag d0 d1 d2 d3 out : List ℕ) → tag ≡ tag_of r.reference → d0 ≡ []
    → d1 ≡ d0 ++ tag
    → d2 ≡ d1 ++ fields_spelling r
    → d3 ≡ d2 ++ reference_text r.reference
    → length d2 ≡ 51 → out ≡ d3 ++ replicate (REQUEST_BYTES - length d3) 32 → out ≡ request_spelling r
unfolding request_spelling
request_put r tag d0 d1 d2 d3 out t e0 e1 e2 e3 len e =
    let text = reference_text r.reference in
    let fields = fields_spelling r in
    let front : d3 ≡ (tag_of r.reference ++ fields) ++ text = rw (e3, e2, e1, e0, t) refl in
    let size : length d3 ≡ length d2 + length text = rw e3 (length-append d2 text) in
    let left : 100 - length d3 ≡ 49 - length text = omega arith in
    rw (e, left, front) (simp append_assoc)

-- ---- the reply

abbrev spaces : ℕ → List ℕ
spaces n = replicate n 32

spaces-add : (m n : ℕ) → spaces m ++ spaces n ≡ spaces (m + n)
spaces-add zero n = ap (λ (k : ℕ). spaces k) (sym (zero-add n))
spaces-add (suc m) n =
    let same : suc (m + n) ≡ suc m + n = omega arith in
    ap (λ (t : List ℕ). 32 ∷ t) (spaces-add m n) ∙ ap (λ (k : ℕ). spaces k) same

-- a name is at most 16 bytes
pub name_short : (o : Outcome) → length (name_of o) ≤ 16
name_short Posted = lit≤ tt
name_short _ = lit≤ tt

-- the spaces after a name are those that fill it and those that fill the record
name_filled : (name : List ℕ) (n : ℕ) → n ≡ 66 + length name → length name ≤ 16
    → name ++ spaces (REPLY_BYTES - n) ≡ filled 16 name ++ spaces 118
name_filled name n e le =
    let left : 200 - n ≡ (16 - length name) + 118 = omega arith in
    ap (λ (k : ℕ). name ++ spaces k) left
    ∙ ap (λ (t : List ℕ). name ++ t) (sym (spaces-add (16 - length name) 118))
    ∙ sym (append_assoc name (spaces (16 - length name)) (spaces 118))

-- the fields, each put after the one before and filled with spaces, are the reply
pub reply_put : (r : ReplyFields) (code : ℕ) (name d0 d1 d2 d3 d4 d5 out : List ℕ) → code ≡ code_of r.outcome
    → name ≡ name_of r.outcome
    → d0 ≡ [] → d1 ≡ d0 ++ codes "DR01" → d2 ≡ d1 ++ digits 2 code
    → d3 ≡ d2 ++ fields_spelling (unwrap_or r.request no_fields)
    → d4 ≡ d3 ++ signed 12 (unwrap_or r.balance (pos 0)) → d5 ≡ d4 ++ name
    → length d5 ≡ 66 + length name → out ≡ d5 ++ replicate (REPLY_BYTES - length d5) 32
    → out ≡ reply_spelling r
unfolding reply_spelling
reply_put r code name d0 d1 d2 d3 d4 d5 out ec en e0 e1 e2 e3 e4 e5 len e =
    let tag = codes "DR01" in
    let fields = fields_spelling (unwrap_or r.request no_fields) in
    let balance = signed 12 (unwrap_or r.balance (pos 0)) in
    let short : length name ≤ 16 = rw en (name_short r.outcome) in
    let front : d5 ≡ (((tag ++ digits 2 code) ++ fields) ++ balance) ++ name = rw
    (e5, e4, e3, e2, e1, e0) refl in
    let grouped : (a b c d f g : List ℕ) → ((((a ++ b) ++ c) ++ d) ++ f) ++ g ≡ a ++
    (b ++ (c ++ (d ++ (f ++ g)))) =
    λ a b c d f g. simp append_assoc in
    e ∙ ap (λ (t : List ℕ). t ++ spaces (REPLY_BYTES - length d5)) front
    ∙ grouped tag (digits 2 code) fields balance name (spaces (REPLY_BYTES - length d5))
    ∙ ap (λ (t : List ℕ). tag ++ (digits 2 code ++ (fields ++ (balance ++ t))))
    (name_filled name (length d5) len short)
    ∙ ap (λ (k : ℕ). tag ++ (digits 2 k ++ (fields ++ (balance ++ (filled 16 name ++ spaces 118))))) ec
    ∙ ap (λ (t : List ℕ). tag ++ (digits 2 (code_of r.outcome)
    ++ (fields ++ (balance ++ (filled 16 t ++ spaces 118))))) en
