-- A reply that is spelled is read.
use Rattle.std.proofs.Common.{◌≡◌, ℕ, ◌^◌, ◌<◌, ◌≤◌, List, ◌∷◌, ◌++◌, length, take, drop, replicate, Option, Some}
use Rattle.std.proofs.Common.{None, Ok, refl, ap, ◌∙◌, lit<, arith}
use Rattle.std.specs.Prelude.{ℤ, pos, nat_abs, codes, is_some, IfSome, unwrap_or, option_and_then}
use Rattle.message_records.specs.{declared.limits.TheConstants.MAX_BALANCE, declared.records.Outcome.Outcome}
use Rattle.message_records.specs.{Outcomes.has_request, believed.Records.RequestFields, believed.Records.ReplyFields}
use Rattle.message_records.specs.{Records.IsShownRequest, Records.IsReply, believed.Reading.number_of}
use Rattle.message_records.specs.declared.fault.BadReply.TheVariants as bad_reply
use Rattle.message_records.specs.declared.records.Outcome.TheVariants.{Posted, Malformed}
use Rattle.message_records.specs.believed.Outcomes.{code_of, name_of, has_balance, outcome_with}
use Rattle.message_records.specs.believed.Spelling.{digits, signed, fields_spelling, no_fields, filled}
use Rattle.message_records.specs.believed.Spelling.{reply_spelling}
use Rattle.message_records.specs.Reading.{shown_in_reply, no_fields_of, shown_request_of, balance_of}
use Rattle.message_records.specs.Reading.{reply_of}
use Rattle.message_records.proofs.{Digits.length-digits, Digits.number_of-digits, Amounts.length-signed}
use Rattle.message_records.proofs.{Amounts.signed_again, Pieces.field_next, Pieces.last_field, Pieces.text_again}
use Rattle.message_records.proofs.Fields.{length-fields, fields_again}

-- ---- outcomes

-- a code has two digits
pub code_below : (o : Outcome) → code_of o < 10 ^ 2
code_below Posted = lit< tt
code_below _ = lit< tt

pub outcome_with-code : (o : Outcome) → outcome_with (code_of o) ≡ Some o
outcome_with-code Posted = refl
outcome_with-code _ = refl

-- a filled name is 16 bytes
pub length-name : (o : Outcome) → length (filled 16 (name_of o)) ≡ 16
length-name Posted = refl
length-name _ = refl

-- the outcome is read from its two digits
outcome_again : (o : Outcome) (cs : List ℕ) → cs ≡ digits 2 (code_of o)
    → option_and_then outcome_with (number_of cs) ≡ Some o
outcome_again o cs e = rw (e, number_of-digits 2 (code_of o) (code_below o)) (outcome_with-code o)

-- ---- what is shown

-- zeros in the place of each field are read as no request
no_fields_again : no_fields_of (fields_spelling no_fields) ≡ Ok None
unfolding no_fields_of fields_spelling digits
no_fields_again = refl

shown_again : (o : Outcome) (q : Option RequestFields) (bytes : List ℕ) → is_some q ≡ has_request o
    → IfSome q IsShownRequest
    → bytes ≡ fields_spelling (unwrap_or q no_fields) → shown_request_of o bytes ≡ Ok q
shown_again Malformed None bytes s h e = ap no_fields_of e ∙ no_fields_again
shown_again Malformed (Some r) bytes s h e = absurd cc
shown_again _ None bytes s h e = absurd cc
shown_again _ (Some r) bytes s h e = ap shown_in_reply
    (fields_again r bytes h.0 e ∙ ap Ok h.1)

-- the balance of a refused request is zero
pub zero_balance : signed 12 (pos 0) ≡ 43 ∷ replicate 12 48
unfolding digits
zero_balance = refl

balance_again : (o : Outcome) (q : Option ℤ) (bytes : List ℕ) → is_some q ≡ has_balance o
    → IfSome q (λ z. nat_abs z ≤ MAX_BALANCE)
    → bytes ≡ signed 12 (unwrap_or q (pos 0)) → balance_of o bytes ≡ Ok q
balance_again Posted None bytes s h e = absurd cc
balance_again Posted (Some z) bytes s h e = rw (signed_again 12 z bytes e (omega (arith, h))) refl
balance_again _ (Some z) bytes s h e = absurd cc
balance_again _ None bytes s h e = rw
    (text_again (43 ∷ replicate 12 48) bad_reply.Balance bytes (e ∙ zero_balance)) refl

-- ---- the reply

-- what is spelled is read
pub reply_again : (r : ReplyFields) (bytes : List ℕ) → IsReply r → bytes ≡ reply_spelling r
    → reply_of bytes ≡ Ok r
unfolding reply_spelling reply_of
reply_again r bytes h e =
    let shown = unwrap_or r.request no_fields in
    let shown_balance = unwrap_or r.balance (pos 0) in
    let name_text = filled 16 (name_of r.outcome) in
    let from_name = name_text ++ replicate 118 32 in
    let from_balance = signed 12 shown_balance ++ from_name in
    let from_request = fields_spelling shown ++ from_balance in
    let from_outcome = digits 2 (code_of r.outcome) ++ from_request in
    let tag = field_next 0 4 bytes (codes "DR01") from_outcome e refl in
    let outcome = field_next 4 2 bytes (digits 2 (code_of r.outcome)) from_request tag.1
    (length-digits 2 (code_of r.outcome)) in
    let request = field_next 6 47 bytes (fields_spelling shown) from_balance outcome.1
    (length-fields shown) in
    let balance = field_next 53 13 bytes (signed 12 shown_balance) from_name request.1
    (length-signed 12 shown_balance) in
    let name = field_next 66 16 bytes name_text (replicate 118 32) balance.1 (length-name r.outcome) in
    let filler = last_field 82 118 bytes (replicate 118 32) name.1 refl in
    rw (
      text_again (codes "DR01") bad_reply.Tag (take 4 (drop 0 bytes)) tag.0,
      outcome_again r.outcome (take 2 (drop 4 bytes)) outcome.0,
      shown_again r.outcome r.request (take 47 (drop 6 bytes)) h.shows_request h.request request.0,
      balance_again r.outcome r.balance (take 13 (drop 53 bytes)) h.shows_balance h.balance balance.0,
      text_again name_text bad_reply.Name (take 16 (drop 66 bytes)) name.0,
      text_again (replicate 118 32) bad_reply.Filler (take 118 (drop 82 bytes)) filler,
    ) refl
