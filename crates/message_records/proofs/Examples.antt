-- Two requests and two replies, worked out to the byte.
use Rattle.std.specs.Prelude.{◌≡◌, ℕ, ℤ, pos, List, ◌∷◌, ◌++◌, take, drop, Some, None, Ok, Err, refl, codes, replicate}
use Rattle.message_records.specs.declared.fault.Bad.TheVariants as bad
use Rattle.message_records.specs.declared.records.Outcome.TheVariants.{Posted, Malformed}
use Rattle.message_records.specs.believed.Records.{RequestFields, ReplyFields, referenced}
use Rattle.message_records.specs.believed.Spelling.{digits, fields_spelling, request_spelling, reply_spelling}
use Rattle.message_records.specs.believed.Reading.{fields_of, plain_request_of, referenced_request_of, request_of}
use Rattle.message_records.specs.Reading.{no_fields_of, reply_of}

-- account, teller, branch, number and amount
abbrev pub plain_request : ℕ → ℕ → ℕ → ℕ → ℤ → RequestFields
plain_request account teller branch number delta = record {
  account = account;
  teller = teller;
  branch = branch;
  number = number;
  delta = delta;
  reference = None;
}

-- five dollars to account 1, from teller 1 of branch 1, under the number 1
deposit : RequestFields
deposit = plain_request 1 1 1 1 (pos 500)

deposit_bytes : List ℕ
deposit_bytes = codes "DC01000000000001000000010000010000000001+0000000500" ++ replicate 49 32

-- the same for rent, as the reference says
rent : RequestFields
rent = referenced (codes "RENT MAY" ++ replicate 12 32) deposit

rent_bytes : List ℕ
rent_bytes = codes "DC02000000000001000000010000010000000001+0000000500RENT MAY" ++ replicate 41 32

-- it is posted, and the account then holds five dollars
posted : ReplyFields
posted = record { outcome = Posted; request = Some deposit; balance = Some (pos 500) }

posted_bytes : List ℕ
posted_bytes = codes "DR0100000000000001000000010000010000000001+0000000500+000000000500POSTED"
    ++ replicate 128 32

malformed : ReplyFields
malformed = record { outcome = Malformed; request = None; balance = None }

malformed_bytes : List ℕ
malformed_bytes = codes "DR0190" ++
    (replicate 36 48 ++ (codes "+0000000000+000000000000MALFORMED" ++ replicate 125 32))

deposit_read : request_of deposit_bytes ≡ Ok deposit
unfolding deposit deposit_bytes request_of plain_request_of fields_of
deposit_read = refl

deposit_spelled : request_spelling deposit ≡ deposit_bytes
unfolding deposit deposit_bytes request_spelling fields_spelling digits
deposit_spelled = refl

rent_read : request_of rent_bytes ≡ Ok rent
unfolding deposit rent rent_bytes request_of referenced_request_of fields_of
rent_read = refl

rent_spelled : request_spelling rent ≡ rent_bytes
unfolding deposit rent rent_bytes request_spelling fields_spelling digits
rent_spelled = refl

-- no third tag
tag_faulty : request_of (codes "DC03" ++ drop 4 rent_bytes) ≡ Err bad.Tag
unfolding rent_bytes request_of plain_request_of
tag_faulty = refl

-- 127 isn't printable
reference_faulty : request_of (take 51 rent_bytes ++ 127 ∷ drop 52 rent_bytes) ≡ Err bad.Reference
unfolding rent_bytes request_of referenced_request_of fields_of
reference_faulty = refl

-- `X` as the last byte
filler_faulty : request_of (take 99 rent_bytes ++ codes "X") ≡ Err bad.Filler
unfolding rent_bytes request_of referenced_request_of fields_of
filler_faulty = refl

plain_filler_faulty : request_of (take 99 deposit_bytes ++ codes "X") ≡ Err bad.Filler
unfolding deposit_bytes request_of plain_request_of fields_of
plain_filler_faulty = refl

posted_read : reply_of posted_bytes ≡ Ok posted
unfolding deposit posted posted_bytes reply_of fields_of
posted_read = refl

posted_spelled : reply_spelling posted ≡ posted_bytes
unfolding deposit posted posted_bytes reply_spelling fields_spelling digits
posted_spelled = refl

malformed_read : reply_of malformed_bytes ≡ Ok malformed
unfolding malformed malformed_bytes reply_of no_fields_of
malformed_read = refl

malformed_spelled : reply_spelling malformed ≡ malformed_bytes
unfolding malformed malformed_bytes reply_spelling fields_spelling digits
malformed_spelled = refl
