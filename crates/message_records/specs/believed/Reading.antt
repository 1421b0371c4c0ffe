-- What reading a record gives: its value, or its first faulty field from the left.
use Rattle.std.specs.Prelude.{ℕ, zero, suc, ◌+◌, ◌-◌, ◌*◌, ℤ, pos, negsuc, nat_le, ◌==◌, ◌&&◌, List, [], ◌∷◌}
use Rattle.std.specs.Prelude.{slice_range, Option, Some, None, Result, Ok, Err, if◌then◌else◌, codes}
use Rattle.std.specs.Prelude.{replicate, option_and_then}
use Rattle.std.specs.Option.{ok_or}
use Rattle.std.specs.Str.{bytes_eq}
use Rattle.message_records.specs.declared.fault.Bad.{Bad}
use Rattle.message_records.specs.declared.fault.Bad.TheVariants as bad
use Rattle.message_records.specs.declared.limits.TheConstants.{MAX_ACCOUNT, MAX_TELLER, MAX_BRANCH}
use Rattle.message_records.specs.declared.limits.TheConstants.{MAX_NUMBER, REQUEST_BYTES}
use Rattle.message_records.specs.believed.Ranges.{whole_within}
use Rattle.message_records.specs.believed.Records.{RequestFields, reference_from, referenced}

-- what comes next, unless a field was faulty
infixl 10 ◌>>=◌
abbrev pub ◌>>=◌ : {A B E : Type 0} → Result A E → (A → Result B E) → Result B E
(Ok x) >>= f = f x
(Err e) >>= f = Err e

-- ---- numbers and amounts

-- the number that digits write after those of a front, none where a byte is no digit
abbrev pub number_after : ℕ → List ℕ → Option ℕ
number_after n [] = Some n
number_after n (c ∷ cs) = if (nat_le 48 c && nat_le c 57) then number_after (n * 10 + (c - 48)) cs else None

-- the number that digits write
abbrev pub number_of : List ℕ → Option ℕ
number_of cs = number_after 0 cs

abbrev pub not_below_zero : ℕ → Option ℤ
not_below_zero n = Some (pos n)

-- zero is never written with a minus
abbrev pub below_zero : ℕ → Option ℤ
below_zero zero = None
below_zero (suc n) = Some (negsuc n)

-- the amount that a sign and digits write
abbrev pub signed_of : List ℕ → Option ℤ
signed_of [] = None
signed_of (sign ∷ cs) =
    if sign == 43 then option_and_then not_below_zero
    (number_of cs) else if sign == 45 then option_and_then below_zero (number_of cs) else None

-- ---- fields

-- a number from 1 on
abbrev pub number_at : {E : Type 0} → ℕ → E → List ℕ → Result ℕ E
number_at most fault cs = ok_or (option_and_then (whole_within 1 most) (number_of cs)) fault

-- these bytes and no others
abbrev pub text_at : {E : Type 0} → List ℕ → E → List ℕ → Result (List ℕ) E
text_at text fault cs = if bytes_eq cs text then Ok text else Err fault

-- the five fields of a request, in 47 bytes, which has no reference yet
unfoldable pub fields_of : List ℕ → Result RequestFields Bad
fields_of bytes = do
  account ← number_at MAX_ACCOUNT bad.Account (slice_range bytes 0 12)
  teller ← number_at MAX_TELLER bad.Teller (slice_range bytes 12 20)
  branch ← number_at MAX_BRANCH bad.Branch (slice_range bytes 20 26)
  number ← number_at MAX_NUMBER bad.Number (slice_range bytes 26 36)
  delta ← ok_or (signed_of (slice_range bytes 36 47)) bad.Delta
  Ok (record {
    account = account;
    teller = teller;
    branch = branch;
    number = number;
    delta = delta;
    reference = None;
  })

-- a request without a reference
unfoldable pub plain_request_of : List ℕ → Result RequestFields Bad
plain_request_of bytes = do
  tag ← text_at (codes "DC01") bad.Tag (slice_range bytes 0 4)
  fields ← fields_of (slice_range bytes 4 51)
  filler ← text_at (replicate 49 32) bad.Filler (slice_range bytes 51 REQUEST_BYTES)
  Ok fields

-- a request with a reference
unfoldable pub referenced_request_of : List ℕ → Result RequestFields Bad
referenced_request_of bytes = do
  tag ← text_at (codes "DC02") bad.Tag (slice_range bytes 0 4)
  fields ← fields_of (slice_range bytes 4 51)
  reference ← ok_or (reference_from (slice_range bytes 51 71)) bad.Reference
  filler ← text_at (replicate 29 32) bad.Filler (slice_range bytes 71 REQUEST_BYTES)
  Ok (referenced reference fields)

-- the tag says which of the two it is
unfoldable pub request_of : List ℕ → Result RequestFields Bad
request_of bytes = if bytes_eq (slice_range bytes 0 4) (codes "DC02") then referenced_request_of bytes
    else plain_request_of bytes
