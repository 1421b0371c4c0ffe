-- The one spelling of each request, 100 bytes, and of each reply, 200 bytes.
use Rattle.std.specs.Prelude.{ℕ, zero, suc, ◌+◌, ◌-◌, ◌/◌, ◌%◌, ℤ, pos, negsuc, List, [], ◌∷◌, ◌++◌, length}
use Rattle.std.specs.Prelude.{replicate, codes, unwrap_or, Option, Some, None}
use Rattle.message_records.specs.believed.Outcomes.{code_of, name_of}
use Rattle.message_records.specs.believed.Records.{RequestFields, ReplyFields}

-- a number in so many decimal digits
unfoldable pub digits : ℕ → ℕ → List ℕ
digits zero n = []
digits (suc k) n = digits k (n / 10) ++ (48 + n % 10) ∷ []

-- a sign, which is plus for zero, and so many digits
abbrev pub signed : ℕ → ℤ → List ℕ
signed k (pos n) = 43 ∷ digits k n
signed k (negsuc n) = 45 ∷ digits k (suc n)

-- the five fields that a request and a reply have in common, 47 bytes
unfoldable pub fields_spelling : RequestFields → List ℕ
fields_spelling r = digits 12 r.account ++
    (digits 8 r.teller ++ (digits 6 r.branch ++ (digits 10 r.number ++ signed 10 r.delta)))

-- a text filled with spaces on the right
abbrev pub filled : ℕ → List ℕ → List ℕ
filled n text = text ++ replicate (n - length text) 32

-- the first bytes of a request, by whether it has a reference
abbrev pub tag_of : Option (List ℕ) → List ℕ
tag_of None = codes "DC01"
tag_of (Some text) = codes "DC02"

abbrev pub reference_text : Option (List ℕ) → List ℕ
reference_text None = []
reference_text (Some text) = text

unfoldable pub request_spelling : RequestFields → List ℕ
request_spelling r = tag_of r.reference ++ (fields_spelling r ++ filled 49 (reference_text r.reference))

-- what a reply shows in the place of a request where the bytes were none
abbrev pub no_fields : RequestFields
no_fields = record { account = 0; teller = 0; branch = 0; number = 0; delta = pos 0; reference = None }

unfoldable pub reply_spelling : ReplyFields → List ℕ
reply_spelling r =
    codes "DR01" ++ (digits 2 (code_of r.outcome) ++ (fields_spelling (unwrap_or r.request no_fields)
    ++ (signed 12 (unwrap_or r.balance (pos 0)) ++ (filled 16 (name_of r.outcome) ++ replicate 118 32))))
