-- What a request and a reply hold (TPC-A, contents of the messages).
use Rattle.std.specs.Prelude.{ℕ, ℤ, nat_le, Bool, true, ◌&&◌, Option}
use Rattle.std.specs.Prelude.{Some, None, if◌then◌else◌, List, [], ◌∷◌, length, nat_eq}
use Rattle.message_records.specs.declared.records.Outcome.{Outcome}
use Rattle.message_records.specs.declared.limits.TheConstants.{REFERENCE_BYTES}

-- every byte is printable ASCII, from the space to the tilde
abbrev pub is_printable : List ℕ → Bool
is_printable [] = true
is_printable (c ∷ cs) = (nat_le 32 c && nat_le c 126) && is_printable cs

-- what a request may be referred to by: so many printable bytes
abbrev pub is_reference : List ℕ → Bool
is_reference text = nat_eq (length text) REFERENCE_BYTES && is_printable text

-- the reference that the bytes are
abbrev pub reference_from : List ℕ → Option (List ℕ)
reference_from text = if is_reference text then Some text else None

pub record RequestFields : Type 0 where
  pub account : ℕ
  pub teller : ℕ
  pub branch : ℕ
  -- the teller's own number for the request
  pub number : ℕ
  -- what is to be added, in cents
  pub delta : ℤ
  -- what the request is referred to by, none where it has no reference
  pub reference : Option (List ℕ)

-- the request without its reference, as its reply shows it
abbrev pub unreferenced : RequestFields → RequestFields
unreferenced r = record r { reference = None }

-- and with this one
abbrev pub referenced : List ℕ → RequestFields → RequestFields
referenced text r = record r { reference = Some text }

pub record ReplyFields : Type 0 where
  pub outcome : Outcome
  -- the request without its reference
  pub request : Option RequestFields
  -- the account's new balance, in cents
  pub balance : Option ℤ
