-- A reference that is read is the bytes, and a request with a reference and without.
use Rattle.std.proofs.Common.{◌≡◌, ℕ, eqb, List, length, Option, Some, None, refl, ap, subst, sym, inl, inr}
use Rattle.std.specs.Prelude.{IfSome}
use Rattle.std.proofs.lemmas.Bool.{and_parts, eqb-true}
use Rattle.message_records.specs.declared.limits.TheConstants.{REFERENCE_BYTES}
use Rattle.message_records.specs.believed.Records.{RequestFields, is_printable}
use Rattle.message_records.specs.Records.{IsReference}
use Rattle.message_records.specs.Records.{IsRequest}
use Rattle.message_records.specs.believed.Records.{is_reference, reference_from, unreferenced, referenced}
use Rattle.message_records.proofs.Digits.{chosen}

-- ---- the bytes

-- a reference is read from its bytes
pub reference_again : (text : List ℕ) → IsReference text → reference_from text ≡ Some text
reference_again text is = rw (is.0, is.1) refl

-- what is read is the bytes, which are a reference
pub reference_takes : (cs text : List ℕ) → reference_from cs ≡ Some text → (cs ≡ text) × IsReference text
reference_takes cs text e =
    elim (chosen (is_reference cs) (Some cs) None (Some text) e) [
      | inl t ↦
          let same : cs ≡ text = let h = t.1 in cc in
          let parts = and_parts (eqb (length cs) REFERENCE_BYTES) (is_printable cs) t.0 in
          (same, subst IsReference same (eqb-true (length cs) REFERENCE_BYTES parts.0, parts.1))
      | inr f ↦ absurd (let h = f.1 in cc)
    ]

-- ---- the request

-- the fields and the reference are in range, and so is the request
pub in_range : (r : RequestFields) → IsRequest (unreferenced r) → IfSome r.reference IsReference
    → IsRequest r
in_range r h is = record {
  account_above = h.account_above;
  account = h.account;
  teller_above = h.teller_above;
  teller = h.teller;
  branch_above = h.branch_above;
  branch = h.branch;
  number_above = h.number_above;
  number = h.number;
  delta = h.delta;
  reference = is;
}

-- the request with what may be a reference in the place of its own
abbrev with_reference : RequestFields → Option (List ℕ) → RequestFields
with_reference r reference = record {
  account = r.account;
  teller = r.teller;
  branch = r.branch;
  number = r.number;
  delta = r.delta;
  reference = reference;
}

-- a request that has no reference is itself without one
pub unreferenced_same : (r : RequestFields) → r.reference ≡ None → unreferenced r ≡ r
unreferenced_same r none = ap (with_reference r) (sym none)

-- a request that has this reference is itself with it
pub referenced_same : (r : RequestFields) (text : List ℕ) → r.reference ≡ Some text
    → referenced text (unreferenced r) ≡ r
referenced_same r text some = ap (with_reference r) (sym some)
