-- The five fields that a request and a reply have in common: spelled and read.
use Rattle.std.proofs.Common.{◌≡◌, ℕ, ◌^◌, ◌<◌, ◌≤◌, true, ◌&&◌, leb, List, ◌++◌, length, take, drop, Some, None, Ok}
use Rattle.std.proofs.Common.{refl, ap, subst, ◌∙◌, arith, inl, inr}
use Rattle.std.specs.{Prelude.option_and_then, Option.ok_or}
use Rattle.std.proofs.lemmas.{Bool.Decides.nat_tests, List.length-append}
use Rattle.message_records.specs.declared.limits.TheConstants.{MAX_ACCOUNT, MAX_TELLER, MAX_BRANCH, MAX_NUMBER}
use Rattle.message_records.specs.declared.fault.Bad.TheVariants as bad
use Rattle.message_records.specs.believed.{Ranges.whole_within, Records.RequestFields, Records.unreferenced}
use Rattle.message_records.specs.believed.Spelling.{digits, signed, fields_spelling}
use Rattle.message_records.specs.Records.{IsRequest, IsShownRequest}
use Rattle.message_records.specs.believed.Reading.{number_of, signed_of, number_at, fields_of}
use Rattle.message_records.proofs.Digits.{length-digits, chosen, number_of-digits, number_takes}
use Rattle.message_records.proofs.Amounts.{length-signed, signed_again, signed_takes, and_then_some}
use Rattle.message_records.proofs.Pieces.{field_next, field_joined, last_field, last_joined, field_length, step_takes}
use Rattle.message_records.proofs.Pieces.{ok_or_some}

-- ---- a number from 1 on

within_again : (most n : ℕ) → 1 ≤ n → n ≤ most → whole_within 1 most n ≡ Some n
within_again most n least le = let test : (leb 1 n && leb n most) ≡ true = grind
    (arith, nat_tests) in rw test refl

within_takes : (most n x : ℕ) → whole_within 1 most n ≡ Some x → (n ≡ x) × (1 ≤ x) × (x ≤ most)
within_takes most n x e =
    elim (chosen (leb 1 n && leb n most) (Some n) None (Some x) e) [
      | inl t ↦
          let same : n ≡ x = let h = t.1 in cc in
          let test = t.0 in
          let least : 1 ≤ n = grind (arith, nat_tests) in
          let le : n ≤ most = grind (arith, nat_tests) in
          (same, omega arith, omega arith)
      | inr f ↦ absurd (let h = f.1 in cc)
    ]

-- a number in its range is read from its digits
number_again : {E : Type 0} (most k n : ℕ) (fault : E) (cs : List ℕ) → cs ≡ digits k n → n < 10 ^ k → 1 ≤ n
    → n ≤ most
    → number_at most fault cs ≡ Ok n
number_again most k n fault cs e lt least le = rw
    (e, number_of-digits k n lt, within_again most n least le) refl

-- a number that is read is in its range, and the bytes spell it
number_at-takes : {E : Type 0} (most k n : ℕ) (fault : E) (cs : List ℕ) → length cs ≡ k
    → number_at most fault cs ≡ Ok n
    → (cs ≡ digits k n) × (1 ≤ n) × (n ≤ most)
number_at-takes most k n fault cs len e =
    let some = ok_or_some (option_and_then (whole_within 1 most) (number_of cs)) fault n e in
    let read = and_then_some (whole_within 1 most) (number_of cs) n some in
    let within = within_takes most read.0 n read.2 in
    ((number_takes k n cs len (read.1 ∙ ap Some within.0)).0, within.1, within.2)

-- ---- the five fields

-- the five fields are 47 bytes
pub length-fields : (r : RequestFields) → length (fields_spelling r) ≡ 47
unfolding fields_spelling
length-fields r =
    let account = length-digits 12 r.account in
    let teller = length-digits 8 r.teller in
    let branch = length-digits 6 r.branch in
    let number = length-digits 10 r.number in
    let delta = length-signed 10 r.delta in
    omega (arith, length-append {A = ℕ})

-- what is spelled is read, without a reference
pub fields_again : (r : RequestFields) (bytes : List ℕ) → IsRequest r → bytes ≡ fields_spelling r
    → fields_of bytes ≡ Ok (unreferenced r)
unfolding fields_spelling fields_of
fields_again r bytes h e =
    let from_number = digits 10 r.number ++ signed 10 r.delta in
    let from_branch = digits 6 r.branch ++ from_number in
    let from_teller = digits 8 r.teller ++ from_branch in
    let account = field_next 0 12 bytes (digits 12 r.account) from_teller e (length-digits 12 r.account) in
    let teller = field_next 12 8 bytes (digits 8 r.teller) from_branch account.1 (length-digits 8 r.teller) in
    let branch = field_next 20 6 bytes (digits 6 r.branch) from_number teller.1 (length-digits 6 r.branch) in
    let number = field_next 26 10 bytes (digits 10 r.number) (signed 10 r.delta) branch.1
    (length-digits 10 r.number) in
    let delta : take 11 (drop 36 bytes) ≡ signed 10 r.delta =
    last_field 36 11 bytes (signed 10 r.delta) number.1 (length-signed 10 r.delta) in
    rw (
      number_again MAX_ACCOUNT 12 r.account bad.Account (take 12 (drop 0 bytes)) account.0
          (omega (arith, h.account)) h.account_above h.account,
      number_again MAX_TELLER 8 r.teller bad.Teller (take 8 (drop 12 bytes)) teller.0
          (omega (arith, h.teller)) h.teller_above h.teller,
      number_again MAX_BRANCH 6 r.branch bad.Branch (take 6 (drop 20 bytes)) branch.0
          (omega (arith, h.branch)) h.branch_above h.branch,
      number_again MAX_NUMBER 10 r.number bad.Number (take 10 (drop 26 bytes)) number.0
          (omega (arith, h.number)) h.number_above h.number,
      signed_again 10 r.delta (take 11 (drop 36 bytes)) delta (omega (arith, h.delta)),
    ) refl

-- what is read is spelled so, in range and without a reference
pub fields_take : (r : RequestFields) (bytes : List ℕ) → length bytes ≡ 47 → fields_of bytes ≡ Ok r
    → (bytes ≡ fields_spelling r) × IsShownRequest r
unfolding fields_spelling fields_of
fields_take r bytes len e =
    let account = step_takes (number_at MAX_ACCOUNT bad.Account (take 12 (drop 0 bytes))) _ r e in
    let teller = step_takes (number_at MAX_TELLER bad.Teller (take 8 (drop 12 bytes))) _ r account.2 in
    let branch = step_takes (number_at MAX_BRANCH bad.Branch (take 6 (drop 20 bytes))) _ r teller.2 in
    let number = step_takes (number_at MAX_NUMBER bad.Number (take 10 (drop 26 bytes))) _ r branch.2 in
    let delta = step_takes (ok_or (signed_of (take 11 (drop 36 bytes))) bad.Delta) _ r number.2 in
    let a = number_at-takes MAX_ACCOUNT 12 account.0 bad.Account (take 12 (drop 0 bytes))
    (field_length 0 12 bytes (omega arith)) account.1 in
    let t = number_at-takes MAX_TELLER 8 teller.0 bad.Teller (take 8 (drop 12 bytes))
    (field_length 12 8 bytes (omega arith)) teller.1 in
    let b = number_at-takes MAX_BRANCH 6 branch.0 bad.Branch (take 6 (drop 20 bytes))
    (field_length 20 6 bytes (omega arith)) branch.1 in
    let n = number_at-takes MAX_NUMBER 10 number.0 bad.Number (take 10 (drop 26 bytes))
    (field_length 26 10 bytes (omega arith)) number.1 in
    let d = signed_takes 10 delta.0 (take 11 (drop 36 bytes)) (field_length 36 11 bytes (omega arith))
    (ok_or_some (signed_of (take 11 (drop 36 bytes))) bad.Delta delta.0 delta.1) in
    let r-is : record {
      account = account.0;
      teller = teller.0;
      branch = branch.0;
      number = number.0;
      delta = delta.0;
      reference = None;
    } ≡ r =
    let h = delta.2 in cc in
    let from_delta : drop 36 bytes ≡ signed 10 delta.0 = last_joined 36 11 bytes
    (signed 10 delta.0) len d.0 in
    let from_number = field_joined 26 10 bytes (digits 10 number.0) _ n.0 from_delta in
    let from_branch = field_joined 20 6 bytes (digits 6 branch.0) _ b.0 from_number in
    let from_teller = field_joined 12 8 bytes (digits 8 teller.0) _ t.0 from_branch in
    let from_account = field_joined 0 12 bytes (digits 12 account.0) _ a.0 from_teller in
    subst (λ (y : RequestFields). (bytes ≡ fields_spelling y) × IsShownRequest y) r-is (
      from_account,
      (
        record {
          account_above = a.1;
          account = a.2;
          teller_above = t.1;
          teller = t.2;
          branch_above = b.1;
          branch = b.2;
          number_above = n.1;
          number = n.2;
          delta = omega (arith, d.1);
          reference = tt;
        },
        refl,
      ),
    )
