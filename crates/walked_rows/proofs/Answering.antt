-- The numbers of a kept row that were read are those of the request that it came as.
use Rattle.std.proofs.Common.{◌≡◌, ◌≤◌, ℕ, ℤ, pos, Bool, true, false, Option, Some, None, refl, sym, subst, arith}
use Rattle.std.proofs.lemmas.Bool.Decides.{nat_tests}
use Rattle.std.specs.Prelude.{nat_abs, nat_le, if◌then◌else◌, IfNone, IfSome}
use Rattle.message_records.specs.declared.limits.TheConstants.{MAX_ACCOUNT, MAX_BRANCH, MAX_DELTA, MAX_NUMBER}
use Rattle.message_records.specs.declared.limits.TheConstants.{MAX_BALANCE, MAX_TELLER}
use Rattle.message_records.specs.{Records.request_from, believed.Ranges.cents_within, believed.Records.RequestFields}
use Rattle.walked_rows.specs.{Came.CameAs, KeptRows.kept_item, Requests.IsRequestRow}
use Rattle.walked_rows.specs.declared.kept.KeptRequest.{KeptRequest}

le_of : (n m : ℕ) → nat_le n m ≡ true → n ≤ m
le_of n m is = grind (arith, nat_tests)

beyond_of : (n m : ℕ) → nat_le n m ≡ false → n ≤ m → ⊥
beyond_of n m is low = grind (arith, nat_tests)

if_some : {X : Type 0} (test : Bool) (x : X) (P : X → Type 0) → (test ≡ true → P x)
    → IfSome (if test then Some x else None) P
if_some true x P h = h refl
if_some false x P h = tt

if_none : {X : Type 0} (test : Bool) (x : X) (Q : Type 0) → (test ≡ false → Q)
    → IfNone (if test then Some x else None) Q
if_none true x Q h = tt
if_none false x Q h = h refl

-- an amount that is within the limit, and one that isn't
pub cents_are : (limit : ℕ) (z x : ℤ) → Some x ≡ cents_within limit z → (z ≡ x) × (nat_abs z ≤ limit)
cents_are limit z x is =
    subst (λ o. IfSome o (λ y. (z ≡ y) × (nat_abs z ≤ limit))) (sym is)
    (if_some (nat_le (nat_abs z) limit) z (λ y. (z ≡ y) × (nat_abs z ≤ limit))
    (λ within. (refl, le_of (nat_abs z) limit within)))

pub cents_beyond : (limit : ℕ) (z : ℤ) → None ≡ cents_within limit z → nat_abs z ≤ limit → ⊥
cents_beyond limit z is low =
    subst (λ o. IfNone o ⊥) (sym is)
    (if_none (nat_le (nat_abs z) limit) z ⊥ (λ beyond. beyond_of (nat_abs z) limit beyond low))

pub delta_beyond : (z : ℤ) → None ≡ cents_within MAX_BALANCE z → nat_abs z ≤ MAX_DELTA → ⊥
delta_beyond z is low = cents_beyond MAX_BALANCE z is (omega (arith, low))

-- the number was read as this one
abbrev pub Reads : ℕ → ℤ → ℕ → Type 0
Reads most z n = (z ≡ pos n) × (1 ≤ n) × (n ≤ most)

module _ (row : KeptRequest) (account teller branch number : ℕ) (delta : ℤ) (made : Option RequestFields)
    (read : row.request.delta ≡ delta)
    (is : made ≡ request_from account teller branch number delta row.reference) where
  abbrev fields : RequestFields
  fields = record {
    account = account;
    teller = teller;
    branch = branch;
    number = number;
    delta = delta;
    reference = row.reference;
  }

  pub request_made : Reads MAX_ACCOUNT row.request.account account → Reads MAX_TELLER row.request.teller teller
      → Reads MAX_BRANCH row.request.branch branch → Reads MAX_NUMBER row.request.number number
      → IfSome made (λ r. CameAs row r × IsRequestRow (kept_item row))
  request_made a t b n =
      subst (λ o. IfSome o (λ r. CameAs row r × IsRequestRow (kept_item row))) (sym is)
      (if_some (nat_le (nat_abs delta) MAX_DELTA) fields (λ r. CameAs row r × IsRequestRow (kept_item row)) (λ within. (
        record { account = a.0; teller = t.0; branch = b.0; number = n.0; delta = read; reference = refl },
        record {
          account = (account, a.0, a.1, a.2);
          teller = (teller, t.0, t.1, t.2);
          branch = (branch, b.0, b.1, b.2);
          number = (number, n.0, n.1, n.2);
          delta = subst (λ z. nat_abs z ≤ MAX_DELTA) (sym read) (le_of (nat_abs delta) MAX_DELTA within);
        },
      )))

  pub request_refused : IfNone made (IsRequestRow (kept_item row) → ⊥)
  request_refused =
      subst (λ o. IfNone o (IsRequestRow (kept_item row) → ⊥)) (sym is)
      (if_none (nat_le (nat_abs delta) MAX_DELTA) fields (IsRequestRow (kept_item row) → ⊥)
      (λ beyond of_row. beyond_of (nat_abs delta) MAX_DELTA beyond
      (subst (λ z. nat_abs z ≤ MAX_DELTA) read of_row.delta)))
