-- What the table of cases says of a request after a log, by what stands before it.
use Rattle.std.proofs.Common.{◌≡◌, ◌≢◌, ℕ, ◌<◌, ◌≤◌, Bool, true, false, cond, eqb, leb, List, length, Some, None}
use Rattle.std.proofs.Common.{refl, sym, ap, subst, ◌∙◌, arith, inl, inr}
use Rattle.std.specs.Prelude.{ℤ, ◌+ℤ◌, ◌≤ℤ◌, nat_abs, ◌⊎◌, ◌&&◌, Option, IfSome, int_lt}
use Rattle.std.specs.Ordering.{int_eq}
use Rattle.std.proofs.lemmas.{Bool.eqb-true, Bool.eq-eqb, Bool.leb-true, Bool.le-leb, Bool.Decides.nat_tests}
use Rattle.std.proofs.lemmas.{Bool.Decides.Decides-int_eq, Int.ints, Slice.Eq.bytes_eq-Decides}
use Rattle.posting_rules.specs.declared.{limits.TheConstants.MAX_DECIDED, judgments.Verdict.Verdict}
use Rattle.message_records.specs.declared.limits.TheConstants.{MAX_BALANCE}
use Rattle.message_records.specs.declared.records.Outcome.TheVariants as outcome
use Rattle.message_records.specs.believed.{Ranges.cents_within, Records.RequestFields}
use Rattle.posting_rules.specs.declared.judgments.Verdict.TheVariants.{Unkept, Again, Refused, Posted}
use Rattle.posting_rules.specs.believed.Commands.{Command, opened, is_teller_open, is_account_open, floor_of}
use Rattle.posting_rules.specs.believed.{Numbering.branch_of_teller, Numbering.branch_of_account, Kept.KeptFields}
use Rattle.posting_rules.specs.believed.Cases.{case_of, new_case, posting_of, plus_within, is_below, is_same}
use Rattle.posting_rules.specs.believed.Cases.{is_same_reference, kept_reply}
use Rattle.posting_rules.specs.believed.Entries.{facts, kept, account_balance, teller_balance, branch_balance}
use Rattle.posting_rules.specs.believed.Entries.{decided}
use Rattle.posting_rules.specs.Stated.{IsDecided, IsWithin, StaysAbove, IsPosted, HasContent}
use Rattle.posting_rules.proofs.{Keyed.by_test, Verdicts.is_above}
use Rattle.posting_rules.specs.believed.Closings.{closings, closed, sealed}

-- ---- tests, and what they mean

over : (z : ℤ) → (IsWithin z → ⊥) → cents_within MAX_BALANCE z ≡ None
over z h = elim (by_test (leb (nat_abs z) MAX_BALANCE))
    [ inl t ↦ absurd (h (leb-true _ _ t)) | inr f ↦ rw f refl ]

within : (z : ℤ) → IsWithin z → cents_within MAX_BALANCE z ≡ Some z
within z h = rw (le-leb _ _ h) refl

-- which of the three stays within
pub by_limit : (z : ℤ) → IsWithin z ⊎ (IsWithin z → ⊥)
by_limit z = elim (by_test (leb (nat_abs z) MAX_BALANCE)) [
  | inl t ↦ inl (leb-true _ _ t)
  | inr f ↦ inr
      (λ h. let t = le-leb (nat_abs z) MAX_BALANCE h in absurd (let g = sym f ∙ t in cc))
]

-- a balance is below a floor, or it isn't
goes_below : (floor : Option ℤ) (z : ℤ) → (IfSome floor (λ l. l ≤ℤ z) → ⊥) → is_below floor z ≡ true
goes_below floor z h =
    elim (by_test (is_below floor z)) [ inl t ↦ t | inr f ↦ absurd (h (is_above floor z f)) ]

stays_up : (floor : Option ℤ) (z : ℤ) → IfSome floor (λ l. l ≤ℤ z) → is_below floor z ≡ false
stays_up None z h = refl
stays_up (Some l) z h = elim (by_test (int_lt z l)) [ inl t ↦ absurd (omega (arith, ints)) | inr f ↦ f ]

not_same : (m n : ℕ) → (m ≡ n → ⊥) → eqb m n ≡ false
not_same m n h = grind (arith, nat_tests)

-- references, or their absence, that the test finds the same
same_reference : (one other : Option (List ℕ)) → is_same_reference one other ≡ true → one ≡ other
same_reference None None e = refl
same_reference None (Some other) e = absurd cc
same_reference (Some one) None e = absurd cc
same_reference (Some one) (Some other) e = ap Some ((bytes_eq-Decides one other).0 e)

pub its_own_reference : (one : Option (List ℕ)) → is_same_reference one one ≡ true
its_own_reference None = refl
its_own_reference (Some one) = (bytes_eq-Decides one one).1 refl

all_pass : (a b c d : Bool) → a ≡ true → b ≡ true → c ≡ true → d ≡ true → (a && (b && (c && d))) ≡ true
all_pass a b c d ea eb ec ed = rw (ea, eb, ec, ed) refl

pub same_content : (k : KeptFields) (r : RequestFields) → HasContent k r → is_same k r ≡ true
same_content k r h =
    let kept = k.decision in
    all_pass (eqb kept.account r.account) (eqb kept.branch r.branch) (int_eq kept.delta r.delta)
    (is_same_reference k.reference r.reference)
    (eq-eqb _ _ h.account) (eq-eqb _ _ h.branch) ((Decides-int_eq kept.delta r.delta).1 h.delta)
    (subst (λ o. is_same_reference k.reference o ≡ true) h.reference (its_own_reference k.reference))

each_passes : (a b c d : Bool) → (a && (b && (c && d))) ≡ true
    → (a ≡ true) × (b ≡ true) × (c ≡ true) × (d ≡ true)
each_passes true true true d e = (refl, refl, refl, e)
each_passes true true false d e = absurd cc
each_passes true false c d e = absurd cc
each_passes false b c d e = absurd cc

pub other_content : (k : KeptFields) (r : RequestFields) → (HasContent k r → ⊥) → is_same k r ≡ false
other_content k r h =
    let kept = k.decision in
    elim (by_test (is_same k r)) [
      | inl t ↦ let each = each_passes (eqb kept.account r.account) (eqb kept.branch r.branch)
          (int_eq kept.delta r.delta) (is_same_reference k.reference r.reference) t in
          absurd (h (record {
            account = eqb-true _ _ each.0;
            branch = eqb-true _ _ each.1;
            delta = (Decides-int_eq kept.delta r.delta).0 each.2;
            reference = same_reference k.reference r.reference each.3;
          }))
      | inr f ↦ f
    ]

-- ---- the verdict on a request, by what stands before it

module _ (before : List Command) (r : RequestFields) where
  abbrev pub verdict : Verdict
  verdict = case_of (facts (λ b. opened before b) (closings before) (decided before) r) r

  abbrev new_verdict : Verdict
  new_verdict = new_case (facts (λ b. opened before b) (closings before) (decided before) r) r
      (teller_balance (decided before) r.teller) (branch_balance (decided before) (branch_of_teller r.teller))

  pub no_teller : is_teller_open (λ b. opened before b) r.teller ≡ false → verdict ≡ Unkept outcome.NoTeller
  unfolding case_of
  no_teller h = rw h refl

  pub known : (k : KeptFields) → is_teller_open (λ b. opened before b) r.teller ≡ true
      → kept (decided before) r.teller r.number ≡ Some k
      → verdict ≡ cond (is_same k r) (Again (kept_reply k r)) (Unkept outcome.ReusedNumber)
  unfolding case_of
  known k h e = rw (h, e) refl

  pub is_closed : is_teller_open (λ b. opened before b) r.teller ≡ true
      → kept (decided before) r.teller r.number ≡ None → closed before r.teller r.number ≡ true
      → verdict ≡ Unkept outcome.Closed
  unfolding case_of
  is_closed h e c = rw (h, e, c) refl

  pub is_sealed : is_teller_open (λ b. opened before b) r.teller ≡ true
      → kept (decided before) r.teller r.number ≡ None → closed before r.teller r.number ≡ false
      → sealed before ≡ true → verdict ≡ Unkept outcome.Sealed
  unfolding case_of
  is_sealed h e c s = rw (h, e, c, s) refl

  pub new : is_teller_open (λ b. opened before b) r.teller ≡ true
      → kept (decided before) r.teller r.number ≡ None → closed before r.teller r.number ≡ false
      → sealed before ≡ false → verdict ≡ new_verdict
  unfolding case_of
  new h e c s = rw (h, e, c, s) refl

  pub full : MAX_DECIDED ≤ length (decided before) → new_verdict ≡ Unkept outcome.Full
  full h = rw (le-leb _ _ h) refl

  has_room : length (decided before) < MAX_DECIDED → leb MAX_DECIDED (length (decided before)) ≡ false
  has_room h = grind (arith, nat_tests)

  pub wrong_branch : length (decided before) < MAX_DECIDED → r.branch ≢ branch_of_teller r.teller
      → new_verdict ≡ Refused outcome.WrongBranch
  wrong_branch h ne = rw (has_room h, not_same _ _ ne) refl

  pub no_account : length (decided before) < MAX_DECIDED → r.branch ≡ branch_of_teller r.teller
      → is_account_open (λ b. opened before b) r.account ≡ false
      → new_verdict ≡ Refused outcome.NoAccount
  no_account h its closed = rw (has_room h, eq-eqb _ _ its, closed) refl

  abbrev sums : Verdict
  sums = posting_of (plus_within (account_balance (decided before) r.account) r.delta)
      (plus_within (teller_balance (decided before) r.teller) r.delta)
      (plus_within (branch_balance (decided before) (branch_of_teller r.teller)) r.delta)

  abbrev its_floor : Option ℤ
  its_floor = floor_of (λ b. opened before b) (branch_of_account r.account)

  abbrev its_balance : ℤ
  its_balance = account_balance (decided before) r.account +ℤ r.delta

  -- the account stays at or above its floor, or it doesn't
  pub by_floor : StaysAbove before r ⊎ (StaysAbove before r → ⊥)
  by_floor = elim (by_test (is_below its_floor its_balance)) [
    | inl t ↦ inr (λ h. absurd (let f = stays_up its_floor its_balance h in cc))
    | inr f ↦ inl (is_above its_floor its_balance f)
  ]

  pub below_floor : length (decided before) < MAX_DECIDED → r.branch ≡ branch_of_teller r.teller
      → is_account_open (λ b. opened before b) r.account ≡ true → (StaysAbove before r → ⊥)
      → new_verdict ≡ Refused outcome.BelowFloor
  below_floor h its open_a low =
      rw (has_room h, eq-eqb _ _ its, open_a, goes_below its_floor its_balance low) refl

  pub has_sums : length (decided before) < MAX_DECIDED → r.branch ≡ branch_of_teller r.teller
      → is_account_open (λ b. opened before b) r.account ≡ true → StaysAbove before r → new_verdict ≡ sums
  has_sums h its open_a above =
      rw (has_room h, eq-eqb _ _ its, open_a, stays_up its_floor its_balance above) refl

  posting : IsPosted before r → sums
      ≡ Posted (account_balance (decided before) r.account +ℤ r.delta)
      (teller_balance (decided before) r.teller +ℤ r.delta)
      (branch_balance (decided before) (branch_of_teller r.teller) +ℤ r.delta)
  posting p =
      let branch : IsWithin (branch_balance (decided before) (branch_of_teller r.teller) +ℤ r.delta) =
      subst (λ (b : ℕ). IsWithin (branch_balance (decided before) b +ℤ r.delta)) p.branch p.branch_limit in
      rw (
        within (account_balance (decided before) r.account +ℤ r.delta) p.account_limit,
        within (teller_balance (decided before) r.teller +ℤ r.delta) p.teller_limit,
        within (branch_balance (decided before) (branch_of_teller r.teller) +ℤ r.delta) branch,
      ) refl

  -- one of the three leaves its limit
  pub over_limit : r.branch ≡ branch_of_teller r.teller
      → is_account_open (λ b. opened before b) r.account ≡ true → StaysAbove before r
      → (IsPosted before r → ⊥) → sums ≡ Refused outcome.OverLimit
  over_limit its open_a above h =
      let a = account_balance (decided before) r.account +ℤ r.delta in
      let t = teller_balance (decided before) r.teller +ℤ r.delta in
      let b = branch_balance (decided before) (branch_of_teller r.teller) +ℤ r.delta in
      elim (by_limit a) [
        | inr f ↦ rw (over a f) refl
        | inl x ↦ elim (by_limit t) [
          | inr f ↦ rw (within a x, over t f) refl
          | inl y ↦ elim (by_limit b) [
            | inr f ↦ rw (within a x, within t y, over b f) refl
            | inl z ↦ absurd (h (record {
              branch = its;
              account = open_a;
              floor = above;
              account_limit = x;
              teller_limit = y;
              branch_limit = subst (λ (n : ℕ). IsWithin (branch_balance (decided before) n +ℤ r.delta))
                  (sym its) z;
            }))
          ]
        ]
      ]

  -- a decided request is posted, or it is refused and kept
  pub decided_verdict : (bytes : List ℕ) → IsDecided before bytes r → verdict ≡ new_verdict
  decided_verdict bytes d = new d.names.teller d.new d.unclosed d.unsealed

  pub posted_verdict : (bytes : List ℕ) → IsDecided before bytes r → IsPosted before r → verdict
      ≡ Posted (account_balance (decided before) r.account +ℤ r.delta)
      (teller_balance (decided before) r.teller +ℤ r.delta)
      (branch_balance (decided before) (branch_of_teller r.teller) +ℤ r.delta)
  posted_verdict bytes d p = decided_verdict bytes d ∙ has_sums d.room p.branch p.account p.floor ∙ posting p
