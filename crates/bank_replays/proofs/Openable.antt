-- Which branches can be opened.
use Rattle.std.proofs.Common.{◌≡◌, ◌≤◌, ℕ, Bool, true, false, Option, Some, None, refl, sym, inl, inr, arith}
use Rattle.std.specs.Prelude.{◌⊎◌, ◌&&◌, ◌≤ℤ◌, ℤ, pos, IfSome, int_lt, nat_abs, nat_le, not}
use Rattle.std.proofs.lemmas.{Bool.and_parts, Bool.cases_Bool, Int.ints}
use Rattle.message_records.specs.declared.limits.TheConstants.{MAX_BALANCE}
use Rattle.posting_rules.specs.believed.Commands.{IsCommand, IsFloor, Open, opened_with}
use Rattle.posting_rules.specs.declared.limits.TheConstants.{LAST_BRANCH, MAX_ACCOUNTS}
use Rattle.bank_replays.specs.Refilling.{can_open, is_floor, terms_of}
use Rattle.bank_replays.specs.declared.refill.Planned.{Planned}

le_of : (m n : ℕ) → nat_le m n ≡ true → m ≤ n
le_of m n is = grind (arith, is)

of_le : (m n : ℕ) → m ≤ n → nat_le m n ≡ true
of_le m n few = grind (arith, few)

not_true : (b : Bool) → not b ≡ true → b ≡ false
not_true true is = sym is
not_true false is = refl

floor_is : (floor : Option ℤ) → is_floor floor ≡ true → IfSome floor IsFloor
floor_is None is = tt
floor_is (Some z) is =
    let both = and_parts (not (int_lt (pos 0) z)) (nat_le (nat_abs z) MAX_BALANCE) is in
    let low = not_true (int_lt (pos 0) z) both.0 in
    (grind (arith, ints, low), le_of (nat_abs z) MAX_BALANCE both.1)

is_floor_of : (floor : Option ℤ) → IfSome floor IsFloor → is_floor floor ≡ true
is_floor_of None is = refl
is_floor_of (Some z) is =
    let low : int_lt (pos 0) z ≡ false = (let not_above = is.0 in grind (arith, ints, not_above)) in
    rw (low, of_le (nat_abs z) MAX_BALANCE is.1) refl

can : (b : ℕ) (yet : Planned) → can_open b yet ≡ true → IsCommand (Open b (opened_with yet.accounts yet.floor))
can b yet is =
    let one = and_parts (nat_le 1 b) _ is in
    let two = and_parts (nat_le b LAST_BRANCH) _ one.1 in
    let three = and_parts (nat_le 1 yet.accounts) _ two.1 in
    let four = and_parts (nat_le yet.accounts MAX_ACCOUNTS) (is_floor yet.floor) three.1 in (
      le_of 1 b one.0,
      le_of b LAST_BRANCH two.0,
      le_of 1 yet.accounts three.0,
      le_of yet.accounts MAX_ACCOUNTS four.0,
      floor_is yet.floor four.1,
    )

can_of : (b : ℕ) (yet : Planned) → IsCommand (Open b (opened_with yet.accounts yet.floor)) → can_open b yet ≡ true
can_of b yet (low, high, some, few, floor) =
    rw (of_le 1 b low, of_le b LAST_BRANCH high, of_le 1 yet.accounts some, of_le yet.accounts MAX_ACCOUNTS few)
    (is_floor_of yet.floor floor)

pub terms_some : (b : ℕ) (yet : Planned) → IsCommand (Open b (opened_with yet.accounts yet.floor))
    → terms_of b yet ≡ Some (opened_with yet.accounts yet.floor)
terms_some b yet is = rw (can_of b yet is) refl

pub terms_none : (b : ℕ) (yet : Planned) → (IsCommand (Open b (opened_with yet.accounts yet.floor)) → ⊥)
    → terms_of b yet ≡ None
terms_none b yet cannot = elim (cases_Bool (can_open b yet)) [
  | inl t ↦ absurd (cannot (can b yet t))
  | inr f ↦ rw f refl
]

-- one of the two
pub opens_or_not : (b : ℕ) (yet : Planned)
    → (IsCommand (Open b (opened_with yet.accounts yet.floor)) × (terms_of b yet ≡ Some (opened_with yet.accounts yet.floor)))
    ⊎ ((IsCommand (Open b (opened_with yet.accounts yet.floor)) → ⊥) × (terms_of b yet ≡ None))
opens_or_not b yet = elim (cases_Bool (can_open b yet)) [
  | inl t ↦ inl (can b yet t, terms_some b yet (can b yet t))
  | inr f ↦ inr (λ is. let t = can_of b yet is in cc (t, f), rw f refl)
]
