-- Small facts about what was looked up.
use Rattle.std.proofs.Common.{◌≡◌, ℕ, ℤ, Bool, true, false, cond, nat_eq, refl, arith, ◌≤◌, ap, ◌∙◌, w64, to_z, of_z}
use Rattle.std.proofs.Common.{pos, ◌≤ℤ◌, FitsSigned}
use Rattle.std.specs.Prelude.{neg_ℤ}
use Rattle.std.proofs.lemmas.Int.{ints, to_z_pos, to_z-of_z}
use Rattle.sqlite.specs.declared.types.Value.{Value, TheVariants.Int}
use Rattle.message_records.specs.declared.limits.TheConstants.{MAX_BALANCE}
use Rattle.store_rows.specs.declared.statements.TheConstants.{MAX_KEY}

-- one row was met or none
pub one_written : (count : ℕ) (b : Bool) → count ≡ cond b 1 0 → nat_eq count 1 ≡ b
one_written count true h = rw h refl
one_written count false h = rw h refl

-- a number of at most twelve digits is the same as an `i64`
pub as_integer : (n k : ℕ) → n ≡ k → n ≤ MAX_KEY → to_z w64 n ≡ pos k
as_integer n k same low = to_z_pos w64 n (omega arith) ∙ ap pos same

fits : (z : ℤ) → neg_ℤ (pos MAX_BALANCE) ≤ℤ z → z ≤ℤ pos MAX_BALANCE → FitsSigned w64 z
fits z least most = omega (arith, ints)

-- so is an amount
pub as_amount : (z y : ℤ) → z ≡ y → neg_ℤ (pos MAX_BALANCE) ≤ℤ z → z ≤ℤ pos MAX_BALANCE
    → to_z w64 (of_z w64 z) ≡ y
as_amount z y same least most = to_z-of_z w64 z (fits z least most) ∙ same

-- ---- the value that is handed in for a column

pub whole_column : {v : Value} {n k : ℕ} → v ≡ Int (to_z w64 n) → n ≡ k → n ≤ MAX_KEY → v ≡ Int (pos k)
whole_column is same low = is ∙ ap (λ z. Int z) (as_integer _ _ same low)

pub amount_column : {v : Value} {z y : ℤ} → v ≡ Int (to_z w64 (of_z w64 z)) → z ≡ y
    → neg_ℤ (pos MAX_BALANCE) ≤ℤ z → z ≤ℤ pos MAX_BALANCE
    → v ≡ Int y
amount_column is same least most = is ∙ ap (λ z. Int z) (as_amount _ _ same least most)
