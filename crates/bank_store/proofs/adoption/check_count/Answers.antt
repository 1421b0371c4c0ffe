-- Whether the count is within its range.
use Rattle.std.proofs.Common.{◌≡◌, ◌<◌, ℕ, ℤ, pos, negsuc, nat_abs, true, false, rules, arith, refl, inl, inr}
use Rattle.std.specs.Prelude.{◌<ℤ◌, int_lt}
use Rattle.std.proofs.lemmas.Int.{ints}
use mir.Val.{to_z, of_z}
use mir.Syntax.{w64}
use Rattle.bank_store.proofs.adoption.check_count.Goals.{then-meta-lt0-via-then-meta-lt0}
use Rattle.bank_store.proofs.adoption.check_count.Goals.{then-meta-lt0-via-else-meta-lt0+then-meta-gt-MAX_DECIDED}
use Rattle.posting_rules.specs.declared.limits.TheConstants.{MAX_DECIDED}
use Rattle.bank_store.proofs.adoption.check_count.Goals as goal

below_zero : (z : ℤ) → int_lt z (pos 0) ≡ true → z <ℤ pos 0
below_zero (pos n) h = omega (arith, ints)
below_zero (negsuc n) h = omega (arith, ints)

beyond : (z : ℤ) (most : ℕ) → int_lt z (pos 0) ≡ false → most < nat_abs z → pos most <ℤ z
beyond (pos n) most h above = omega (arith, ints)
beyond (negsuc n) most h above = cc

not_below_zero : (z : ℤ) → int_lt z (pos 0) ≡ false → z ≡ pos (nat_abs z)
not_below_zero (pos n) h = refl
not_below_zero (negsuc n) h = cc

pub returns-then-meta-lt0 : goal.returns-then-meta-lt0
returns-then-meta-lt0 c =
    let m = c.args.meta.now in
    let same : to_z w64 (of_z w64 m.decided) ≡ m.decided = search rules in (
      refl,
      elim c.then-meta-lt0.branch [
        | then-meta-lt0-via-then-meta-lt0 w ↦ inl (below_zero m.decided (rw same at w.if-meta-lt0.true))
        | then-meta-lt0-via-else-meta-lt0+then-meta-gt-MAX_DECIDED w ↦
            inr (beyond m.decided MAX_DECIDED (rw same at w.if-meta-lt0.false)
            (rw same at w.if-meta-gt-MAX_DECIDED.true))
      ],
    )

pub returns : goal.returns
returns c =
    let m = c.args.meta.now in
    let same : to_z w64 (of_z w64 m.decided) ≡ m.decided = search rules in (
      nat_abs m.decided,
      not_below_zero m.decided (rw same at c.if-meta-lt0.false),
      rw same at c.if-meta-gt-MAX_DECIDED.false,
    )
