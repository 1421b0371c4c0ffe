-- Values that are known under keys: whatever is known stays so.
use Rattle.std.proofs.Common.{◌≡◌, ◌⊎◌, ◌∙◌, ℕ, ℤ, pos, false, nat_eq, Some, None, Option, sym, subst, inl}
use Rattle.std.proofs.Common.{inr, arith}
use Rattle.std.proofs.Math.Logic.{∥∥₁_elim, ∥∥₁_map}
use Rattle.std.specs.Coded.{coded_bool}
use Rattle.std.specs.Prelude.{◌≢◌, ◌≤ℤ◌, IfSome, int_lt}
use Rattle.std.proofs.lemmas.{Bool.Decides.nat_tests, Bool.cases_Bool, Bool.eqb-true, Int.ints}
use base.Stored.{Coded-set}
use Rattle.posting_rules.specs.declared.rows.FloorRow.{FloorRow}
use Rattle.bank_transactions.specs.Known.{Knows, KnowsNothing, known_under}
use Rattle.bank_transactions.specs.declared.known_rows.table.Known.{Known}
use Rattle.bank_transactions.specs.KnownRows.{AllKnown, AreLow}

module _ {V : Type 0} where
  none_known : (v : V) → ◌≡◌ {A = Option V} None (Some v) → ⊥
  none_known v is = cc

  -- nothing
  pub known_none : (So : ℕ → V → Type 0) (known : Known V) → KnowsNothing known → AllKnown known So
  known_none So known none k v is = absurd (none_known v (sym (none k) ∙ is))

  -- what is told is so
  pub told_known : (So : ℕ → V → Type 0) (known : Known V) (key : ℕ) (found : Option V) → found ≡ known_under known key
      → AllKnown known So → IfSome found (So key)
  told_known So known key None is all = tt
  told_known So known key (Some v) is all = all key v (sym is)

  module _ (So Now : ℕ → V → Type 0) (key : ℕ) (still : (k : ℕ) (v : V) → k ≢ key → So k v → Now k v) where
    -- a value was noted
    pub known_put : (old new : Known V) (value : V)
        → ((k : ℕ) (v : V) → Knows new k v → ((k ≡ key) × (v ≡ value)) ⊎ ((k ≢ key) × Knows old k v))
        → Now key value → AllKnown old So → AllKnown new Now
    known_put old new value put now all k v is = elim (put k v is) [
      | inl same ↦ subst (λ (j : ℕ). Now j v) (sym same.0) (subst (λ (w : V). Now key w) (sym same.1) now)
      | inr other ↦ still k v other.0 (all k v other.1)
    ]

    -- nothing was known under the key
    pub known_apart : (known : Known V) → known_under known key ≡ None → AllKnown known So → AllKnown known Now
    known_apart known none all k v is = elim (cases_Bool (nat_eq k key)) [
      | inl same ↦ absurd (none_known v
          (sym none ∙ subst (λ (j : ℕ). known_under known j ≡ Some v) (eqb-true k key same) is))
      | inr other ↦
          let apart : k ≢ key = grind (arith, nat_tests) in
          still k v apart (all k v is)
    ]

-- ---- floors

not_positive : (z : ℤ) → int_lt (pos 0) z ≡ false → z ≤ℤ pos 0
not_positive z is = grind (arith, ints)

low_enough : (z : ℤ) → z ≤ℤ pos 0 → int_lt (pos 0) z ≡ false
low_enough z le = grind (arith, ints)

-- one that is known isn't above zero
pub low_known : (floors : Known (Option FloorRow)) → ∥ AreLow floors ∥₁ → (key : ℕ) (found : Option (Option FloorRow))
    → found ≡ known_under floors key → IfSome found (λ row. IfSome row (λ r. r.lowest ≤ℤ pos 0))
low_known floors low key None is = tt
low_known floors low key (Some None) is = tt
low_known floors low key (Some (Some r)) is = not_positive r.lowest
    (∥∥₁_elim low (Coded-set coded_bool (int_lt (pos 0) r.lowest) false) (λ all. low_enough r.lowest (all key (Some r) (sym is))))

-- nor one more
pub low_noted : (old new : Known (Option FloorRow)) (key : ℕ) (row : Option FloorRow)
    → ((k : ℕ) (v : Option FloorRow) → Knows new k v → ((k ≡ key) × (v ≡ row)) ⊎ ((k ≢ key) × Knows old k v))
    → IfSome row (λ r. r.lowest ≤ℤ pos 0) → ∥ AreLow old ∥₁ → ∥ AreLow new ∥₁
low_noted old new key row put low it = ∥∥₁_map it (known_put _ _ key (λ k v other so. so) old new row put low)
