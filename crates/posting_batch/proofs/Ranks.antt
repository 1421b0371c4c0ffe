-- A slot is placed where its rank is.
use Rattle.std.proofs.Common.{◌≡◌, ℕ, zero, suc, ◌<◌, ◌≤◌, Bool, true, false, List, [], ◌∷◌, length, get_or}
use Rattle.std.proofs.Common.{refl, sym, ap, ◌∙◌, arith, inl, inr}
use Rattle.std.specs.List.{insert}
use Rattle.posting_rules.proofs.Keyed.{by_test}
use Rattle.posting_batch.specs.Placed.{placed, rank}

module _ {S : Type 0} (below same : S → S → Bool) (e : S) where
  -- the slot at the rank has the key: all stay
  pub placed_hit : (xs : List S) (b : ℕ) (x : S) → b ≡ rank below e xs → b < length xs → x ≡ get_or xs b x
      → same x e ≡ true → xs ≡ placed below same e xs
  placed_hit [] b x at lt is hit = absurd (omega arith)
  placed_hit (y ∷ ys) b x at lt is hit =
      elim (by_test (below y e)) [
        | inl t ↦
            let next : b ≡ suc (rank below e ys) = (let h = rw t at at in h) in
            let there : x ≡ get_or ys (rank below e ys) x = is ∙ ap (λ (j : ℕ). get_or (y ∷ ys) j x) next in
            rw t (ap (λ zs. y ∷ zs) (placed_hit ys (rank below e ys) x refl (omega arith) there hit))
        | inr f ↦
            let first : b ≡ zero = (let h = rw f at at in h) in
            let here : x ≡ y = is ∙ ap (λ (j : ℕ). get_or (y ∷ ys) j x) first in
            let u : same y e ≡ true = ap (λ (s : S). same s e) (sym here) ∙ hit in
            rw (f, u) refl
      ]

  -- it has another: the new one goes before it
  pub placed_miss : (xs : List S) (b : ℕ) (x : S) → b ≡ rank below e xs → b < length xs → x ≡ get_or xs b x
      → same x e ≡ false
      → insert xs b e ≡ placed below same e xs
  placed_miss [] b x at lt is miss = absurd (omega arith)
  placed_miss (y ∷ ys) b x at lt is miss =
      elim (by_test (below y e)) [
        | inl t ↦
            let next : b ≡ suc (rank below e ys) = (let h = rw t at at in h) in
            let there : x ≡ get_or ys (rank below e ys) x = is ∙ ap (λ (j : ℕ). get_or (y ∷ ys) j x) next in
            ap (λ (j : ℕ). insert (y ∷ ys) j e) next ∙ rw t
            (ap (λ zs. y ∷ zs) (placed_miss ys (rank below e ys) x refl (omega arith) there miss))
        | inr f ↦
            let first : b ≡ zero = (let h = rw f at at in h) in
            let here : x ≡ y = is ∙ ap (λ (j : ℕ). get_or (y ∷ ys) j x) first in
            let u : same y e ≡ false = ap (λ (s : S). same s e) (sym here) ∙ miss in
            ap (λ (j : ℕ). insert (y ∷ ys) j e) first ∙ rw (f, u) refl
      ]

  -- there is none: the new one goes after all
  pub placed_last : (xs : List S) (b : ℕ) → b ≡ rank below e xs → length xs ≤ b
      → insert xs b e ≡ placed below same e xs
  placed_last [] b at le = ap (λ (j : ℕ). insert [] j e) at
  placed_last (y ∷ ys) b at le =
      elim (by_test (below y e)) [
        | inl t ↦
            let next : b ≡ suc (rank below e ys) = (let h = rw t at at in h) in
            ap (λ (j : ℕ). insert (y ∷ ys) j e) next ∙ rw t
            (ap (λ zs. y ∷ zs) (placed_last ys (rank below e ys) refl (omega arith)))
        | inr f ↦ absurd (let h = rw f at at in omega arith)
      ]
