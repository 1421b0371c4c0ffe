-- What has keys of 64 bits.
use Rattle.std.proofs.Common.{◌≡◌, ℤ, List, [], ◌∷◌, filter, cond, Bool, true, false, refl, ap}
use Rattle.walked_rows.specs.Rows.{HaveKeys, LEAST, items_from}

module _ {X : Type 0} (key : X → ℤ) where
  -- from the least number on all are to come
  pub all_left : (items : List X) → HaveKeys key items → items_from key LEAST items ≡ items
  all_left [] all = refl
  all_left (x ∷ items) all = rw all.0 (ap (λ l. x ∷ l) (all_left items all.1))

  -- those that pass a test have such keys too
  pub keys_filter : (p : X → Bool) (items : List X) → HaveKeys key items → HaveKeys key (filter p items)
  keys_filter p [] all = all
  keys_filter p (x ∷ items) all = go (p x) (keys_filter p items all.1)
    where
      go : (b : Bool) → HaveKeys key (filter p items)
          → HaveKeys key (cond b (x ∷ filter p items) (filter p items))
      go true more = (all.0, more)
      go false more = more
