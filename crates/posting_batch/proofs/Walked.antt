-- A walk that changes the slots that a test tells.
use Rattle.std.proofs.Common.{◌≡◌, ℕ, ◌+◌, ◌<◌, Bool, true, false, cond, List, ◌++◌, length, map, take, drop}
use Rattle.std.proofs.Common.{set, get_or, sym, ap, refl, ◌∙◌}
use Rattle.std.proofs.lemmas.List.Edits.{map_over_more}

module _ {S : Type 0} (test : S → Bool) (change : S → S) (xs ys zs : List S) (i : ℕ) (x : S) where
  abbrev each : S → S
  each s = cond (test s) (change s) s

  abbrev so_far : Type 0
  so_far = ys ≡ map each (take i xs) ++ drop i xs

  abbrev one_more : Type 0
  one_more = zs ≡ map each (take (i + 1) xs) ++ drop (i + 1) xs

  -- one slot more, which passes
  pub walk_hit : i < length xs → so_far → x ≡ get_or ys i x → test (get_or ys i x) ≡ true
      → zs ≡ set ys i (change (get_or ys i x)) → one_more
  walk_hit lt before is hit e =
      let y = get_or ys i x in
      let changes : each y ≡ change y = rw hit refl in
      e ∙ ap (λ (s : S). set ys i s) (sym changes ∙ ap each (sym is))
      ∙ map_over_more each xs ys i x lt before is

  -- and one that does not
  pub walk_miss : i < length xs → so_far → x ≡ get_or ys i x → test (get_or ys i x) ≡ false
      → zs ≡ set ys i (get_or ys i x) → one_more
  walk_miss lt before is miss e =
      let y = get_or ys i x in
      let stays : each y ≡ y = rw miss refl in
      e ∙ ap (λ (s : S). set ys i s) (sym stays ∙ ap each (sym is))
      ∙ map_over_more each xs ys i x lt before is
