-- Keys that rise.
use Rattle.std.proofs.Common.{◌≡◌, ◌≤ℤ◌, ◌+ℤ◌, ℤ, pos, List, [], ◌∷◌, ◌++◌, map, true, Some, None, Option}
use Rattle.std.proofs.Common.{int_cmp, arith}
use Rattle.std.specs.Ordering.{is_ge}
use Rattle.std.proofs.lemmas.Int.{ints}
use Rattle.walked_rows.specs.Rising.{RisesFrom}

pub le_itself : (a : ℤ) → a ≤ℤ a
le_itself a = omega (arith, ints)

le_le : (a b c : ℤ) → a ≤ℤ b → b ≤ℤ c → a ≤ℤ c
le_le a b c one two = omega (arith, ints)

-- what the test of a key says
pub le_from : (a b : ℤ) → is_ge (int_cmp a b) ≡ true → b ≤ℤ a
le_from a b is = grind (arith, ints)

module _ {R : Type 0} (key : R → ℤ) where
  abbrev Rises : ℤ → List R → Option ℤ → Type 0
  Rises from rs rest = RisesFrom from (map key rs) rest

  -- one more key, which isn't below where the others follow
  pub one_more : (from : ℤ) (rs : List R) (r : R) (next : ℤ) → Rises from rs (Some next) → next ≤ℤ key r
      → Rises from (rs ++ r ∷ []) (Some (key r +ℤ pos 1))
  one_more from [] r next rises low = (le_le from next (key r) rises low, le_itself (key r +ℤ pos 1))
  one_more from (s ∷ rs) r next rises low = (rises.0, one_more (key s +ℤ pos 1) rs r next rises.1 low)

  -- the others follow from further on, or none do
  pub rest_after : (from : ℤ) (rs : List R) (next : ℤ) (rest : Option ℤ) → Rises from rs (Some next)
      → RisesFrom next [] rest → Rises from rs rest
  rest_after from [] next None rises more = tt
  rest_after from [] next (Some k) rises more = le_le from next k rises more
  rest_after from (s ∷ rs) next rest rises more =
      (rises.0, rest_after (key s +ℤ pos 1) rs next rest rises.1 more)

  -- from a lower number on
  pub from_lower : (low from : ℤ) (rs : List R) (rest : Option ℤ) → low ≤ℤ from → Rises from rs rest
      → Rises low rs rest
  from_lower low from [] None below rises = tt
  from_lower low from [] (Some k) below rises = le_le low from k below rises
  from_lower low from (s ∷ rs) rest below rises = (le_le low from (key s) below rises.0, rises.1)
