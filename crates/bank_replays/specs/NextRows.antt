-- What two rows that come next say, and the rows under a key.
use Rattle.std.specs.Prelude.{◌≡◌, ◌≢◌, ◌⊎◌, ◌≤ℤ◌, ◌<ℤ◌, ℤ, List, [], ◌∷◌, find}
use Rattle.std.specs.Ordering.{int_cmp, int_eq}
use Rattle.std.specs.declared.cmp.Ordering.TheVariants.{Less}
use Rattle.std.specs.Prelude.{Option, Some, None, IsSome, option_map}
use Rattle.std.specs.List.{AllByRecursion}
use Rattle.sqlite.specs.Tree.{IsAscending}
use Rattle.bank_replays.specs.declared.compared.Step.{Step}
use Rattle.bank_replays.specs.declared.compared.Step.TheVariants.{Differs, Ended, Same}
use Rattle.bank_replays.specs.declared.difference.Difference.{Difference}
use Rattle.bank_replays.specs.declared.difference.Sides.{Sides}

module _ {X : Type 0} (key : X → ℤ) where
  -- the row under a key
  abbrev pub under : List X → ℤ → Option X
  under rows k = find (λ x. int_eq (key x) k) rows

  -- each key is above the keys before it
  abbrev pub HaveRisingKeys : List X → Type 0
  HaveRisingKeys = IsAscending (λ a b. int_cmp (key a) (key b) ≡ Less)

  -- no key is below this one
  abbrev pub HaveKeysFrom : ℤ → List X → Type 0
  HaveKeysFrom k = AllByRecursion (λ x. k ≤ℤ key x)

  -- Of two tables these stand under one key, or none where there is no row; they differ; and under each key before it
  -- the two have the same row.
  pub record DifferFirst (rows others : List X) (stands due : Option X) : Type 0 where
    pub at : ℤ
    pub stands_at : stands ≡ under rows at
    pub due_at : due ≡ under others at
    pub differ : stands ≢ due
    pub before : (k : ℤ) → k <ℤ at → under rows k ≡ under others k

  module _ {R : Type 0} (item : R → X) where
    -- the row that comes next, if one does
    abbrev pub next_of : Option R → List X
    next_of None = []
    next_of (Some r) = item r ∷ []

    -- these are the rows under the lesser of the keys of what comes next, and they differ
    pub record AreFirst (stands due : Option R) (s : Sides R) : Type 0 where
      pub at : ℤ
      pub stands_at : option_map item s.stands ≡ under (next_of stands) at
      pub due_at : option_map item s.due ≡ under (next_of due) at
      pub from : HaveKeysFrom at (next_of stands)
      pub from_due : HaveKeysFrom at (next_of due)
      pub one : IsSome s.stands ⊎ IsSome s.due
      pub differ : option_map item s.stands ≢ option_map item s.due

    -- They are one row; or there is none on either side; or they differ, and the difference says so.
    abbrev pub Sets : (Difference → Sides R → Type 0) → Option R → Option R → Step → Type 0
    Sets Says stands due Same =
        (a : R) × (b : R) × (stands ≡ Some a) × (due ≡ Some b) × (item a ≡ item b)
    Sets Says stands due Ended = (stands ≡ None) × (due ≡ None)
    Sets Says stands due (Differs d) = (s : Sides R) × AreFirst stands due s × Says d s
