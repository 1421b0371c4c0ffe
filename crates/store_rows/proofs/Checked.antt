-- The CHECK of `meta`.
use Rattle.std.proofs.Common.{◌++◌, ◌≡◌, ◌⊎◌, inl, inr, ℤ, pos, true, false, List, [], ◌∷◌, map, Ordering, Less}
use Rattle.std.proofs.Common.{Equal, Greater, int_cmp, refl, sym, subst, arith}
use Rattle.std.specs.Ordering.{int_eq}
use Rattle.std.proofs.{lemmas.Bool.cases_Bool, lemmas.Int.ints, Math.Logic.∥∥₁_elim}
use Rattle.sqlite.specs.{Effect.Database, Effect.IsDatabase, Order.Row}
use Rattle.sqlite_rules.specs.Lists.{Has}
use Rattle.sqlite_rules.proofs.RuleLemmas.{keeps_at}
use Rattle.sqlite_schema.specs.{declared.schema.Constraint.TheVariants.Check, Rules.passes_checks}
use Rattle.sql_meanings.specs.believed.Entries.{Entry, numbers, stored, texts_held}
use Rattle.sql_meanings.specs.believed.Tables.{placed_at, tree_of}
use Rattle.sql_meanings.proofs.TablesBeside.{standing}
use Rattle.store_rows.specs.{View.HoldsRows, believed.BankTables.meta}
use Rattle.sqlite.specs.declared.types.Value.TheVariants.{Null, Int}
use Rattle.sqlite_tied.specs.Compute.{everything}
use Rattle.sqlite_sql.specs.Ops.{binary}
use Rattle.sqlite_value.specs.Order.{value_cmp}
use Rattle.sqlite_value.proofs.OrderLemmas.{value_cmp-Int}
use lib.Ieee.{is_nan, lt}

first_checked : (rest : Row) → passes_checks meta (Int (pos 1) ∷ rest) ≡ true
unfolding everything binary value_cmp is_nan lt
first_checked rest = refl

-- the row whose key is 1 passes the CHECK of `meta`
pub meta_checked : (key : ℤ) (rest : Row) → key ≡ pos 1 → passes_checks meta (Int key ∷ rest) ≡ true
meta_checked key rest is = subst (λ z. passes_checks meta (Int z ∷ rest) ≡ true) (sym is) (first_checked rest)

-- a row that passes it has the key 1
by_order : (key : ℤ) (rest : Row) (o : Ordering) → value_cmp (Int key) (Int (pos 1)) ≡ o
    → passes_checks meta (Int key ∷ rest) ≡ true → o ≡ Equal
unfolding everything binary
by_order key rest Less is h = absurd (let g = rw is at h in cc)
by_order key rest Equal is h = refl
by_order key rest Greater is h = absurd (let g = rw is at h in cc)

same_key : (key : ℤ) → int_cmp key (pos 1) ≡ Equal → int_eq key (pos 1) ≡ false → ⊥
same_key key is other = grind (arith, ints)

is_one : (key : ℤ) → int_eq key (pos 1) ≡ true → key ≡ pos 1
is_one key same = grind (arith, ints)

module _ (db : Database) (rows : List Entry) (has : HoldsRows db meta rows) where
  not_other : (e : Entry) → Has (map stored rows) (stored e) → int_eq e.key (pos 1) ≡ false → IsDatabase db
      → ⊥
  not_other e there other sound =
      let at = standing db meta refl ∣ sound ∣₁ has.holds.defined in
      let tree = tree_of db.schema meta.name in
      let passed : passes_checks meta (stored e)
      ≡ true = keeps_at Check db.schema db.trees (placed_at meta tree) (stored e)
      (sound.obeys.rules Check) at.stands.listed
      (subst (λ rs. Has rs (stored e)) (sym has.holds.rows.are) there) in
      same_key e.key (by_order e.key (Null ∷ (numbers e.values ++ texts_held e.texts)) (int_cmp e.key (pos 1))
      (value_cmp-Int e.key (pos 1)) passed) other

  has_key_one : (e : Entry) → Has (map stored rows) (stored e) → e.key ≡ pos 1
  has_key_one e there = elim (cases_Bool (int_eq e.key (pos 1))) [
    | inl same ↦ is_one e.key same
    | inr other ↦ absurd (∥∥₁_elim has.sound (λ x y. absurd x) (not_other e there other))
  ]

not_below : (a b : ℤ) → a ≡ pos 1 → b ≡ pos 1 → int_cmp a b ≡ Less → ⊥
not_below a b one two low = let h = rw (one, two) at low in cc

-- so `meta` has one row at most
pub one_at_most : (db : Database) (rows : List Entry) → HoldsRows db meta rows → (rows ≡ [])
    ⊎ ((e : Entry) × (rows ≡ e ∷ []) × (e.key ≡ pos 1))
one_at_most db [] has = inl refl
one_at_most db (e ∷ []) has = inr (e, refl, has_key_one db (e ∷ []) has e (inl refl))
one_at_most db (e ∷ f ∷ rows) has =
    absurd (not_below e.key f.key (has_key_one db (e ∷ f ∷ rows) has e (inl refl))
    (has_key_one db (e ∷ f ∷ rows) has f (inr (inl refl)))
    has.holds.rows.rise.0.0)
