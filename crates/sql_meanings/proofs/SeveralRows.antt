-- Rows that are put in one after another, as a file holds them.
use Rattle.sql_meanings.specs.Names.{ℕ, List, [], map, find, is_some, Bool, not, true, false, AllByRecursion, Row}
use Rattle.sql_meanings.specs.Names.{Chosen, Table, put_row, cast_row, are_fresh, put_all, passes_checks, fits_i64}
use Rattle.sql_meanings.proofs.Names.{refl, ap, ◌∙◌}
use Rattle.sqlite_rules.specs.Edit.{numbered}
use Rattle.sql_meanings.specs.believed.Entries.{Entry, HasWidth, IsTree, Rise, has_key, stored}
use Rattle.sql_meanings.specs.{Entries.AreShort, Entries.put, SeveralRows.meets_key, SeveralRows.put_each}
use Rattle.sql_meanings.specs.believed.Tables.{placed_at, width_of}
use Rattle.sql_meanings.proofs.{Changes.taken_is, Changes.wide_put, EntryLists.put_stored, EntryLists.rise_put}
use Rattle.sql_meanings.proofs.{Refusals.IsFit, TableWrites.IsPlain, TableWrites.cast_is}
use Rattle.std.specs.Prelude.{◌≡◌, ◌∷◌, ◌&&◌, ◌||◌}

-- the row has the table's width, its texts are short, and it passes the CHECKs
pub record IsRowOf (table : Table) (e : Entry) : Type 0 where
  pub wide : HasWidth (width_of table) e
  pub short : AreShort e.texts
  pub passes : passes_checks table (stored e) ≡ true

-- the key is one that a file can hold
abbrev pub IsKey : Entry → Type 0
IsKey e = fits_i64 e.key ≡ true

-- one row alone
pub or_nothing : (b : Bool) → (b || false) ≡ b
or_nothing true = refl
or_nothing false = refl

neither : (a b : Bool) → (not a && not b) ≡ not (a || b)
neither true b = refl
neither false b = refl

module _ (table : Table) where
  -- in whichever tree the table is, the rows can be put in
  pub fit_at : (tree : ℕ) (news : List Entry) → AllByRecursion (IsRowOf table) news → AllByRecursion IsKey news
      → AllByRecursion (IsFit (placed_at table tree)) news
  fit_at tree [] are low = tt
  fit_at tree (e ∷ news) are low = (
    record { wide = are.0.wide; short = are.0.short; low = low.0; checked = are.0.passes },
    fit_at tree news are.1 low.1,
  )

  -- each is stored as it is, under the key that it has
  pub numbered_each : (is : IsPlain table) (rows : List Row) (news : List Entry)
      → AllByRecursion (IsRowOf table) news
      → numbered Chosen rows (map (λ s. cast_row table s) (map stored news)) ≡ map stored news
  numbered_each is rows [] are = refl
  numbered_each is rows (e ∷ news) are =
      ap (λ row. numbered Chosen rows (row ∷ map (λ s. cast_row table s) (map stored news)))
      (cast_is table is e are.0.wide are.0.short)
      ∙ ap (λ l. stored e ∷ l) (numbered_each is (put_row (stored e) rows) news are.1)

  wide_each : (news es : List Entry) → AllByRecursion (IsRowOf table) news
      → AllByRecursion (λ e. HasWidth (width_of table) e) es
      → AllByRecursion (λ e. HasWidth (width_of table) e) (put_each news es)
  wide_each [] es are wide = wide
  wide_each (e ∷ news) es are wide =
      wide_each news (put e es) are.1 (wide_put (width_of table) e es are.0.wide wide)

-- they are in their places
pub put_all_stored : (news es : List Entry)
    → put_all (map stored es) (map stored news) ≡ map stored (put_each news es)
put_all_stored [] es = refl
put_all_stored (e ∷ news) es =
    ap (λ rows. put_all rows (map stored news)) (put_stored e es) ∙ put_all_stored news (put e es)

-- where their keys are free
pub fresh_each : (news es : List Entry)
    → are_fresh (map stored es) (map stored news) ≡ not (meets_key news es)
fresh_each [] es = refl
fresh_each (e ∷ news) es = rw (taken_is e es, put_stored e es, fresh_each news (put e es))
    (neither (is_some (find (has_key e.key) es)) (meets_key news (put e es)))

-- keys rise on
pub rise_each : (news es : List Entry) → Rise es → Rise (put_each news es)
rise_each [] es rise = rise
rise_each (e ∷ news) es rise = rise_each news (put e es) (rise_put e es rise)

-- rows that are put in keep a tree a tree
pub tree_each : (table : Table) (rows rows' : List Row) (news es : List Entry)
    → AllByRecursion (IsRowOf table) news → rows' ≡ map stored (put_each news es)
    → IsTree (width_of table) rows es → IsTree (width_of table) rows' (put_each news es)
tree_each table rows rows' news es are same tree = record {
  are = same;
  rise = rise_each news es tree.rise;
  wide = wide_each table news es are tree.wide;
}
