-- The look-ups of a table that a database holds: by its key, by two columns, and of the next key.
use Rattle.sql_meanings.specs.Names.{ℕ, ℤ, List, [], find, slice_get, Some, option_map, Result, Row, Null, Int, overlay}
use Rattle.sql_meanings.specs.Names.{Table, Term, eval_all, IsDatabase, State, QueriesRowInside, Error, plain}
use Rattle.sql_meanings.proofs.{Names.get_or, Names.∥∥₁_elim, KeyedAnswers.keyed_answer, OrderedAnswers.next_answer}
use Rattle.sql_meanings.proofs.{TwoColumns.Clear, TwoColumns.clear, TwoColumns.two_answer, TablesBeside.Standing, TablesBeside.standing}
use Rattle.sql_meanings.specs.believed.Entries.{Entry, IsTree, has_key, has_two, stored}
use Rattle.sql_meanings.specs.{Entries.is_above, StatementAnswers.TellsRow}
use Rattle.sql_meanings.specs.believed.Tables.{Holds, placed_at, tree_of, width_of}
use Rattle.sql_meanings.specs.Under.{rows_of}
use Rattle.sql_meanings.specs.Queries.{by_key, by_two, next_above}
use Rattle.sql_meanings.proofs.ReadTables.{ReadsAs, reads_row, reads_standing, under_overlay}
use mathlib.Core.Bool.{Bool-set}
use Rattle.std.specs.Prelude.{◌≡◌, ◌∷◌}

module _ (old new : State) (table : Table) (free : table.references ≡ []) (sound : ∥ IsDatabase old.now ∥₁)
    (es : List Entry)
    (holds : Holds old.now table es)
    (text : List ℕ) (project : List Term) where
  abbrev tree : ℕ
  tree = tree_of old.now.schema table.name

  -- the row under a key
  pub reads_key : (k : ℤ) → ReadsAs table text (Int k ∷ []) (λ t. by_key t project) → (r : Result Row Error)
      → QueriesRowInside text (Int k ∷ []) old new r
      → TellsRow old new (option_map (λ e. eval_all project ((Int k ∷ []) ∷ stored e ∷ []))
      (find (has_key k) es)) r
  reads_key k reads =
      reads_row old new table free sound holds.defined text (Int k ∷ []) (λ t. by_key t project) reads
      (find (has_key k) es)
      (λ e. eval_all project ((Int k ∷ []) ∷ stored e ∷ []))
      (λ low rows sure. keyed_answer Null tree project (overlay old.now.trees []) k [] rows es
      (under_overlay old.now.trees tree low holds.rows) (sure Null))

  -- the row with the least key above
  pub reads_next : (k : ℤ) → ReadsAs table text (Int k ∷ []) (λ t. next_above t project)
      → (r : Result Row Error)
      → QueriesRowInside text (Int k ∷ []) old new r
      → TellsRow old new (option_map (λ e. eval_all project ((Int k ∷ []) ∷ stored e ∷ []))
      (find (is_above k) es)) r
  reads_next k reads =
      reads_row old new table free sound holds.defined text (Int k ∷ []) (λ t. next_above t project) reads
      (find (is_above k) es)
      (λ e. eval_all project ((Int k ∷ []) ∷ stored e ∷ []))
      (λ low rows sure. next_answer Null tree project (overlay old.now.trees []) k rows es
      (under_overlay old.now.trees tree low holds.rows) (sure Null))

  all_clear : slice_get table.uniques 0 ≡ Some (2 ∷ 3 ∷ []) → get_or table.orders 0 plain ≡ plain → Clear es
  all_clear unique order e h =
      ∥∥₁_elim sound (Bool-set _ _) (λ it. clear old.now.schema old.now.trees (placed_at table tree) es it
      (standing old.now table free sound holds.defined).stands.listed unique order holds.rows.are e h)

  -- the row with two given numbers after its key, where these are UNIQUE together
  pub reads_two : (one two : ℤ) → slice_get table.uniques 0 ≡ Some (2 ∷ 3 ∷ [])
      → get_or table.orders 0 plain ≡ plain
      → ReadsAs table text (Int one ∷ Int two ∷ []) (λ t. by_two 2 3 t project) → (r : Result Row Error)
      → QueriesRowInside text (Int one ∷ Int two ∷ []) old new r
      → TellsRow old new (option_map (λ e. eval_all project ((Int one ∷ Int two ∷ []) ∷ stored e ∷ []))
      (find (has_two one two) es)) r
  reads_two one two unique order reads =
      reads_row old new table free sound holds.defined text (Int one ∷ Int two ∷ [])
      (λ t. by_two 2 3 t project) reads
      (find (has_two one two) es)
      (λ e. eval_all project ((Int one ∷ Int two ∷ []) ∷ stored e ∷ []))
      (λ low rows sure. two_answer Null tree project (overlay old.now.trees []) one two rows es
      (under_overlay old.now.trees tree low holds.rows) (all_clear unique order) (sure Null))

-- the row with the least key above, of a table that is stored, whatever else is sound
module _ (old new : State) (table : Table) (at : Standing old.now.schema table) (es : List Entry)
    (tree : IsTree (width_of table) (rows_of old.now table) es) (text : List ℕ) (project : List Term) where
  pub next_standing : (k : ℤ) → ReadsAs table text (Int k ∷ []) (λ t. next_above t project)
      → (r : Result Row Error) → QueriesRowInside text (Int k ∷ []) old new r
      → TellsRow old new (option_map (λ e. eval_all project ((Int k ∷ []) ∷ stored e ∷ [])) (find (is_above k) es)) r
  next_standing k reads =
      reads_standing old new table at text (Int k ∷ []) (λ t. next_above t project) reads (find (is_above k) es)
      (λ e. eval_all project ((Int k ∷ []) ∷ stored e ∷ []))
      (λ low rows sure. next_answer Null (tree_of old.now.schema table.name) project (overlay old.now.trees []) k rows es
      (under_overlay old.now.trees (tree_of old.now.schema table.name) low tree) (sure Null))
