-- A SELECT by key tells of a row that lies under the key, and an UPDATE by key of one row changes it alone, whatever
-- rows the tables have.
use Rattle.sql_meanings.specs.Names.{ℕ, ℤ, List, [], map, filter, length, Ok, Err, Row, Null, Int, Term, eval_all}
use Rattle.sql_meanings.specs.Names.{Schema, Table, State, Executes, QueriesRowInside, overlay}
use Rattle.sql_meanings.specs.Names.{QueryReturnedNoRows, IsSureAnswer, Edit, Given, edit_of, ids_of}
use Rattle.sql_meanings.specs.Names.{without_rowid, put_row, cast_row, true, are_fresh, is_eq}
use Rattle.sql_meanings.proofs.Names.{refl, sym, ap, subst, ◌∙◌, inl, inr, nil_from_length, length-map, length_permutation}
use Rattle.sql_meanings.proofs.Names.{and_parts, arith, not-true, drop, cases_Bool, IsPermutation}
use Rattle.std.proofs.lemmas.List.Sorted.{Contains-permutation, IsPermutation-sym}
use Rattle.sqlite.proofs.Callers.{one_permutation}
use Rattle.sqlite.specs.Tree.{has_rowid}
use Rattle.sqlite_rules.specs.{Edit.id_in, Edit.numbered, Lists.Has}
use Rattle.sqlite_rules.proofs.ListLemmas.{contains_had, has_contained, has_filtered}
use Rattle.sqlite_trees.specs.Tree.{rowid}
use Rattle.sqlite_value.specs.Order.{column, value_cmp}
use Rattle.std.proofs.lemmas.Bool.Decides.{Decides-int_eq}
use Rattle.std.specs.Ordering.{int_eq}
use Rattle.sql_meanings.specs.Under.{OthersStay, rows_under}
use Rattle.sql_meanings.specs.{Queries.by_key, believed.Tables.Defines, believed.Tables.placed_at}
use Rattle.sql_meanings.specs.believed.Tables.{tree_of}
use Rattle.sql_meanings.proofs.{Defining.defined_stands, Keyed.WritesAs, OnlyShowing.no_rows_error}
use Rattle.sql_meanings.proofs.PlainReads.{first_answers, none_or_fails}
use Rattle.sql_meanings.proofs.ReadTables.{ReadsAs, overlay_low}
use Rattle.sql_meanings.proofs.{RowsUnder.answer_under, TablesBeside.Standing, TablesBeside.trees_apart}
use Rattle.sql_meanings.proofs.{UnderKeys.cast_under, UnderKeys.others_left, UnderKeys.others_put, UnderKeys.put_under}
use Rattle.sql_meanings.proofs.{UnderKeys.taken_out, Writing.Wrote, Writing.inserts, Writing.uncounted}
use Rattle.sql_meanings.proofs.{Writing.updates, PutRows.PutsEachAs, TableWrites.IsPlain}
use Rattle.sql_meanings.specs.believed.Entries.{Entry}
use Rattle.std.specs.Prelude.{◌≡◌, ◌≢◌, ◌∷◌}

-- an element of a list in another order, which was made of one of another list
made_of : {X Y : Type 0} (f : X → Y) (xs : List X) (ys : List Y) (y : Y) → IsPermutation (map f xs) ys → Has ys y
    → (x : X) × Has xs x × (y ≡ f x)
made_of f xs ys y same had =
    there xs (has_contained (map f xs) y (Contains-permutation ys (map f xs) y (IsPermutation-sym (map f xs) ys same)
    (contains_had ys y had)))
  where
    there : (zs : List _) → Has (map f zs) y → (x : _) × Has zs x × (y ≡ f x)
    there [] h = absurd h
    there (z ∷ zs) (inl is) = (z, inl refl, is)
    there (z ∷ zs) (inr later) = let found = there zs later in (found.0, inr found.1, found.2)

none_made : {X Y : Type 0} (f : X → Y) (xs : List X) → IsPermutation (map f xs) [] → xs ≡ []
none_made f xs same = nil_from_length xs (sym (length-map xs f) ∙ sym (length_permutation (map f xs) [] same))

-- ---- a SELECT

module _ (old new : State) (table : Table) (at : Standing old.now.schema table) (text : List ℕ) (project : List Term)
    (k : ℤ) (reads : ReadsAs table text (Int k ∷ []) (λ t. by_key t project)) where
  abbrev shown : Row → Row
  shown r = eval_all project ((Int k ∷ []) ∷ r ∷ [])

  abbrev under : List Row
  under = rows_under old.now table k

  answers : (rows : List Row)
      → IsSureAnswer (by_key (tree_of old.now.schema table.name) project) (overlay old.now.trees []) (Int k ∷ []) rows
      → IsPermutation (map shown under) rows
  answers rows sure =
      subst (λ l. IsPermutation (map shown (filter (has_rowid k) l)) rows)
      (overlay_low old.now.trees (tree_of old.now.schema table.name) at.has.low)
      (answer_under Null (overlay old.now.trees []) k [] (tree_of old.now.schema table.name) project rows (sure Null))

  -- a row that is shown lies under the key
  pub shows_under : (row : Row) → QueriesRowInside text (Int k ∷ []) old new (Ok row)
      → (r : Row) × Has under r × (row ≡ shown r)
  shows_under row h =
      let m = reads.means old.now.schema at.place (tree_of old.now.schema table.name) at.has in
      let accepts = reads.accepts old.now.schema at.place (tree_of old.now.schema table.name) at.has in
      let got = first_answers old.now.schema text (Int k ∷ []) (by_key (tree_of old.now.schema table.name) project)
      reads.names m accepts (reads.unfolded (tree_of old.now.schema table.name))
      (reads.ungrouped (tree_of old.now.schema table.name)) old new refl row h in
      made_of shown under (row ∷ got.0.0) row (answers (row ∷ got.0.0) got.0.1) (inl refl)

  -- where none is shown, none lies there
  pub none_under : QueriesRowInside text (Int k ∷ []) old new (Err QueryReturnedNoRows) → under ≡ []
  none_under h =
      let m = reads.means old.now.schema at.place (tree_of old.now.schema table.name) at.has in
      let accepts = reads.accepts old.now.schema at.place (tree_of old.now.schema table.name) at.has in
      elim (none_or_fails old.now.schema text (Int k ∷ []) (by_key (tree_of old.now.schema table.name) project)
      reads.names m accepts (reads.unfolded (tree_of old.now.schema table.name))
      (reads.ungrouped (tree_of old.now.schema table.name)) old new refl QueryReturnedNoRows h) [
        | inl none ↦ none_made shown under (answers [] none.1)
        | inr (inl fails) ↦ absurd (no_rows_error fails.0 fails.1)
        | inr (inr limit) ↦ absurd (let e = limit.0 in cc)
      ]

-- ---- a write of one table

-- what it leaves of the others
pub wrote_beside : (old new : State) (table : Table) → table.references ≡ [] → Defines old.now.schema table
    → (edit : Edit) (count : ℕ) → edit.table.tree ≡ tree_of old.now.schema table.name → Wrote old new edit count
    → OthersStay old.now new.now table
wrote_beside old new table free defined edit count at wrote = record {
  schema = wrote.schema;
  rows = λ other free' apart d.
      ap (λ (s : Schema). new.now.trees (tree_of s other.name)) wrote.schema
      ∙ wrote.leaves.others (placed_at other (tree_of old.now.schema other.name))
      (defined_stands old.now.schema other free' d)
      (λ same. trees_apart old.now.schema other table free' free d defined apart (same ∙ at));
}

-- an INSERT of given values leaves them
pub puts_beside : (old new : State) (t : Table) → IsPlain (uncounted t) → Standing old.now.schema (uncounted t)
    → Defines old.now.schema (uncounted t) → (text : List ℕ) (params : Row) (news : List Entry)
    → PutsEachAs (uncounted t) text params news → (count : ℕ) → Executes text params old new (Ok count)
    → OthersStay old.now new.now (uncounted t)
puts_beside old new t is at defined text params news puts count h =
    let tree = tree_of old.now.schema t.name in
    let wrote = inserts old new text params at.place (placed_at t tree) at.has.listed at.stands count puts.terms
    puts.width (puts.means old.now.schema at.place tree at.has) h in
    wrote_beside old new (uncounted t) is.free defined _ count refl wrote

-- rows that keep their rowids
given_are : (rows news : List Row) → numbered Given rows news ≡ news
given_are rows [] = refl
given_are rows (r ∷ news) = ap (λ l. r ∷ l) (given_are (put_row r rows) news)

-- An UPDATE of one row: the row under the key is another one now, those under other keys are as they were, and so is
-- every other table.
pub record SetsUnder (old new : State) (table : Table) (k : ℤ) (set : Row → Row) : Type 0 where
  pub beside : OthersStay old.now new.now table
  pub others : (j : ℤ) → j ≢ k → rows_under new.now table j ≡ rows_under old.now table j
  pub was : Row
  pub only : rows_under old.now table k ≡ was ∷ []
  pub there : Has (rows_under new.now table k) (set was)

module _ (old new : State) (table : Table) (free : table.references ≡ []) (at : Standing old.now.schema table)
    (defined : Defines old.now.schema table) (text : List ℕ) (k : ℤ) (more : Row) (project : List Term)
    (writes : WritesAs table text (Int k ∷ more) project)
    (keyed : (r : Row) → (column (eval_all project ((Int k ∷ more) ∷ r ∷ [])) 0 ≡ column r 0)
    × (column (drop 1 (eval_all project ((Int k ∷ more) ∷ r ∷ []))) 0 ≡ column r 0)) where
  abbrev tree : ℕ
  tree = tree_of old.now.schema table.name

  abbrev given : Row → Row
  given r = eval_all project ((Int k ∷ more) ∷ r ∷ [])

  -- the row as it is stored
  abbrev pub set_as : Row → Row
  set_as r = cast_row (placed_at table tree) (drop 1 (given r))

  abbrev edit_by : List Row → Edit
  edit_by rows = edit_of old.now.trees (placed_at table tree) (ids_of rows) Given 1 rows

  one_given : (rows : List Row) → length rows ≡ 1 → IsPermutation (map given (rows_under old.now table k)) rows
      → (was : Row) × (rows_under old.now table k ≡ was ∷ []) × (rows ≡ given was ∷ [])
  one_given rows one same = go (rows_under old.now table k) refl same
    where
      go : (l : List Row) → rows_under old.now table k ≡ l → IsPermutation (map given l) rows
          → (was : Row) × (rows_under old.now table k ≡ was ∷ []) × (rows ≡ given was ∷ [])
      go [] is moved = absurd (let none = length_permutation [] rows moved in let e = one in cc)
      go (was ∷ []) is moved = (was, is, one_permutation (given was) rows moved)
      go (was ∷ other ∷ l) is moved =
          absurd (let two = length_permutation (map given (was ∷ other ∷ l)) rows moved in omega arith)

  -- it has its key
  set_here : (r : Row) → has_rowid k r ≡ true → has_rowid k (set_as r) ≡ true
  set_here r lies = cast_under (column (drop 1 (given r)) 0) k
      (ap (λ v. is_eq (value_cmp v (Int k))) (keyed r).1 ∙ lies)

  pub sets_under : Executes text (Int k ∷ more) old new (Ok 1) → SetsUnder old new table k set_as
  sets_under h =
      let wrote = updates old new text (Int k ∷ more) at.place (placed_at table tree) at.has.listed at.stands 1 _
      (writes.means old.now.schema at.place tree at.has) h in
      let moved = subst (λ l. IsPermutation (map given (filter (has_rowid k) l)) wrote.0)
      (overlay_low old.now.trees tree at.has.low)
      (answer_under Null (overlay old.now.trees []) k more tree project wrote.0 (wrote.1.answer Null)) in
      let counted : length wrote.0 ≡ 1 =
      sym (length-map wrote.0 (λ s. cast_row (placed_at table tree) (drop 1 s)))
      ∙ sym (ap length (given_are _ (map (λ s. cast_row (placed_at table tree) (drop 1 s)) wrote.0)))
      ∙ sym wrote.2.counted in
      let one = one_given wrote.0 counted moved in
      let was = one.0 in
      let mine : Wrote old new (edit_by (given was ∷ [])) 1 = subst (λ rows. Wrote old new (edit_by rows) 1) one.2 wrote.2 in
      let had = has_filtered (has_rowid k) (old.now.trees tree) was
      (subst (λ l. Has l was) (sym one.1) (inl refl)) in
      let here = set_here was had.1 in
      let id : id_in (rowid (given was)) ≡ k = own was had.0 had.1 here mine.fresh in
      let now : new.now.trees (tree_of new.now.schema table.name)
      ≡ put_row (set_as was) (without_rowid k (old.now.trees tree)) =
      ap (λ (s : Schema). new.now.trees (tree_of s table.name)) mine.schema ∙ mine.leaves.rows
      ∙ ap (λ i. put_row (set_as was) (without_rowid i (old.now.trees tree))) id in
      record {
        beside = wrote_beside old new table free defined (edit_by wrote.0) 1 refl wrote.2;
        others = λ j other. ap (filter (has_rowid j)) now
            ∙ others_put j k (set_as was) (without_rowid k (old.now.trees tree)) other here
            ∙ others_left j k (old.now.trees tree) other;
        was = was;
        only = one.1;
        there = subst (λ l. Has (filter (has_rowid k) l) (set_as was)) (sym now)
            (put_under k (set_as was) (without_rowid k (old.now.trees tree)) here);
      }
    where
      own : (was : Row) → Has (old.now.trees tree) was → has_rowid k was ≡ true → has_rowid k (set_as was) ≡ true
          → are_fresh (without_rowid (id_in (rowid (given was))) (old.now.trees tree)) (set_as was ∷ []) ≡ true
          → id_in (rowid (given was)) ≡ k
      own was had lies here fresh = elim (cases_Bool (int_eq (id_in (rowid (given was))) k)) [
        | inl same ↦ (Decides-int_eq (id_in (rowid (given was))) k).0 same
        | inr other ↦ absurd (taken_out (id_in (rowid (given was))) k was (set_as was) (old.now.trees tree) had lies
            here (not-true _ (and_parts _ _ fresh).0)
            (λ same. let yes = (Decides-int_eq (id_in (rowid (given was))) k).1 same in cc))
      ]
