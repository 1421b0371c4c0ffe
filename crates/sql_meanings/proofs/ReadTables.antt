-- What a SELECT inside a transaction tells of a table that a database holds.
use Rattle.sql_meanings.specs.Names.{ℕ, List, [], map, length, None, Some, Option, option_map, Ok, Err, Result, true}
use Rattle.sql_meanings.specs.Names.{false, Row, Query, IsSureAnswer, has_no_fold, overlay, Schema, Table, Trees}
use Rattle.sql_meanings.specs.Names.{IsDatabase, State, QueriesRowInside, Error, accepts_program}
use Rattle.sql_meanings.proofs.Names.{inl, inr, refl, sym, subst, nat_le}
use Rattle.sqlite.specs.Command.TheVariants.{Select}
use Rattle.sql_meanings.specs.believed.Entries.{Entry, IsTree}
use Rattle.sql_meanings.specs.{Entries.listed, StatementAnswers.TellsRow}
use Rattle.sql_meanings.specs.believed.Tables.{Defines, placed_at, tree_of}
use Rattle.sql_meanings.proofs.{Statements.HasTable, Means.Means, TablesBeside.Standing, TablesBeside.standing}
use Rattle.sql_meanings.proofs.PlainReads.{first_answers, none_or_fails}
use Rattle.std.specs.Prelude.{◌≡◌, ◌^◌, ◌∷◌}

-- with these parameters the text is this query of the table, in whatever schema and tree the table stands
pub record ReadsAs (table : Table) (text : List ℕ) (params : Row) (query : ℕ → Query) : Type 0 where
  pub names : List (List ℕ)
  pub means : (schema : Schema) (p tree : ℕ) → HasTable schema table.name p (placed_at table tree)
      → Means schema text (length params) (Select (record { lets = []; body = query tree }) names)
  pub accepts : (schema : Schema) (p tree : ℕ) → HasTable schema table.name p (placed_at table tree)
      → accepts_program schema [] (query tree) params ≡ true
  pub unfolded : (tree : ℕ) → has_no_fold (query tree).from ≡ true
  pub ungrouped : (tree : ℕ) → (query tree).group ≡ None

-- a stored tree stands below what a statement computes
pub overlay_low : (db : Trees) (t : ℕ) → nat_le (2 ^ 31) t ≡ false → overlay db [] t ≡ db t
overlay_low db t low = rw low

-- so are its rows
pub under_overlay : {width : ℕ × ℕ} {es : List Entry} (db : Trees) (t : ℕ) → nat_le (2 ^ 31) t ≡ false
    → IsTree width (db t) es
    → IsTree width (overlay db [] t) es
under_overlay {width} {es} db t low tree = subst (λ rows. IsTree width rows es)
    (sym (overlay_low db t low)) tree

one_row : {X : Type 0} (show : X → Row) (o : Option X) (row : Row) (tail : List Row)
    → row ∷ tail ≡ map show (listed o)
    → option_map show o ≡ Some row
one_row show None row tail h = absurd cc
one_row show (Some x) row tail h = cc

no_row : {X : Type 0} (show : X → Row) (o : Option X) → [] ≡ map show (listed o) → option_map show o ≡ None
no_row show None h = refl
no_row show (Some x) h = absurd cc

module _ (old new : State) (table : Table) (at : Standing old.now.schema table)
    (text : List ℕ) (params : Row) (query : ℕ → Query) (reads : ReadsAs table text params query) where
  abbrev tree : ℕ
  tree = tree_of old.now.schema table.name

  -- `query_row` answers the first row of what the query shows, where that is one row at most
  pub reads_standing : {X : Type 0} (found : Option X) (show : X → Row)
      → ((nat_le (2 ^ 31) tree ≡ false) → (rows : List Row)
      → IsSureAnswer (query tree) (overlay old.now.trees []) params rows
      → rows ≡ map show (listed found))
      → (r : Result Row Error) → QueriesRowInside text params old new r
      → TellsRow old new (option_map show found) r
  reads_standing found show answer (Ok row) h =
      let m = reads.means old.now.schema at.place tree at.has in
      let accepts = reads.accepts old.now.schema at.place tree at.has in
      let got = first_answers old.now.schema text params (query tree) reads.names m accepts
      (reads.unfolded tree)
      (reads.ungrouped tree) old new refl row h in
      (one_row show found row got.0.0 (answer at.has.low (row ∷ got.0.0) got.0.1), got.1)
  reads_standing found show answer (Err e) h =
      let m = reads.means old.now.schema at.place tree at.has in
      let accepts = reads.accepts old.now.schema at.place tree at.has in
      elim (none_or_fails old.now.schema text params (query tree) reads.names m accepts (reads.unfolded tree)
      (reads.ungrouped tree) old new refl e h) [
        | inl none ↦ inl (none.0, no_row show found (answer at.has.low [] none.1), none.2)
        | inr fails ↦ inr fails
      ]

module _ (old new : State) (table : Table) (free : table.references ≡ []) (sound : ∥ IsDatabase old.now ∥₁)
    (defined : Defines old.now.schema table)
    (text : List ℕ) (params : Row) (query : ℕ → Query) (reads : ReadsAs table text params query) where
  -- the same of a sound database
  pub reads_row : {X : Type 0} (found : Option X) (show : X → Row)
      → ((nat_le (2 ^ 31) (tree_of old.now.schema table.name) ≡ false) → (rows : List Row)
      → IsSureAnswer (query (tree_of old.now.schema table.name)) (overlay old.now.trees []) params rows
      → rows ≡ map show (listed found))
      → (r : Result Row Error) → QueriesRowInside text params old new r
      → TellsRow old new (option_map show found) r
  reads_row = reads_standing old new table (standing old.now table free sound defined) text params query reads
