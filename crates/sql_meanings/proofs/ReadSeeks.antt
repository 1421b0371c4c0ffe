-- What a seek tells of a table that a database holds.
use Rattle.sql_meanings.specs.Names.{ℕ, ℤ, List, [], map, filter, Ok, Err, Result, false, length, Row, Null, Int}
use Rattle.sql_meanings.specs.Names.{overlay, Query, IsSureAnswer, page, Table, Trees, understood, Term, eval_all}
use Rattle.sql_meanings.specs.Names.{IsDatabase, State, FailsToQuery, IsNotRun, Survives, Error, IsSome}
use Rattle.sql_meanings.proofs.{Names.inl, Names.inr, Names.refl, Names.nat_le, Names.subst, PlainReads.fails_reading}
use Rattle.sql_meanings.proofs.{PlainReads.shown_answers, ReadTables.ReadsAs, ReadTables.under_overlay}
use Rattle.sql_meanings.proofs.{SeekAnswers.from_answer, SeekAnswers.of_from_answer, TablesBeside.standing}
use Rattle.sqlite.specs.State.{CommitsShowing, Shown}
use Rattle.sqlite.proofs.StateLemmas.{survives_weaker}
use Rattle.sql_meanings.specs.believed.{Entries.Entry, Entries.stored, Tables.Defines, Tables.Holds, Tables.tree_of}
use Rattle.sql_meanings.specs.StatementAnswers.{OnlyShows, ReadKept, TellsRows}
use Rattle.sql_meanings.specs.Seeks.{is_from, is_of_from, next_from, next_of_from}
use Rattle.std.specs.Prelude.{◌≡◌, ◌^◌, ◌∷◌}

-- what `query_all` answers
abbrev pub QueriesAll : List ℕ → Row → State → State → Result (List Row) Error → Type 0
QueriesAll text params old new (Ok rows) = Shown text params old new rows
QueriesAll text params old new (Err e) = FailsToQuery text params old new e

module _ (old new : State) (table : Table) (free : table.references ≡ []) (sound : ∥ IsDatabase old.now ∥₁)
    (text : List ℕ) (params : Row) (query : ℕ → Query) (reads : ReadsAs table text params query) where
  -- it answers what the query shows
  pub reads_all : Defines old.now.schema table → (wanted : List Row)
      → ((nat_le (2 ^ 31) (tree_of old.now.schema table.name) ≡ false) → (rows : List Row)
      → IsSureAnswer (query (tree_of old.now.schema table.name)) (overlay old.now.trees []) params rows
      → rows ≡ wanted)
      → (r : Result (List Row) Error) → QueriesAll text params old new r → TellsRows old new wanted r
  reads_all defined wanted answer (Ok rows) h =
      let tree = tree_of old.now.schema table.name in
      let at = standing old.now table free sound defined in
      let m = reads.means old.now.schema at.place tree at.has in
      let accepts = reads.accepts old.now.schema at.place tree at.has in
      let got = shown_answers old.now.schema text params (query tree) reads.names m accepts
      (reads.unfolded tree)
      (reads.ungrouped tree) old new refl rows h in
      (answer at.has.low rows got.0, got.1)
  reads_all defined wanted answer (Err e) h =
      let tree = tree_of old.now.schema table.name in
      let at = standing old.now table free sound defined in
      let m = reads.means old.now.schema at.place tree at.has in
      let accepts = reads.accepts old.now.schema at.place tree at.has in
      fails_reading old.now.schema text params (query tree) reads.names m accepts (reads.unfolded tree)
      (reads.ungrouped tree) old new refl e h

module _ (old new : State) (table : Table) (free : table.references ≡ []) (sound : ∥ IsDatabase old.now ∥₁)
    (es : List Entry)
    (holds : Holds old.now table es) (text : List ℕ) (most : ℕ) (project : List Term) where
  abbrev tree : ℕ
  tree = tree_of old.now.schema table.name

  -- the next rows from a number on
  pub reads_from : (k : ℤ) → ReadsAs table text (Int k ∷ []) (λ t. next_from most t project)
      → (r : Result (List Row) Error)
      → QueriesAll text (Int k ∷ []) old new r
      → TellsRows old new (page (next_from most tree project) (Int k ∷ [])
      (map (λ e. eval_all project ((Int k ∷ []) ∷ stored e ∷ [])) (filter (is_from k) es))) r
  reads_from k reads =
      reads_all old new table free sound text (Int k ∷ [])
      (λ t. next_from most t project) reads holds.defined _
      (λ low rows sure. from_answer Null most tree project (overlay old.now.trees []) k rows es
      (under_overlay old.now.trees tree low holds.rows) (sure Null))

  -- the same of those with a number after their keys
  pub reads_of_from : (one k : ℤ)
      → ReadsAs table text (Int one ∷ Int k ∷ []) (λ t. next_of_from most t project)
      → (r : Result (List Row) Error) → QueriesAll text (Int one ∷ Int k ∷ []) old new r
      → TellsRows old new (page (next_of_from most tree project) (Int one ∷ Int k ∷ [])
      (map (λ e. eval_all project ((Int one ∷ Int k ∷ []) ∷ stored e ∷ [])) (filter (is_of_from one k) es))) r
  reads_of_from one k reads =
      reads_all old new table free sound text (Int one ∷ Int k ∷ [])
      (λ t. next_of_from most t project) reads holds.defined _
      (λ low rows sure. of_from_answer Null most tree project (overlay old.now.trees []) one k rows es
      (under_overlay old.now.trees tree low holds.rows) (sure Null))

-- whatever the rows
pub kept_all : (old new : State) (text : List ℕ) (params : Row) (r : Result (List Row) Error)
    → OnlyShows text (length params) (understood old.now.schema text) → QueriesAll text params old new r
    → ReadKept old new r
unfolding FailsToQuery IsNotRun Shown
kept_all old new text params (Ok rows) only whole = let it = rw
    ((only whole.0 whole.1.is).bare) at whole.2 in it.3
kept_all old new text params (Err e) only (inl (inl none)) = inr none.1
kept_all old new text params (Err e) only (inl (inr fails)) = inl fails
kept_all old new text params (Err e) only (inr shown) = let it = rw
    ((only shown.0 shown.1.is).bare) at shown.2 in inr it.3

never : (text : List ℕ) (params : Row) (s : State)
    → OnlyShows text (length params) (understood s.now.schema text) → (db : Trees)
    → ¬ CommitsShowing text params s db
unfolding CommitsShowing
never text params s only db h = absurd (let some = subst IsSome (only h.0 h.1.is).bare h.2 in cc)

-- a statement that only shows rows commits nothing
pub commits_nothing : (text : List ℕ) (params : Row) (old new : State)
    → OnlyShows text (length params) (understood old.now.schema text)
    → Survives old new (CommitsShowing text params old) → Survives old new (λ _. ⊥)
commits_nothing text params old new only = survives_weaker old new _ _ (λ _ db. never text params old only db)
