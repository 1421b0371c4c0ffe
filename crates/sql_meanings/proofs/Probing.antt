-- What a probe tells.
use Rattle.sql_meanings.specs.Names.{ℕ, List, [], Ok, Err, Some, None, Option, Result, Bool, true, false, cond}
use Rattle.sql_meanings.specs.Names.{Schema, Table, Term, table_named, view_named, Core, out-Core, Sort, out-Source}
use Rattle.sql_meanings.specs.Names.{Parsed, CompileError, NoSuchTable, Carried, nothing, take_slot, Name, number}
use Rattle.sql_meanings.specs.Names.{table_in, bound, bounds, body, parts, named, paging, constant_or, viewing}
use Rattle.sql_meanings.specs.Names.{single, source, sources, whole, with, level, query_to, query, compiled, first}
use Rattle.sql_meanings.specs.Names.{planned, timed, meaning, returning, command, read, understood, listing_schema}
use Rattle.sql_meanings.specs.Names.{Error, SqlInputError, State, Fails, IsUnchanged, IsNotRun, store_error, Database}
use Rattle.sql_meanings.specs.Names.{IsDatabase, StoreError, OutOfMemory}
use Rattle.sql_meanings.proofs.Names.{suc, refl, ap, sym, ◌∙◌, inl, inr}
use Rattle.sqlite_ast.specs.declared.Source.{Source as From}
use Rattle.sqlite_schema.specs.declared.program.Table.{Table as Let}
use Rattle.sqlite_resolve.specs.Program.{alone}
use Rattle.sql_meanings.specs.StatementAnswers.{is_text_refused, IsThere, IsUnderstood, OnlyShows, TellsProbe}
use Rattle.sql_meanings.specs.StatementAnswers.{TellsUnderstood}
use Rattle.sql_meanings.specs.{believed.Tables.Defines, believed.Tables.placed_at, believed.Tables.tree_of}
use Rattle.sql_meanings.specs.{Queries.no_limit}
use Rattle.sql_meanings.proofs.{TablesBeside.standing, Expressions.st, OneTable.IsSelectOf, Statements.HasTable}
use Rattle.sqlite_ast.specs.declared.Select as written_select
use Rattle.sqlite_ast.specs.declared.Origin.TheVariants as origin
use Rattle.sqlite_ast.specs.declared.Statement.TheVariants as written
use Rattle.std.specs.Prelude.{◌≡◌, ◌∷◌, ◌⊎◌}

-- a schema with no table and no view of the name refuses it
module _ (schema : Schema) (name : Name) (no_table : table_named schema name ≡ None)
    (no_view : view_named schema name ≡ None) where
  no_bounds : (from : From) (budget : ℕ) (l : Carried) → (out-Source from).origin ≡ origin.Table name
      → bounds schema (from ∷ []) (st 1 budget l) ≡ Err NoSuchTable
  unfolding bounds bound table_in take_slot
  no_bounds from budget l is = rw (is, no_table, no_view)

  no_select : (core : Core) (from : From) (order : List Sort) (page : Term × Term)
      → (out-Core core).from ≡ from ∷ []
      → (out-Source from).origin ≡ origin.Table name → named schema core order page ≡ Err NoSuchTable
  unfolding named parts body
  no_select core from order page one is = rw (one, no_bounds from 100000 nothing is)

  no_viewing : (core : Core) (order : List Sort) (page : Term × Term) (n : ℕ) (lets : List Let)
      → named schema core order page ≡ Err NoSuchTable
      → viewing (query_to 15) schema core order page (suc n) schema lets ≡ Err NoSuchTable
  unfolding viewing
  no_viewing core order page n lets is = rw is

  no_query : (s : written_select.Select) (core : Core) (from : From) (order : List Sort)
      → IsSelectOf s core order None
      → (out-Core core).from ≡ from ∷ [] → (out-Source from).origin ≡ origin.Table name
      → query schema s ≡ Err NoSuchTable
  unfolding query query_to level with whole paging constant_or alone single source sources
  no_query s core from order is one origin = rw (
    is,
    one,
    origin,
    no_viewing core order (no_limit, number 0) 63 []
        (no_select core from order (no_limit, number 0) one origin),
  )

  -- the whole text is refused
  pub refuses_query : (text : List ℕ) (P : Parsed) (s : written_select.Select) (core : Core) (from : From)
      (order : List Sort)
      → first text ≡ Ok P → P.statement ≡ written.Select s → P.formats ≡ []
      → IsSelectOf s core order None
      → (out-Core core).from ≡ from ∷ [] → (out-Source from).origin ≡ origin.Table name
      → compiled schema text ≡ Err NoSuchTable
  unfolding compiled planned timed meaning returning command read
  refuses_query text P s core from order parsed statement plain is one origin =
      rw (parsed, statement, plain, no_query s core from order is one origin)

-- a name that is neither the schema's nor the listing's isn't understood
pub understood_missing : (schema : Schema) (text : List ℕ) → compiled schema text ≡ Err NoSuchTable
    → compiled listing_schema text ≡ Err NoSuchTable → understood schema text ≡ Err NoSuchTable
unfolding understood
understood_missing schema text a b = rw (a, b)

-- a statement that isn't run inside a text that is one statement was refused as a text, or the store failed
pub not_run : (old new : State) (text : List ℕ) (e : Error)
    → OnlyShows text 0 (understood old.now.schema text)
    → IsNotRun old new text [] e
    → ((fault : CompileError) × (e ≡ SqlInputError fault) × (understood old.now.schema text ≡ Err fault)
    × IsUnchanged old new)
    ⊎ Fails old new ⊥ e
unfolding IsNotRun
not_run old new text e only (inl (inl it, same)) = inl (it.0, it.2, it.1, same)
not_run old new text e only (inl (inr (c, is, inl long), same)) = absurd (long.0 (only c is).whole)
not_run old new text e only (inl (inr (c, is, inr (inl many)), same)) = absurd (many.0 (only c is).given)
not_run old new text e only (inl (inr (c, is, inr (inr clock)), same)) = absurd (clock.0 (only c is).timeless)
not_run old new text e only (inr fails) = inr fails

-- what `prepare` tells, by its three answers
module _ (old new : State) (text : List ℕ) (only : OnlyShows text 0 (understood old.now.schema text)) where
  not_stored : (cause : StoreError) → is_text_refused (store_error cause) ≡ false
  not_stored OutOfMemory = refl
  not_stored other = refl

  by_error : (e : Error)
      → ((f : CompileError) × (e ≡ SqlInputError f) × (understood old.now.schema text ≡ Err f)
      × IsUnchanged old new)
      ⊎ Fails old new ⊥ e
      → (b : Bool) → is_text_refused e ≡ b → TellsUnderstood old new text (cond b (Ok false) (Err e))
  by_error e (inl it) true is = ((it.0, it.2), it.3)
  by_error e (inl it) false is = absurd (let t : is_text_refused e ≡ true = ap is_text_refused it.1 in cc)
  by_error e (inr fails) true is = absurd
      (let f : is_text_refused e ≡ false = ap is_text_refused fails.1 ∙ not_stored fails.0 in cc)
  by_error e (inr fails) false is = fails

  -- an error that refuses the text
  pub refuses_text : (e : Error) → is_text_refused e ≡ true → IsNotRun old new text [] e
      → TellsUnderstood old new text (Ok false)
  refuses_text e is h = by_error e (not_run old new text e only h) true is

  -- an error of the store
  pub fails_to_tell : (e : Error) → is_text_refused e ≡ false → IsNotRun old new text [] e
      → TellsUnderstood old new text (Err e)
  fails_to_tell e is h = by_error e (not_run old new text e only h) false is

-- ---- a probe

-- the text reads all columns of the table: under any schema it is one statement, which is understood where
-- the table stands, and is not where its name is free
pub record ProbesAs (table : Table) (text : List ℕ) : Type 0 where
  pub shows : (schema : Schema) → OnlyShows text 0 (understood schema text)
  pub there : (schema : Schema) (p tree : ℕ) → HasTable schema table.name p (placed_at table tree)
      → IsUnderstood schema text
  pub missing : (schema : Schema) → table_named schema table.name ≡ None → view_named schema table.name ≡ None
      → understood schema text ≡ Err NoSuchTable

module _ (table : Table) (text : List ℕ) (probes : ProbesAs table text) (free : table.references ≡ []) where
  named_there : (schema : Schema) → IsUnderstood schema text → IsThere schema table.name
  named_there schema ok = go (table_named schema table.name) (view_named schema table.name) refl refl
    where
      go : (t v : Option ℕ) → table_named schema table.name ≡ t → view_named schema table.name ≡ v
          → IsThere schema table.name
      go (Some t) v is other = inl (λ none. let e = sym is ∙ none in cc)
      go None (Some v) other is = inr (λ none. let e = sym is ∙ none in cc)
      go None None a b = absurd (let e : Ok ok.0 ≡ Err NoSuchTable = sym ok.1
          ∙ probes.missing schema a b in cc)

  not_defined : (db : Database) (fault : CompileError) → understood db.schema text ≡ Err fault
      → ∥ IsDatabase db ∥₁
      → ¬ Defines db.schema table
  not_defined db fault is sound d =
      let at = standing db table free sound d in
      let ok = probes.there db.schema at.place (tree_of db.schema table.name) at.has in
      absurd (let e : Ok ok.0 ≡ Err fault = sym ok.1 ∙ is in cc)

  -- what acceptance and refusal say of an arbitrary schema
  pub tells_probe : (old new : State) (r : Result Bool Error) → TellsUnderstood old new text r
      → TellsProbe old new table r
  tells_probe old new (Ok true) h = (named_there old.now.schema h.0, h.1)
  tells_probe old new (Ok false) h = (not_defined old.now h.0.0 h.0.1, h.1)
  tells_probe old new (Err e) h = h
