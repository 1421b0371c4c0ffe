-- SELECT over one table, under any schema that has it.
use Rattle.sql_meanings.specs.Names.{ℕ, List, [], map, Ok, None, Option, true, false, Collation, Key, Program, Select}
use Rattle.sql_meanings.specs.Names.{Term, Schema, Table, Expr, Core, out-Core, Shown, Sort, out-Source, Draft, Inner}
use Rattle.sql_meanings.specs.Names.{Output, Carried, nothing, take_slot, Name, number, table_in, bound, bounds}
use Rattle.sql_meanings.specs.Names.{outputs, tests, body, sorts, parts, ungrouped, named, paging, constant_or, lower}
use Rattle.sql_meanings.specs.Names.{viewing, single, source, sources, whole, with, level, query_to, query, program}
use Rattle.sql_meanings.specs.Names.{read}
use Rattle.sql_meanings.proofs.{Names.suc, Columns.bound_to, Columns.over_one, Expressions.st, Statements.HasTable}
use Rattle.sqlite_schema.specs.declared.program.Table.{Table as Let}
use Rattle.sqlite_ast.specs.declared.Select.{out-Select}
use Rattle.sqlite_ast.specs.declared.Source.{Source as From}
use Rattle.sqlite_resolve.specs.Body.{shared, joins, join, inner_join, result, matching}
use Rattle.sqlite_resolve.specs.{Order.keys, Select.having, Select.assembled, Program.alone}
use Rattle.sql_meanings.specs.Queries.{no_limit}
use Rattle.sqlite_ast.specs.declared.Select as written_select
use Rattle.sqlite_ast.specs.declared.Origin.TheVariants as origin
use Rattle.std.specs.Prelude.{◌≡◌, ◌∷◌}

-- a SELECT of one part, in this order and with this limit, if there is one
abbrev pub IsSelectOf : written_select.Select → Core → List Sort → Option Expr → Type 0
IsSelectOf s core order limit = out-Select s
    ≡ record { with = []; first = core; others = []; order = order; limit = limit; offset = None }

-- the part: what is shown of one source, WHERE a test holds, if there is one
abbrev pub IsPartOf : Core → List Shown → From → Option Expr → Type 0
IsPartOf core shown source filter = out-Core core ≡ record {
  distinct = false;
  shown = shown;
  from = source ∷ [];
  filter = filter;
  group = [];
  having = None;
}

-- FROM one table by its name
abbrev pub one_table : Name → From → Type 0
one_table name source = out-Source source
    ≡ record { is_left = false; origin = origin.Table name; alias = None; on = None; using = [] }

module _ (schema : Schema) (name : Name) (p : ℕ) (table : Table) (has : HasTable schema name p table) where
  -- FROM names the table
  pub bounds_are : (source : From) (budget : ℕ) (l : Carried)
      → one_table name source
      → bounds schema (source ∷ []) (st 1 budget l) ≡ Ok (bound_to name p ∷ [], st 2 budget l)
  unfolding bounds bound table_in take_slot
  bounds_are source budget l is = rw (is, has.named)

  -- and reads it whole
  pub joins_are : (source : From) (shown : List Output) (budget : ℕ) (l : Carried)
      → one_table name source
      → joins lower (over_one schema name p shown false) (bound_to name p ∷ []) (source ∷ []) (st 2 budget l)
      ≡ Ok (record { steps = Inner table.tree ∷ []; filter = [] }, st 2 budget l)
  unfolding joins join shared inner_join tests
  joins_are source shown budget l is = rw (is, has.listed)

  -- a SELECT by its parts
  pub parts_are : (core : Core) (source : From) (shown : List Shown) (filter : Option Expr)
      (order : List Sort) (os : List Output)
      (terms : List Term) (by : List (Term × Key)) (b1 b2 b3 : ℕ) (l1 l2 l3 : Carried)
      → IsPartOf core shown source filter
      → one_table name source
      → outputs lower (over_one schema name p [] true) (bound_to name p ∷ []) shown (st 2 100000 nothing) ≡ Ok
      (os, st 2 b1 l1)
      → tests lower (over_one schema name p os false) [] filter (st 2 b1 l1) ≡ Ok (terms, st 2 b2 l2)
      → sorts lower (over_one schema name p os false) os order (st 2 b2 l2) ≡ Ok (by, st 2 b3 l3)
      → (page : Term × Term) → named schema core order page ≡ Ok (
        ungrouped (Inner table.tree ∷ []) terms os false by page.0 page.1,
        map (λ o. o.name) os,
        map (λ o. o.carried.collation) os,
      )
  unfolding named parts body result matching keys having tests assembled
  parts_are core source shown filter order os terms by b1 b2 b3 l1 l2 l3 is from one two three page =
      rw (is, bounds_are source 100000 nothing from, one, joins_are source os b1 l1 from, two, three)

-- a SELECT of one part, whose tables are all stored
module _ (schema : Schema) where
  pub viewing_is : (core : Core) (order : List Sort) (page : Term × Term) (n : ℕ)
      (shown : Draft × List Name × List (Option Collation))
      (lets : List Let) → named schema core order page ≡ Ok shown
      → viewing (query_to 15) schema core order page (suc n) schema lets ≡ Ok ((shown, schema), lets)
  unfolding viewing
  viewing_is core order page n shown lets is = rw is

  -- a SELECT of one part
  pub query_is : (s : written_select.Select) (core : Core) (source : From) (from : Name) (order : List Sort)
      (shown : Draft × List Name
      × List (Option Collation))
      → IsSelectOf s core order None
      → (out-Core core).from ≡ source ∷ [] → (out-Source source).origin ≡ origin.Table from
      → named schema core order (no_limit, number 0) ≡ Ok shown
      → query schema s ≡ Ok (shown, [])
  unfolding query query_to level with whole paging constant_or alone single source sources
  query_is s core source from order shown is one origin made =
      rw (is, one, origin, viewing_is core order (no_limit, number 0) 63 shown [] made)

  -- the statement of a query
  pub read_is : (s : written_select.Select) (shown : Draft × List Name × List (Option Collation))
      (q : Program)
      → query schema s ≡ Ok (shown, []) → program schema [] shown.0 ≡ Ok q
      → read schema s ≡ Ok (Select q shown.1)
  unfolding read
  read_is s shown q one two = rw (one, two)
