-- The next rows above a key, or from it on, under any schema.
use Rattle.sql_meanings.specs.Names.{ℕ, List, [], map, Ok, Some, None, Option, true, false, Collation, Program}
use Rattle.sql_meanings.specs.Names.{Select, Term, lit, col, op2, Value, Schema, Table, Expr, out-Expr, Expr-F, Core}
use Rattle.sql_meanings.specs.Names.{out-Core, Shown, Sort, out-Sort, out-Source, Parsed, Draft, Inner, Output}
use Rattle.sql_meanings.specs.Names.{Carried, integer, nothing, alone, chosen, begin, finish, spend, Name, Context}
use Rattle.sql_meanings.specs.Names.{declared, alias_of, number, compared, affinity_of, converted, may_be_text}
use Rattle.sql_meanings.specs.Names.{ungrouped, named, paging, constant_or, lower, lower_to, node, opened, passes}
use Rattle.sql_meanings.specs.Names.{operation, both, wanted_truth, tests_truth, tests_alias, combine, single, source}
use Rattle.sql_meanings.specs.Names.{sources, whole, with, level, query_to, query, compiled, first, with_command}
use Rattle.sql_meanings.proofs.Names.{suc, refl, nat_lt, ap, ◌∙◌}
use Rattle.sqlite_value.specs.declared.keys.Collation.TheVariants.{Binary}
use Rattle.sqlite_sql.specs.declared.ops.CompareOp.{CompareOp}
use Rattle.sqlite_ast.specs.declared.Binary.{Binary as Operator}
use Rattle.sqlite_ast.specs.declared.Source.{Source as From}
use Rattle.sqlite_resolve.specs.Select.{constant, stepless, outermost}
use Rattle.sql_meanings.proofs.{Columns.over_one, Columns.column_is, ByKey.Tests, ByKey.parameter_at}
use Rattle.sql_meanings.proofs.Expressions.{st, lower_column, lower_parameter}
use Rattle.sql_meanings.proofs.Statements.{HasTable, compiled_select}
use Rattle.sql_meanings.proofs.OneTable.{IsPartOf, IsSelectOf, one_table, parts_are, read_is, viewing_is}
use Rattle.sql_meanings.proofs.ShownColumns.{ShowsColumns, HasRoom, spent, last_of}
use Rattle.sql_meanings.proofs.Selects.{one_test, one_order, outputs_are_all}
use Rattle.sqlite_sql.specs.declared.ops.BinaryOp.TheVariants as by
use Rattle.sqlite_sql.specs.declared.ops.CompareOp.TheVariants as compare
use Rattle.sqlite_ast.specs.declared.Binary.TheVariants as binary
use Rattle.sqlite_ast.specs.declared.Statement.TheVariants as written
use Rattle.sqlite_ast.specs.declared.Select as written_select
use Rattle.sqlite_ast.specs.declared.Origin.TheVariants as origin
use Rattle.sqlite_resolve.specs.declared.compare.Affinity.TheVariants as affinity
use Rattle.sqlite_resolve.specs.Program as prog
use Rattle.std.specs.Prelude.{◌≡◌, ◌-◌, ◌∷◌}

lower_integer : (cx : Context) (e : Expr) (text : List ℕ) (v : Value) (d next budget : ℕ) (l : Carried)
    → out-Expr e ≡ Expr-F.Integer text → integer false text ≡ Ok v → nat_lt 1 budget ≡ true
    → lower_to (suc d) cx e (st next budget l) ≡ Ok (lit v, st next (budget - 1) nothing)
unfolding lower_to node spend begin opened finish passes
lower_integer cx e text v d next budget l is value enough = rw (is, enough, value)

-- where the rows begin: above a key, or at it
pub data Start : Type 0 where
  Beyond : Start
  Onwards : Start

abbrev pub written_as : Start → Operator
written_as Beyond = binary.Gt
written_as Onwards = binary.Ge

abbrev pub compared_by : Start → CompareOp
compared_by Beyond = compare.Gt
compared_by Onwards = compare.Ge

pub lower_start : (k : Start) (cx : Context) (e a b : Expr) (x y : Term) (p q : Carried)
    (d next budget b1 b2 : ℕ) (l : Carried)
    → out-Expr e ≡ Expr-F.Binary (written_as k) a b → nat_lt 1 budget ≡ true
    → lower_to d cx a (st next (budget - 1) nothing) ≡ Ok (x, st next b1 p)
    → lower_to d cx b (st next b1 p) ≡ Ok (y, st next b2 q)
    → lower_to (suc d) cx e (st next budget l)
    ≡ Ok (compared cx (by.Compare (compared_by k) (chosen p q)) x y, st next b2 nothing)
unfolding lower_to node spend begin opened finish passes operation both wanted_truth tests_truth tests_alias
    combine
lower_start Beyond cx e a b x y p q d next budget b1 b2 l is enough left right = rw (is, enough, left, right)
lower_start Onwards cx e a b x y p q d next budget b1 b2 l is enough left right = rw (is, enough, left, right)

pub compared_start : (k : Start) (cx : Context) (at m : ℕ)
    → affinity_of cx (col 1 at) ≡ affinity.Numeric → affinity_of cx (col 0 m) ≡ affinity.None
    → compared cx (by.Compare (compared_by k) Binary) (col 1 at) (col 0 m)
    ≡ op2 (by.Compare (compared_by k) Binary) (col 1 at) (col 0 m)
unfolding compared converted may_be_text
compared_start Beyond cx at m left right = rw (left, right)
compared_start Onwards cx at m left right = rw (left, right)

module _ (schema : Schema) where
  -- a LIMIT by an integer
  pub constant_is : (e : Expr) (text : List ℕ) (v : Value) → out-Expr e ≡ Expr-F.Integer text
      → integer false text ≡ Ok v
      → constant schema e ≡ Ok (lit v)
  unfolding constant stepless
  constant_is e text v is value = rw
      (lower_integer (outermost schema) e text v 699 1 100000 nothing is value refl)

  -- a SELECT of one table, with a LIMIT
  pub paged_is : (s : written_select.Select) (core : Core) (source : From) (from : Name) (order : List Sort)
      (limit : Expr) (most : Term)
      (shown : Draft × List Name × List (Option Collation))
      → IsSelectOf s core order (Some limit)
      → (out-Core core).from ≡ source ∷ [] → (out-Source source).origin ≡ origin.Table from
      → constant schema limit ≡ Ok most
      → named schema core order (most, number 0) ≡ Ok shown
      → query schema s ≡ Ok (shown, [])
  unfolding query query_to level with whole paging constant_or prog.alone single source sources
  paged_is s core source from order limit most shown is one origin cap made =
      rw (is, one, origin, cap, viewing_is schema core order (most, number 0) 63 shown [] made)

module _ (schema : Schema) (name : Name) (p : ℕ) (table : Table) (has : HasTable schema name p table) where
  -- SELECT columns FROM table WHERE key > ?m ORDER BY key LIMIT n, and the same with >=
  pub select_rising : (k : Start) (text : List ℕ) (P : Parsed) (s : written_select.Select) (core : Core)
      (source : From) (shown : List Shown)
      (test a b e limit : Expr) (sort : Sort) (wanted most : Name) (v : Value) (at m : ℕ)
      (t : Tests table wanted at) (os : List Output)
      (q : Program)
      → first text ≡ Ok P → P.statement ≡ written.Select s → P.formats ≡ []
      → IsSelectOf s core (sort ∷ []) (Some limit)
      → IsPartOf core shown source (Some test)
      → one_table name source
      → out-Expr test ≡ Expr-F.Binary (written_as k) a b → out-Expr a ≡ Expr-F.Column None wanted
      → out-Expr b ≡ Expr-F.Parameter m
      → out-Sort sort ≡ record { key = e; descending = false; nulls_first = None }
      → out-Expr e ≡ Expr-F.Column None wanted
      → alias_of wanted os ≡ None
      → out-Expr limit ≡ Expr-F.Integer most → integer false most ≡ Ok v
      → ShowsColumns table shown os → HasRoom 100000 os
      → affinity_of (over_one schema name p os false) (col 1 at) ≡ affinity.Numeric
      → (r0 : nat_lt 1 (spent 100000 os) ≡ true) (r1 : nat_lt 1 (spent 100000 os - 1) ≡ true)
      (r2 : nat_lt 1 (spent 100000 os - 1 - 1)
      ≡ true) (r3 : nat_lt 1 (spent 100000 os - 1 - 1 - 1) ≡ true)
      → alone (declared table t.place t.column) ≡ Binary
      → prog.program schema [] (ungrouped (Inner table.tree ∷ [])
      (op2 (by.Compare (compared_by k) Binary) (col 1 at) (col 0 (m - 1)) ∷ []) os false
      ((col 1 at, record { collation = Binary; descending = false }) ∷ []) (lit v) (number 0)) ≡ Ok q
      → compiled schema text ≡ Ok (with_command P ([], (Select q (map (λ o. o.name) os), None)))
  select_rising k text P s core source shown test a b e limit sort wanted most v at m t os q parsed is plain
      select body from above left
      right sorts e_is none cap value shows room number r0 r1 r2 r3 bytes typed =
      let cx = over_one schema name p os false in
      let B = spent 100000 os in
      let here = column_is schema p table has.listed name os false wanted t.place t.column
      (st 2 (B - 1 - 1) nothing) t.named t.there in
      let x = lower_column cx a wanted _ _ 698 2 (B - 1) nothing left r1 here in
      let y = lower_parameter cx b m 698 2 (B - 1 - 1) (declared table t.place t.column) right r2 in
      let low : lower cx test (st 2 B (last_of nothing os)) ≡ Ok (
        op2 (by.Compare (compared_by k) Binary) (col 1 at) (col 0 (m - 1)),
        st 2 (B - 1 - 1 - 1) nothing,
      ) = lower_start k cx test a b _ _ _ _ 699 2 B _ _ (last_of nothing os) above r0 x y
      ∙ rw (
        t.by_bytes,
        t.is_at,
        compared_start k cx at (m - 1) number
            (parameter_at schema name p os false (m - 1)),
      ) in
      let there = column_is schema p table has.listed name os false wanted t.place t.column
      (st 2 (B - 1 - 1 - 1 - 1) nothing) t.named t.there in
      let z = lower_column cx e wanted _ _ 699 2 (B - 1 - 1 - 1) nothing e_is r3 (there
      ∙ ap (λ k. Ok (col 1 k, st 2 (B - 1 - 1 - 1 - 1) (declared table t.place t.column))) t.is_at) in
      let by_key = one_order cx os sort e wanted at _ _ _ _ (ap (λ w. w.key) sorts)
      (ap (λ w. w.descending) sorts)
      (ap (λ w. w.nulls_first) sorts) e_is none z in
      let made = parts_are schema name p table has core source shown (Some test)
      (sort ∷ []) os _ _ _ _ _ _ _ _ body from
      (outputs_are_all schema p table has.listed name shown os shows room) (one_test cx test _ _ _ _ _ low)
      (rw bytes at by_key)
      (lit v, Rattle.sqlite_resolve.specs.Terms.number 0) in
      let whole = paged_is schema s core source name (sort ∷ []) limit (lit v) _ select
      (ap (λ c. c.from) body) (ap (λ c. c.origin) from)
      (constant_is schema limit most v cap value) made in
      compiled_select schema text P s _ parsed is plain (read_is schema s _ q whole typed)
