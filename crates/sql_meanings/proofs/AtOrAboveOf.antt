-- The next rows from a key on among those with a number in a column, under any schema.
use Rattle.sql_meanings.specs.Names.{Bool, ℕ, List, [], map, Ok, Some, None, true, false, Program, Select, lit, col}
use Rattle.sql_meanings.specs.Names.{op2, Value, Schema, Table, Expr, out-Expr, Expr-F, Core, Shown, Sort, out-Sort}
use Rattle.sql_meanings.specs.Names.{Parsed, Inner, Output, Carried, integer, nothing, alone, Name, declared}
use Rattle.sql_meanings.specs.Names.{alias_of, number, affinity_of, ungrouped, lower_to, both, source}
use Rattle.sql_meanings.specs.Names.{compiled, first, with_command}
use Rattle.sql_meanings.proofs.Names.{suc, nat_lt, ap, ◌∙◌}
use Rattle.sqlite_value.specs.declared.keys.Collation.TheVariants.{Binary}
use Rattle.sqlite_ast.specs.declared.Source.{Source as From}
use Rattle.sql_meanings.proofs.{Columns.over_one, Columns.column_is, Statements.HasTable, Statements.compiled_select}
use Rattle.sql_meanings.proofs.Expressions.{st, lower_column, lower_parameter, lower_and}
use Rattle.sql_meanings.proofs.ByKey.{Tests, parameter_at, key_test}
use Rattle.sql_meanings.proofs.OneTable.{IsPartOf, IsSelectOf, one_table, parts_are, read_is}
use Rattle.sql_meanings.proofs.ShownColumns.{ShowsColumns, HasRoom, spent, last_of}
use Rattle.sql_meanings.proofs.Selects.{one_test, one_order, outputs_are_all}
use Rattle.sql_meanings.proofs.Above.{Onwards, compared_start, constant_is, lower_start, paged_is}
use Rattle.sqlite_sql.specs.declared.ops.BinaryOp.TheVariants as by
use Rattle.sqlite_sql.specs.declared.ops.CompareOp.TheVariants as compare
use Rattle.sqlite_ast.specs.declared.Binary.TheVariants as binary
use Rattle.sqlite_ast.specs.declared.Statement.TheVariants as written
use Rattle.sqlite_ast.specs.declared.Select as written_select
use Rattle.sqlite_resolve.specs.declared.compare.Affinity.TheVariants as affinity
use Rattle.sqlite_resolve.specs.Program as prog
use Rattle.std.specs.Prelude.{◌≡◌, ◌-◌, ◌∷◌}

module _ (schema : Schema) (p : ℕ) (table : Table) (name : Name) (shown : List Output) (may : Bool)
    (has : HasTable schema name p table) where
  -- the test that a column is a parameter or above it
  from_test : (e a b : Expr) (wanted : Name) (at m : ℕ) (t : Tests table wanted at) (d next budget : ℕ)
      (l : Carried)
      → out-Expr e ≡ Expr-F.Binary binary.Ge a b → out-Expr a ≡ Expr-F.Column None wanted
      → out-Expr b ≡ Expr-F.Parameter m
      → affinity_of (over_one schema name p shown may) (col 1 at) ≡ affinity.Numeric
      → nat_lt 1 budget ≡ true → nat_lt 1 (budget - 1) ≡ true → nat_lt 1 (budget - 1 - 1) ≡ true
      → lower_to (suc (suc d)) (over_one schema name p shown may) e (st next budget l)
      ≡ Ok (
        op2 (by.Compare compare.Ge Binary) (col 1 at) (col 0 (m - 1)),
        st next (budget - 1 - 1 - 1) nothing,
      )
  from_test e a b wanted at m t d next budget l is left right number one two three =
      let cx = over_one schema name p shown may in
      let here = column_is schema p table has.listed name shown may wanted t.place t.column
      (st next (budget - 1 - 1) nothing) t.named t.there in
      let x = lower_column cx a wanted _ _ d next (budget - 1) nothing left two here in
      let y = lower_parameter cx b m d next (budget - 1 - 1) (declared table t.place t.column) right three in
      lower_start Onwards cx e a b _ _ _ _ (suc d) next budget _ _ l is one x y
      ∙ rw (
        t.by_bytes,
        t.is_at,
        compared_start Onwards cx at (m - 1) number
            (parameter_at schema name p shown may (m - 1)),
      )

module _ (schema : Schema) (name : Name) (p : ℕ) (table : Table) (has : HasTable schema name p table) where
  -- SELECT columns FROM table WHERE other = ?m AND key >= ?n ORDER BY key LIMIT 1
  pub select_two_from : (text : List ℕ) (P : Parsed) (s : written_select.Select) (core : Core) (source : From)
      (shown : List Shown)
      (both test a b test' a' b' e limit : Expr) (sort : Sort) (wanted wanted' most : Name) (v : Value)
      (at m at' m' : ℕ)
      (t : Tests table wanted at) (t' : Tests table wanted' at') (os : List Output) (q : Program)
      → first text ≡ Ok P → P.statement ≡ written.Select s → P.formats ≡ []
      → IsSelectOf s core (sort ∷ []) (Some limit)
      → IsPartOf core shown source (Some both)
      → one_table name source
      → out-Expr both ≡ Expr-F.Binary binary.And test test'
      → out-Expr test ≡ Expr-F.Binary binary.Eq a b → out-Expr a ≡ Expr-F.Column None wanted
      → out-Expr b ≡ Expr-F.Parameter m
      → out-Expr test' ≡ Expr-F.Binary binary.Ge a' b' → out-Expr a' ≡ Expr-F.Column None wanted'
      → out-Expr b' ≡ Expr-F.Parameter m'
      → out-Sort sort ≡ record { key = e; descending = false; nulls_first = None }
      → out-Expr e ≡ Expr-F.Column None wanted'
      → alias_of wanted' os ≡ None
      → out-Expr limit ≡ Expr-F.Integer most → integer false most ≡ Ok v
      → ShowsColumns table shown os → HasRoom 100000 os
      → affinity_of (over_one schema name p os false) (col 1 at) ≡ affinity.Numeric
      → affinity_of (over_one schema name p os false) (col 1 at') ≡ affinity.Numeric
      → (r0 : nat_lt 1 (spent 100000 os) ≡ true) (r1 : nat_lt 1 (spent 100000 os - 1) ≡ true)
      (r2 : nat_lt 1 (spent 100000 os - 1 - 1) ≡ true)
      (r3 : nat_lt 1 (spent 100000 os - 1 - 1 - 1) ≡ true)
      (r4 : nat_lt 1 (spent 100000 os - 1 - 1 - 1 - 1) ≡ true)
      (r5 : nat_lt 1 (spent 100000 os - 1 - 1 - 1 - 1 - 1) ≡ true)
      (r6 : nat_lt 1 (spent 100000 os - 1 - 1 - 1 - 1 - 1 - 1) ≡ true)
      (r7 : nat_lt 1 (spent 100000 os - 1 - 1 - 1 - 1 - 1 - 1 - 1) ≡ true)
      → alone (declared table t'.place t'.column) ≡ Binary
      → prog.program schema [] (ungrouped (Inner table.tree ∷ [])
      (op2 (by.Compare compare.Eq Binary) (col 1 at) (col 0 (m - 1)) ∷ op2 (by.Compare compare.Ge Binary)
      (col 1 at') (col 0 (m' - 1)) ∷ []) os false
      ((col 1 at', record { collation = Binary; descending = false }) ∷ []) (lit v) (number 0)) ≡ Ok q
      → compiled schema text ≡ Ok (with_command P ([], (Select q (map (λ o. o.name) os), None)))
  select_two_from text P s core source shown both test a b test' a' b' e limit sort wanted wanted' most v at m
      at' m' t t' os q parsed is plain select body
      from and equal left right above left' right' sorts e_is none cap value shows room number number' r0 r1
      r2 r3 r4 r5 r6 r7 bytes typed =
      let cx = over_one schema name p os false in
      let B = spent 100000 os in
      let low = key_test schema p table has.listed name os false test a b wanted at m t 697 2
      (B - 1) nothing equal left right number r1 r2 r3 in
      let low' = from_test schema p table name os false has test' a' b' wanted' at' m' t' 697 2
      (B - 1 - 1 - 1 - 1) nothing above left' right' number' r4 r5 r6 in
      let whole = lower_and cx both test test' _ _ _ _ 699 2 B _ _ (last_of nothing os) and r0 low low' in
      let there = column_is schema p table has.listed name os false wanted' t'.place t'.column
      (st 2 (B - 1 - 1 - 1 - 1 - 1 - 1 - 1 - 1) nothing) t'.named t'.there in
      let z = lower_column cx e wanted' _ _ 699 2 (B - 1 - 1 - 1 - 1 - 1 - 1 - 1) nothing e_is r7 (there
      ∙ ap (λ k. Ok (col 1 k, st 2 (B - 1 - 1 - 1 - 1 - 1 - 1 - 1 - 1) (declared table t'.place t'.column)))
      t'.is_at) in
      let by_key = one_order cx os sort e wanted' at' _ _ _ _ (ap (λ w. w.key) sorts)
      (ap (λ w. w.descending) sorts)
      (ap (λ w. w.nulls_first) sorts) e_is none z in
      let made = parts_are schema name p table has core source shown (Some both)
      (sort ∷ []) os _ _ _ _ _ _ _ _ body from
      (outputs_are_all schema p table has.listed name shown os shows room) (one_test cx both _ _ _ _ _ whole)
      (rw bytes at by_key)
      (lit v, Rattle.sqlite_resolve.specs.Terms.number 0) in
      let page = paged_is schema s core source name (sort ∷ []) limit (lit v) _ select (ap (λ c. c.from) body)
      (ap (λ c. c.origin) from)
      (constant_is schema limit most v cap value) made in
      compiled_select schema text P s _ parsed is plain (read_is schema s _ q page typed)
