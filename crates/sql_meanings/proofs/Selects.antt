-- Whole SELECTs over one table, and those of the bank.
use Rattle.sql_meanings.specs.Names.{ℕ, List, [], map, Ok, Some, None, Option, slice_get, true, false, Key, Compare}
use Rattle.sql_meanings.specs.Names.{Eq, Program, Select, Term, col, op2, Schema, Table, Expr, out-Expr, Expr-F, Core}
use Rattle.sql_meanings.specs.Names.{Shown, Sort, out-Sort, Parsed, Inner, Output, Carried, nothing, alone, Name}
use Rattle.sql_meanings.specs.Names.{Context, alias_of, tests, outputs, sorts, number, conjuncts, affinity_of}
use Rattle.sql_meanings.specs.Names.{ungrouped, lower, compiled, first, with_command}
use Rattle.sql_meanings.proofs.Names.{refl, nat_lt, ap}
use Rattle.sqlite_value.specs.declared.keys.Collation.TheVariants.{Binary}
use Rattle.sqlite_ast.specs.declared.Source.{Source as From}
use Rattle.sql_meanings.proofs.{Columns.bound_to, Columns.over_one, Expressions.st, Expressions.lower_and}
use Rattle.sql_meanings.proofs.{Statements.HasTable, Statements.compiled_select, ByKey.Tests, ByKey.key_test}
use Rattle.sql_meanings.specs.Queries.{no_limit}
use Rattle.sql_meanings.proofs.OneTable.{IsPartOf, IsSelectOf, one_table, parts_are, query_is, read_is}
use Rattle.sql_meanings.proofs.ShownColumns.{ShowsColumns, HasRoom, spent, last_of, outputs_are}
use Rattle.sqlite_ast.specs.declared.Binary.TheVariants as binary
use Rattle.sqlite_ast.specs.declared.Statement.TheVariants as written
use Rattle.sqlite_ast.specs.declared.Select as written_select
use Rattle.sqlite_resolve.specs.declared.compare.Affinity.TheVariants as affinity
use Rattle.sqlite_resolve.specs.Order as order
use Rattle.sqlite_resolve.specs.Program as prog
use Rattle.std.specs.Prelude.{◌≡◌, ◌-◌, ◌∷◌}

-- no WHERE
pub no_test : (cx : Context) (budget : ℕ) (l : Carried)
    → tests lower cx [] None (st 2 budget l) ≡ Ok ([], st 2 budget l)
unfolding tests
no_test cx budget l = refl

-- WHERE
pub one_test : (cx : Context) (e : Expr) (t : Term) (budget after : ℕ) (l m : Carried)
    → lower cx e (st 2 budget l) ≡ Ok (t, st 2 after m)
    → tests lower cx [] (Some e) (st 2 budget l) ≡ Ok (conjuncts t, st 2 after m)
unfolding tests
one_test cx e t budget after l m is = rw is

-- no ORDER BY
pub no_order : (cx : Context) (os : List Output) (budget : ℕ) (l : Carried)
    → sorts lower cx os [] (st 2 budget l) ≡ Ok ([], st 2 budget l)
unfolding sorts
no_order cx os budget l = refl

peeled_is : (e : Expr) (wanted : Name) → out-Expr e ≡ Expr-F.Column None wanted → order.peeled e ≡ e
unfolding order.peeled
peeled_is e wanted is = rw is

alias_is : (os : List Output) (e : Expr) (wanted : Name) → out-Expr e ≡ Expr-F.Column None wanted
    → order.alias_in os e ≡ alias_of wanted os
unfolding order.alias_in
alias_is os e wanted is = rw is

numeral_is : (e : Expr) (wanted : Name) → out-Expr e ≡ Expr-F.Column None wanted → order.is_numeral e ≡ false
unfolding order.is_numeral
numeral_is e wanted is = rw is

written_is : (e : Expr) (wanted : Name) → out-Expr e ≡ Expr-F.Column None wanted → order.written_on e ≡ None
unfolding order.written_on
written_is e wanted is = rw is

-- ORDER BY a column that is no alias
pub one_order : (cx : Context) (os : List Output) (s : Sort) (e : Expr) (wanted : Name) (at budget after : ℕ)
    (l m : Carried)
    → (out-Sort s).key ≡ e → (out-Sort s).descending ≡ false → (out-Sort s).nulls_first ≡ None
    → out-Expr e ≡ Expr-F.Column None wanted → alias_of wanted os ≡ None
    → lower cx e (st 2 budget l) ≡ Ok (col 1 at, st 2 after m)
    → sorts lower cx os (s ∷ []) (st 2 budget l)
    ≡ Ok ((col 1 at, record { collation = alone m; descending = false }) ∷ [], st 2 after m)
unfolding sorts order.sort order.key order.collation_of order.placed
one_order cx os s e wanted at budget after l m key down nulls is none low =
    rw (
      key,
      peeled_is e wanted is,
      alias_is os e wanted is,
      none,
      low,
      numeral_is e wanted is,
      written_is e wanted is,
      down,
      nulls,
    )

-- all columns that are shown
pub outputs_are_all : (schema : Schema) (p : ℕ) (table : Table)
    (listed : slice_get schema.tables p ≡ Some table) (name : Name)
    (ss : List Shown) (os : List Output) → ShowsColumns table ss os → HasRoom 100000 os
    → outputs lower (over_one schema name p [] true) (bound_to name p ∷ []) ss (st 2 100000 nothing)
    ≡ Ok (os, st 2 (spent 100000 os) (last_of nothing os))
unfolding outputs
outputs_are_all schema p table listed name ss os shows room =
    outputs_are schema p table listed name true ss os [] 100000 nothing shows room

module _ (schema : Schema) (name : Name) (p : ℕ) (table : Table) (has : HasTable schema name p table) where
  -- SELECT columns FROM table [WHERE test] [ORDER BY]
  pub select_is : (text : List ℕ) (P : Parsed) (s : written_select.Select) (core : Core) (source : From)
      (shown : List Shown)
      (filter : Option Expr) (order : List Sort) (os : List Output)
      (terms : List Term) (by : List (Term × Key)) (b2 b3 : ℕ) (l2 l3 : Carried) (q : Program)
      → first text ≡ Ok P → P.statement ≡ written.Select s → P.formats ≡ []
      → IsSelectOf s core order None
      → IsPartOf core shown source filter
      → one_table name source
      → ShowsColumns table shown os → HasRoom 100000 os
      → tests lower (over_one schema name p os false) [] filter (st 2 (spent 100000 os) (last_of nothing os))
      ≡ Ok (terms, st 2 b2 l2)
      → sorts lower (over_one schema name p os false) os order (st 2 b2 l2) ≡ Ok (by, st 2 b3 l3)
      → prog.program schema [] (ungrouped (Inner table.tree ∷ []) terms os false by no_limit (number 0))
      ≡ Ok q
      → compiled schema text ≡ Ok (with_command P ([], (Select q (map (λ o. o.name) os), None)))
  select_is text P s core source shown filter order os terms by b2 b3 l2 l3 q parsed is plain select body from
      shows room two three typed
      =
      let one = outputs_are_all schema p table has.listed name shown os shows room in
      let made = parts_are schema name p table has core source shown filter order os terms by _ b2 b3 _ l2 l3
      body from one two three
      (no_limit, number 0) in
      let whole = query_is schema s core source name order _ select (ap (λ c. c.from) body)
      (ap (λ c. c.origin) from) made in
      compiled_select schema text P s _ parsed is plain (read_is schema s _ q whole typed)

  -- SELECT columns FROM table WHERE key = ?m
  pub select_by_key : (text : List ℕ) (P : Parsed) (s : written_select.Select) (core : Core) (source : From)
      (shown : List Shown)
      (test a b : Expr) (wanted : Name) (at m : ℕ) (t : Tests table wanted at) (os : List Output)
      (q : Program)
      → first text ≡ Ok P → P.statement ≡ written.Select s → P.formats ≡ []
      → IsSelectOf s core [] None
      → IsPartOf core shown source (Some test)
      → one_table name source
      → out-Expr test ≡ Expr-F.Binary binary.Eq a b → out-Expr a ≡ Expr-F.Column None wanted
      → out-Expr b ≡ Expr-F.Parameter m
      → ShowsColumns table shown os → HasRoom 100000 os
      → affinity_of (over_one schema name p os false) (col 1 at) ≡ affinity.Numeric
      → nat_lt 1 (spent 100000 os) ≡ true → nat_lt 1 (spent 100000 os - 1) ≡ true
      → nat_lt 1 (spent 100000 os - 1 - 1) ≡ true
      → prog.program schema [] (ungrouped (Inner table.tree ∷ [])
      (op2 (Compare Eq Binary) (col 1 at) (col 0 (m - 1)) ∷ []) os false [] no_limit (number 0)) ≡ Ok q
      → compiled schema text ≡ Ok (with_command P ([], (Select q (map (λ o. o.name) os), None)))
  select_by_key text P s core source shown test a b wanted at m t os q parsed is plain select body from equal
      left right shows room
      number r1 r2 r3 typed =
      let cx = over_one schema name p os false in
      let low = key_test schema p table has.listed name os false test a b wanted at m t 698 2
      (spent 100000 os)
      (last_of nothing os) equal left right number r1 r2 r3 in
      select_is text P s core source shown
      (Some test) [] os _ [] _ _ _ _ q parsed is plain select body from shows room
      (one_test cx test _ _ _ _ _ low) (no_order cx os _ _) typed

  -- SELECT columns FROM table WHERE key = ?m AND other = ?n
  pub select_by_two : (text : List ℕ) (P : Parsed) (s : written_select.Select) (core : Core) (source : From)
      (shown : List Shown)
      (both test a b test' a' b' : Expr) (wanted wanted' : Name) (at m at' m' : ℕ)
      (t : Tests table wanted at) (t' : Tests table wanted' at') (os : List Output) (q : Program)
      → first text ≡ Ok P → P.statement ≡ written.Select s → P.formats ≡ []
      → IsSelectOf s core [] None
      → IsPartOf core shown source (Some both)
      → one_table name source
      → out-Expr both ≡ Expr-F.Binary binary.And test test'
      → out-Expr test ≡ Expr-F.Binary binary.Eq a b → out-Expr a ≡ Expr-F.Column None wanted
      → out-Expr b ≡ Expr-F.Parameter m
      → out-Expr test' ≡ Expr-F.Binary binary.Eq a' b' → out-Expr a' ≡ Expr-F.Column None wanted'
      → out-Expr b' ≡ Expr-F.Parameter m'
      → ShowsColumns table shown os → HasRoom 100000 os
      → affinity_of (over_one schema name p os false) (col 1 at) ≡ affinity.Numeric
      → affinity_of (over_one schema name p os false) (col 1 at') ≡ affinity.Numeric
      → (r0 : nat_lt 1 (spent 100000 os) ≡ true) (r1 : nat_lt 1 (spent 100000 os - 1) ≡ true)
      (r2 : nat_lt 1 (spent 100000 os - 1 - 1)
      ≡ true) (r3 : nat_lt 1 (spent 100000 os - 1 - 1 - 1) ≡ true)
      → (r4 : nat_lt 1 (spent 100000 os - 1 - 1 - 1 - 1) ≡ true)
      (r5 : nat_lt 1 (spent 100000 os - 1 - 1 - 1 - 1 - 1) ≡ true)
      (r6 : nat_lt 1 (spent 100000 os - 1 - 1 - 1 - 1 - 1 - 1) ≡ true)
      → prog.program schema [] (ungrouped (Inner table.tree ∷ [])
      (op2 (Compare Eq Binary) (col 1 at) (col 0 (m - 1)) ∷ op2 (Compare Eq Binary) (col 1 at')
      (col 0 (m' - 1)) ∷ []) os false []
      no_limit (number 0)) ≡ Ok q
      → compiled schema text ≡ Ok (with_command P ([], (Select q (map (λ o. o.name) os), None)))
  select_by_two text P s core source shown both test a b test' a' b' wanted wanted' at m at' m' t t' os q
      parsed is plain select body
      from and equal left right equal' left' right' shows room number number' r0 r1 r2 r3 r4 r5 r6 typed =
      let cx = over_one schema name p os false in
      let B = spent 100000 os in
      let low = key_test schema p table has.listed name os false test a b wanted at m t 697 2
      (B - 1) nothing equal left right number r1 r2 r3 in
      let low' = key_test schema p table has.listed name os false test' a' b' wanted' at' m' t' 697 2
      (B - 1 - 1 - 1 - 1) nothing equal' left' right' number' r4 r5 r6 in
      let whole = lower_and cx both test test' _ _ _ _ 699 2 B _ _ (last_of nothing os) and r0 low low' in
      select_is text P s core source shown
      (Some both) [] os _ [] _ _ _ _ q parsed is plain select body from shows room
      (one_test cx both _ _ _ _ _ whole) (no_order cx os _ _) typed

  -- SELECT columns FROM table
  pub select_all : (text : List ℕ) (P : Parsed) (s : written_select.Select) (core : Core) (source : From)
      (shown : List Shown)
      (os : List Output) (q : Program)
      → first text ≡ Ok P → P.statement ≡ written.Select s → P.formats ≡ []
      → IsSelectOf s core [] None
      → IsPartOf core shown source None
      → one_table name source → ShowsColumns table shown os → HasRoom 100000 os
      → prog.program schema [] (ungrouped (Inner table.tree ∷ []) [] os false [] no_limit (number 0)) ≡ Ok q
      → compiled schema text ≡ Ok (with_command P ([], (Select q (map (λ o. o.name) os), None)))
  select_all text P s core source shown os q parsed is plain select body from shows room typed =
      let cx = over_one schema name p os false in
      select_is text P s core source shown None [] os [] [] _ _ _ _ q parsed is plain select body from shows
      room (no_test cx _ _)
      (no_order cx os _ _) typed
