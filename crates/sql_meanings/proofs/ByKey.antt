-- The test of a column against a parameter, and an UPDATE by it.
use Rattle.sql_meanings.specs.Names.{ℕ, List, [], Ok, Some, None, slice_get, Bool, true, false, Compare, Eq}
use Rattle.sql_meanings.specs.Names.{column_named, place_of, Column, Program, Term, col, op2, Schema, Table, Expr}
use Rattle.sql_meanings.specs.Names.{out-Expr, Expr-F, Parsed, Inner, Output, Carried, nothing, chosen, Name, Context}
use Rattle.sql_meanings.specs.Names.{declared, compared, affinity_of, converted, may_be_text, lower_to, compiled}
use Rattle.sql_meanings.specs.Names.{first, with_command}
use Rattle.sql_meanings.proofs.Names.{suc, refl, nat_lt, ◌∙◌}
use Rattle.sqlite_value.specs.declared.keys.Collation.TheVariants.{Binary}
use Rattle.sqlite_schema.specs.declared.command.Command.TheVariants.{Update}
use Rattle.sqlite_resolve.specs.{Compare.of_column, Compare.of_declared}
use Rattle.sql_meanings.proofs.{Columns.over_one, Columns.column_is, Statements.HasTable, Statements.updates}
use Rattle.sql_meanings.proofs.Expressions.{st, lower_parameter, lower_column, lower_equal}
use Rattle.sqlite_ast.specs.declared.Binary.TheVariants as binary
use Rattle.sqlite_ast.specs.declared.Statement.TheVariants as written
use Rattle.sqlite_resolve.specs.declared.compare.Affinity.TheVariants as affinity
use Rattle.sqlite_resolve.specs.Write as w
use Rattle.sqlite_resolve.specs.Program as prog
use Rattle.std.specs.Prelude.{◌≡◌, ◌-◌, ◌==◌, ◌∷◌}
use Rattle.sql_meanings.proofs.EntryLists.{either}

-- a column of numbers is compared with a parameter as it is
pub compared_is : (cx : Context) (at m : ℕ) → affinity_of cx (col 1 at) ≡ affinity.Numeric
    → affinity_of cx (col 0 m) ≡ affinity.None
    → compared cx (Compare Eq Binary) (col 1 at) (col 0 m) ≡ op2 (Compare Eq Binary) (col 1 at) (col 0 m)
unfolding compared converted may_be_text
compared_is cx at m left right = rw (left, right)

-- a column that a test names, and where a row has it
pub record Tests (table : Table) (wanted : Name) (at : ℕ) : Type 0 where
  pub place : ℕ
  pub column : Column
  pub named : column_named table wanted ≡ Some place
  pub there : slice_get table.columns place ≡ Some column
  pub is_at : place_of table place ≡ at
  pub by_bytes : chosen (declared table place column) nothing ≡ Binary

-- a column of numbers is numeric
pub number_at : (schema : Schema) (p : ℕ) (table : Table) (listed : slice_get schema.tables p ≡ Some table)
    (name : Name)
    (shown : List Output) (may : Bool) (k : ℕ) (c : Column)
    → slice_get table.columns k ≡ Some c → of_declared c ≡ affinity.Numeric
    → affinity_of (over_one schema name p shown may) (col 1 (suc k)) ≡ affinity.Numeric
unfolding affinity_of of_column
number_at schema p table listed name shown may k c there is = rw (listed, there, is)

-- so is the key
pub key_at : (schema : Schema) (name : Name) (p : ℕ) (shown : List Output) (may : Bool)
    → affinity_of (over_one schema name p shown may) (col 1 0) ≡ affinity.Numeric
unfolding affinity_of of_column
key_at schema name p shown may = refl

-- a parameter has no type of its own
pub parameter_at : (schema : Schema) (name : Name) (p : ℕ) (shown : List Output) (may : Bool) (m : ℕ)
    → affinity_of (over_one schema name p shown may) (col 0 m) ≡ affinity.None
unfolding affinity_of of_column
parameter_at schema name p shown may m = either (m == 0) affinity.None

module _ (schema : Schema) (p : ℕ) (table : Table) (listed : slice_get schema.tables p ≡ Some table)
    (name : Name) (shown : List Output)
    (may : Bool) where
  -- the test that a column is a parameter
  pub key_test : (e a b : Expr) (wanted : Name) (at m : ℕ) (t : Tests table wanted at) (d next budget : ℕ)
      (l : Carried)
      → out-Expr e ≡ Expr-F.Binary binary.Eq a b → out-Expr a ≡ Expr-F.Column None wanted
      → out-Expr b ≡ Expr-F.Parameter m
      → affinity_of (over_one schema name p shown may) (col 1 at) ≡ affinity.Numeric
      → nat_lt 1 budget ≡ true → nat_lt 1 (budget - 1) ≡ true → nat_lt 1 (budget - 1 - 1) ≡ true
      → lower_to (suc (suc d)) (over_one schema name p shown may) e (st next budget l)
      ≡ Ok (op2 (Compare Eq Binary) (col 1 at) (col 0 (m - 1)), st next (budget - 1 - 1 - 1) nothing)
  key_test e a b wanted at m t d next budget l is left right number one two three =
      let here = over_one schema name p shown may in
      let column = column_is schema p table listed name shown may wanted t.place t.column
      (st next (budget - 1 - 1) nothing) t.named t.there in
      let x = lower_column here a wanted _ _ d next (budget - 1) nothing left two column in
      let y = lower_parameter here b m d next (budget - 1 - 1)
      (declared table t.place t.column) right three in
      lower_equal here e a b _ _ _ _ (suc d) next budget _ _ l is one x y
      ∙ rw (
        t.by_bytes,
        t.is_at,
        compared_is here at (m - 1) number (parameter_at schema name p shown may (m - 1)),
      )

-- UPDATE t SET c = ?n WHERE k = ?m
module _ (schema : Schema) (name : Name) (p : ℕ) (table : Table) (has : HasTable schema name p table) where
  -- the whole text, of one column under a test of another
  pub update_by_key : (text : List ℕ) (P : Parsed) (wanted key : Name) (e test a b : Expr) (n m at : ℕ)
      (places : List ℕ)
      (project : List Term) (t : Tests table key at) (q : Program)
      → first text ≡ Ok P → P.statement ≡ written.Update name ((wanted, e) ∷ []) (Some test) []
      → P.formats ≡ []
      → out-Expr e ≡ Expr-F.Parameter n → out-Expr test ≡ Expr-F.Binary binary.Eq a b
      → out-Expr a ≡ Expr-F.Column None key
      → out-Expr b ≡ Expr-F.Parameter m
      → w.with_place table [] wanted ≡ Ok places
      → w.row table None places (col 1 0 ∷ []) (col 0 (n - 1) ∷ []) ≡ Ok project
      → affinity_of (over_one schema table.name p [] false) (col 1 at) ≡ affinity.Numeric
      → prog.program schema [] (w.simple (Inner table.tree ∷ [])
      (op2 (Compare Eq Binary) (col 1 at) (col 0 (m - 1)) ∷ []) project) ≡ Ok q
      → compiled schema text ≡ Ok (with_command P ([], (Update p q, None)))
  update_by_key text P wanted key e test a b n m at places project t q parsed is plain value equal left right
      place whole number typed =
      updates schema name p table has text P wanted e test places _ _ project _ _ _ _ q parsed is plain place
      (lower_parameter _ e n 699 2 100000 nothing value refl)
      whole
      (key_test schema p table has.listed table.name [] false test a b key at m t 698 2 99999 nothing equal
      left right number refl refl
      refl)
      typed
