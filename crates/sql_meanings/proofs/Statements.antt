-- Statements over one table, under any schema that has it.
use Rattle.sql_meanings.specs.Names.{ℕ, List, [], find, Ok, Some, None, Option, slice_get, false, table_named}
use Rattle.sql_meanings.specs.Names.{Program, Term, col, Schema, Table, Expr, Rows, Parsed, Draft, Inner, Carried}
use Rattle.sql_meanings.specs.Names.{nothing, Name, conjuncts, tests, lower, compiled, first, planned, timed, meaning}
use Rattle.sql_meanings.specs.Names.{returning, command, shows, insert_or_abort, insert, update, read, new_rows}
use Rattle.sql_meanings.specs.Names.{formats_of, small, with_command}
use Rattle.sql_meanings.proofs.Names.{nat_le, ◌∙◌}
use Rattle.sqlite_schema.specs.declared.command.{Command.Command, Source.Source}
use Rattle.sqlite_schema.specs.declared.command.Command.TheVariants.{Insert, Update}
use Rattle.sqlite_resolve.specs.Reach.{any_scans}
use Rattle.sql_meanings.proofs.{Columns.over_one, Expressions.st}
use Rattle.sqlite_ast.specs.declared.Conflict.TheVariants as conflict
use Rattle.sqlite_ast.specs.declared.Statement.TheVariants as written
use Rattle.sqlite_ast.specs.declared.Select as written_select
use Rattle.sqlite_resolve.specs.Program as prog
use Rattle.sqlite_resolve.specs.Write as w
use Rattle.std.specs.Prelude.{◌≡◌, ◌+◌, ◌^◌, ◌==◌, ◌∷◌}

-- the six facts that a statement takes of a table
pub record HasTable (schema : Schema) (name : Name) (p : ℕ) (table : Table) : Type 0 where
  pub named : table_named schema name ≡ Some p
  pub listed : slice_get schema.tables p ≡ Some table
  pub found : find (λ t. t.tree == table.tree) schema.tables ≡ Some table
  pub low : nat_le (2 ^ 31) table.tree ≡ false

module _ (schema : Schema) (name : Name) (p : ℕ) (table : Table) (has : HasTable schema name p table) where
  -- UPDATE
  pub update_is : (sets : List (Name × Expr)) (test : Option Expr) (d : Draft) (q : Program)
      → w.updated schema p table sets test ≡ Ok d
      → prog.program schema [] d ≡ Ok q
      → update schema name sets test ≡ Ok (Update p q)
  unfolding update
  update_is sets test d q one two = rw (has.named, has.listed, one, two)

  -- INSERT
  pub insert_is : (base : ℕ) (columns : List Name) (rows : Rows) (s : Source)
      → new_rows schema table base columns rows ≡ Ok s
      → insert_or_abort schema base name columns rows [] ≡ Ok (Insert p s)
  unfolding insert insert_or_abort
  insert_is base columns rows s one = rw (has.named, has.listed, one)

  -- the columns that the time is written to
  pub formats_are : formats_of schema name ≡ table.stamps.formats
  formats_are = rw (has.named, has.listed)

  -- UPDATE of one column
  pub updated_is : (wanted : Name) (e test : Expr) (at : List ℕ) (x y : Term) (project : List Term)
      (b1 b2 : ℕ) (l1 l2 : Carried)
      → w.with_place table [] wanted ≡ Ok at
      → lower (over_one schema table.name p [] false) e (st 2 100000 nothing) ≡ Ok (x, st 2 b1 l1)
      → w.row table None at (col 1 0 ∷ []) (x ∷ []) ≡ Ok project
      → lower (over_one schema table.name p [] false) test (st 2 b1 l1) ≡ Ok (y, st 2 b2 l2)
      → w.updated schema p table ((wanted, e) ∷ []) (Some test) ≡ Ok
      (w.simple (Inner table.tree ∷ []) (conjuncts y) project)
  unfolding w.updated w.updated_in w.assigned w.sets w.picked tests any_scans
  updated_is wanted e test at x y project b1 b2 l1 l2 place one whole two = rw (place, one, whole, two)

-- a text that is an UPDATE
pub compiled_update : (schema : Schema) (text : List ℕ) (P : Parsed) (name : Name) (sets : List (Name × Expr))
    (test : Option Expr)
    (c : Command) → first text ≡ Ok P → P.statement ≡ written.Update name sets test []
    → P.formats ≡ [] → update schema name sets test ≡ Ok c
    → compiled schema text ≡ Ok (with_command P ([], (c, None)))
unfolding compiled planned timed meaning returning command shows
compiled_update schema text P name sets test c parsed is plain made = rw (parsed, is, plain, made)

-- a text that is an INSERT
pub compiled_insert : (schema : Schema) (text : List ℕ) (P : Parsed) (name : Name) (columns : List Name)
    (rows : Rows) (c : Command)
    → first text ≡ Ok P
    → P.statement ≡ written.Insert conflict.Abort name columns rows [] [] → P.formats ≡ []
    → formats_of schema name ≡ []
    → insert_or_abort schema (small P.names + 0) name columns rows [] ≡ Ok c
    → compiled schema text ≡ Ok (with_command P ([], (c, None)))
unfolding compiled planned timed meaning returning command shows
compiled_insert schema text P name columns rows c parsed is plain untimed made = rw
    (parsed, is, plain, untimed, made)

-- a text that is a SELECT
pub compiled_select : (schema : Schema) (text : List ℕ) (P : Parsed) (s : written_select.Select) (c : Command)
    → first text ≡ Ok P
    → P.statement ≡ written.Select s
    → P.formats ≡ [] → read schema s ≡ Ok c → compiled schema text ≡ Ok (with_command P ([], (c, None)))
unfolding compiled planned timed meaning returning command shows
compiled_select schema text P s c parsed is plain made = rw (parsed, is, plain, made)

module _ (schema : Schema) (name : Name) (p : ℕ) (table : Table) (has : HasTable schema name p table) where
  -- INSERT .. VALUES, whole
  pub inserts : (text : List ℕ) (P : Parsed) (columns : List Name) (rows : Rows) (s : Source)
      → first text ≡ Ok P
      → P.statement ≡ written.Insert conflict.Abort name columns rows [] []
      → P.formats ≡ [] → table.stamps.formats ≡ []
      → new_rows schema table (small P.names + 0) columns rows ≡ Ok s
      → compiled schema text ≡ Ok (with_command P ([], (Insert p s, None)))
  inserts text P columns rows s parsed is plain untimed made =
      compiled_insert schema text P name columns rows (Insert p s) parsed is plain
      (formats_are schema name p table has
      ∙ untimed) (insert_is schema name p table has (small P.names + 0) columns rows s made)

  -- UPDATE of one column, whole
  pub updates : (text : List ℕ) (P : Parsed) (wanted : Name) (e test : Expr) (at : List ℕ) (x y : Term)
      (project : List Term) (b1 b2 : ℕ)
      (l1 l2 : Carried) (q : Program)
      → first text ≡ Ok P → P.statement ≡ written.Update name ((wanted, e) ∷ []) (Some test) []
      → P.formats ≡ []
      → w.with_place table [] wanted ≡ Ok at
      → lower (over_one schema table.name p [] false) e (st 2 100000 nothing) ≡ Ok (x, st 2 b1 l1)
      → w.row table None at (col 1 0 ∷ []) (x ∷ []) ≡ Ok project
      → lower (over_one schema table.name p [] false) test (st 2 b1 l1) ≡ Ok (y, st 2 b2 l2)
      → prog.program schema [] (w.simple (Inner table.tree ∷ []) (conjuncts y) project) ≡ Ok q
      → compiled schema text ≡ Ok (with_command P ([], (Update p q, None)))
  updates text P wanted e test at x y project b1 b2 l1 l2 q parsed is plain place one whole two typed =
      compiled_update schema text P name ((wanted, e) ∷ []) (Some test) (Update p q) parsed is plain
      (update_is schema name p table has ((wanted, e) ∷ []) (Some test) _ q
      (updated_is schema name p table has wanted e test at x y project b1 b2 l1 l2 place one whole two) typed)
