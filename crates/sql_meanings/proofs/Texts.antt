-- What a text means of a table in whatever schema, by what is computed of the text alone.
use Rattle.sql_meanings.specs.Names.{ℕ, ℤ, List, [], length, map, Ok, Err, Some, None, Option, true, false}
use Rattle.sql_meanings.specs.Names.{AllByRecursion, listing_schema, understood, inner, end, value_rows, Row, stamped}
use Rattle.sql_meanings.specs.Names.{Values, passes_checks, Rows, Schema, Table, Term, col, lit, Null, Int, Core}
use Rattle.sql_meanings.specs.Names.{Expr, out-Expr, Expr-F, Shown, out-Shown, Sort, Inner, compiled, first, new_rows}
use Rattle.sql_meanings.specs.Names.{small, Name, ungrouped, number, NoSuchTable, Parsed, accepts_program}
use Rattle.sql_meanings.specs.Names.{accepts_terms}
use Rattle.sql_meanings.proofs.Names.{refl, ap, arith, zero, suc, length-map}
use Rattle.sql_meanings.specs.believed.Entries.{HasWidth, Entry, stored}
use Rattle.sql_meanings.specs.Entries.{AreShort}
use Rattle.sql_meanings.proofs.{PutRows.PutsAs, PutRows.PutsEachAs, ByKey.Tests, ByKey.key_at, Means.means}
use Rattle.sql_meanings.proofs.{OnlyShowing.only_understood, ReadTables.ReadsAs, Selects.select_all}
use Rattle.sql_meanings.proofs.{Selects.select_by_key, SeveralRows.IsRowOf, Statements.HasTable, Statements.inserts}
use Rattle.sqlite_ast.specs.declared.Source.{Source as From}
use Rattle.sql_meanings.specs.{StatementAnswers.OnlyShows, believed.Tables.placed_at, believed.Tables.width_of}
use Rattle.sql_meanings.specs.Queries.{by_key, key_is, no_limit, query}
use Rattle.sql_meanings.proofs.OneTable.{IsPartOf, IsSelectOf, one_table}
use Rattle.sql_meanings.proofs.Probing.{ProbesAs, refuses_query, understood_missing}
use Rattle.sql_meanings.proofs.ShownColumns.{has_room, is_left, output_named, outputs_at, shown_name, shows_named}
use Rattle.sql_meanings.proofs.ShownColumns.{spent}
use Rattle.sqlite_ast.specs.declared.Conflict.TheVariants as conflict
use Rattle.sqlite_ast.specs.declared.Binary.TheVariants as binary
use Rattle.sqlite_ast.specs.declared.Select as written_select
use Rattle.sqlite_ast.specs.declared.Statement.TheVariants as written
use Rattle.sqlite_resolve.specs.Program as prog
use Rattle.std.specs.Prelude.{◌≡◌, ◌≤◌, ◌<◌, ◌∷◌, ◌+◌, ◌-◌, ◌++◌, ◌/◌}
use Rattle.std.specs.List.{range_with_len}

-- how many columns a table has after its key
abbrev pub count_after_key : Table → ℕ
count_after_key table = length table.columns - 1

-- the places of all its columns, and what they show: the key is the row's own number
abbrev pub places_of : Table → List ℕ
places_of table = range_with_len 0 (length table.columns)

abbrev pub columns_of : Table → List Term
columns_of table = col 1 0 ∷ map (col 1) (range_with_len 2 (count_after_key table))

-- a SELECT as it is written: it shows the columns at these places of one table
pub record IsSelect (table : Table) (text : List ℕ) (count : ℕ) (places : List ℕ) : Type 0 where
  pub P : Parsed
  pub s : written_select.Select
  pub core : Core
  pub source : From
  pub shown : List Shown
  pub filter : Option Expr
  pub order : List Sort
  pub limit : Option Expr
  pub parsed : first text ≡ Ok P
  pub statement : P.statement ≡ written.Select s
  pub plain : P.formats ≡ []
  pub whole : length text ≤ P.tail
  pub given : count ≡ length P.names
  pub select : IsSelectOf s core order limit
  pub body : IsPartOf core shown source filter
  pub from : one_table table.name source
  pub shows : (tree : ℕ) → map (λ s. output_named (placed_at table tree) (shown_name (out-Shown s))) shown
      ≡ map Some (outputs_at (placed_at table tree) places)
  pub few : length places < 1000

-- a text is such a SELECT where that computes
abbrev pub select_of : (table : Table) (text : List ℕ) (count : ℕ) (places : List ℕ) (P : Parsed)
    (s : written_select.Select) (core : Core)
    (source : From) (shown : List Shown) (filter : Option Expr) (order : List Sort) (limit : Option Expr)
    → first text ≡ Ok P
    → P.statement ≡ written.Select s → P.formats ≡ [] → length text ≤ P.tail → count ≡ length P.names
    → IsSelectOf s core order limit
    → IsPartOf core shown source filter
    → one_table table.name source
    → ((tree : ℕ) → map (λ s. output_named (placed_at table tree) (shown_name (out-Shown s))) shown
    ≡ map Some (outputs_at (placed_at table tree) places))
    → length places < 1000 → IsSelect table text count places
select_of table text count places P s core source shown filter order limit parsed statement plain whole given
    select body from shows few =
    record {
      P = P;
      s = s;
      core = core;
      source = source;
      shown = shown;
      filter = filter;
      order = order;
      limit = limit;
      parsed = parsed;
      statement = statement;
      plain = plain;
      whole = whole;
      given = given;
      select = select;
      body = body;
      from = from;
      shows = shows;
      few = few;
    }

-- under any schema it only shows rows
pub only_reads : {table : Table} {text : List ℕ} {count : ℕ} {places : List ℕ}
    → IsSelect table text count places → (schema : Schema)
    → OnlyShows text count (understood schema text)
only_reads {table} {text} {count} {places} is =
    only_understood text count is.P is.s is.parsed is.statement is.plain is.whole is.given

-- few columns are few outputs
pub many : (table : Table) (places : List ℕ) → length places < 1000 → length (outputs_at table places) < 1000
many table places few = simp length-map few

-- what is left over of the room for them
pub left_over : (table : Table) (places : List ℕ) → length places < 1000
    → 90000 < spent 100000 (outputs_at table places)
left_over table places few = let n = many table places few in rw (is_left 100000 (outputs_at table places))
    (omega arith)

module _ (table : Table) (text : List ℕ) (places : List ℕ) where
  -- SELECT columns FROM table
  pub probes_by : (is : IsSelect table text 0 places) (terms : List Term)
      → is.order ≡ [] → is.limit ≡ None
      → is.filter ≡ None
      → ((schema : Schema) (p tree : ℕ) → HasTable schema table.name p (placed_at table tree)
      → prog.program schema [] (ungrouped (Inner tree ∷ []) [] (outputs_at (placed_at table tree) places)
      false [] no_limit (number 0))
      ≡ Ok (record { lets = []; body = query (inner tree end) [] terms [] no_limit }))
      → compiled listing_schema text ≡ Err NoSuchTable → ProbesAs table text
  probes_by is terms unordered unlimited whole typed unlisted = record {
    shows = only_reads is;
    there = λ schema p tree has.
        let low = many (placed_at table tree) places is.few in
        let m = means schema text 0 _ _ (select_all schema table.name p (placed_at table tree) has text is.P
        is.s is.core is.source is.shown
        (outputs_at (placed_at table tree) places) _ is.parsed is.statement is.plain
        (rw (unordered, unlimited) at is.select) (rw whole at is.body) is.from
        (shows_named _ _ _ (is.shows tree)) (has_room 100000 _ (omega arith))
        (typed schema p tree has)) refl is.whole is.given refl refl in (m.found, m.is);
    missing = λ schema a b. understood_missing schema text
        (refuses_query schema table.name a b text is.P is.s is.core is.source [] is.parsed
        is.statement is.plain (rw (unordered, unlimited) at is.select) (ap (λ c. c.from) is.body)
        (ap (λ c. c.origin) is.from)) unlisted;
  }

  -- SELECT columns FROM table WHERE key = ?1
  pub reads_by : (is : IsSelect table text 1 places) (terms : List Term) (test a b : Expr) (wanted : Name)
      → ((tree : ℕ) → Tests (placed_at table tree) wanted 0)
      → is.order ≡ [] → is.limit ≡ None
      → is.filter ≡ Some test
      → out-Expr test ≡ Expr-F.Binary binary.Eq a b → out-Expr a ≡ Expr-F.Column None wanted
      → out-Expr b ≡ Expr-F.Parameter 1
      → ((schema : Schema) (p tree : ℕ) → HasTable schema table.name p (placed_at table tree)
      → prog.program schema [] (ungrouped (Inner tree ∷ []) key_is (outputs_at (placed_at table tree) places)
      false [] no_limit (number 0))
      ≡ Ok (record { lets = []; body = by_key tree terms }))
      → (k : ℤ) → ((schema : Schema) (p tree : ℕ) → HasTable schema table.name p (placed_at table tree)
      → accepts_program schema [] (by_key tree terms) (Int k ∷ []) ≡ true)
      → ReadsAs table text (Int k ∷ []) (λ tree. by_key tree terms)
  reads_by is terms test a b wanted tests unordered unlimited filtered equal left right typed k
      accepts = record {
        names = map (λ o. o.name) (outputs_at table places);
        means = λ schema p tree has.
            let os = outputs_at (placed_at table tree) places in
            let low = many (placed_at table tree) places is.few in
            let rest = left_over (placed_at table tree) places is.few in
            means schema text 1 _ _ (select_by_key schema table.name p
            (placed_at table tree) has text is.P is.s
            is.core is.source is.shown test a b
            wanted 0 1 (tests tree) os _ is.parsed is.statement is.plain
            (rw (unordered, unlimited) at is.select)
            (rw filtered at is.body) is.from equal left
            right (shows_named _ _ _ (is.shows tree)) (has_room 100000 _ (omega arith))
            (key_at schema table.name p os false) (grind arith) (grind arith) (grind arith)
            (typed schema p tree has)) refl is.whole is.given refl refl;
        accepts = accepts;
        unfolded = λ _. refl;
        ungrouped = λ _. refl;
      }

abbrev parameters : ℕ → ℕ → List Term
parameters first zero = []
parameters first (suc count) = col 0 first ∷ parameters (suc first) count

-- the key, and after it so many numbers
abbrev pub put_terms : ℕ → List Term
put_terms count = col 0 0 ∷ lit Null ∷ parameters 1 count

-- INSERT INTO table (columns) VALUES (?1, ..)
pub puts_by : (table : Table) (text : List ℕ) (params : Row) (new : Entry) (P : Parsed)
    (columns : List Name) (rows : Rows)
    → first text ≡ Ok P → P.statement ≡ written.Insert conflict.Abort table.name columns rows [] []
    → P.formats ≡ []
    → table.stamps.formats ≡ []
    → ((schema : Schema) (tree : ℕ)
    → new_rows schema (placed_at table tree) (small P.names + 0) columns rows ≡ Ok
    (Values (put_terms (count_after_key table)) (count_after_key table + 2)))
    → length text ≤ P.tail → length params ≡ length P.names
    → ((tree : ℕ) → value_rows (stamped (placed_at table tree) params) (count_after_key table + 2)
    (length (put_terms (count_after_key table)) / (count_after_key table + 2)) (put_terms (count_after_key table))
    ≡ stored new ∷ [])
    → HasWidth (width_of table) new → AreShort new.texts
    → ((tree : ℕ) → accepts_terms (put_terms (count_after_key table)) (stamped (placed_at table tree) params) ≡ true)
    → passes_checks table (stored new) ≡ true → PutsAs table text params new
puts_by table text params new P columns rows parsed is plain untimed made whole counted gives wide
    short accepts passes = record {
      terms = put_terms (count_after_key table);
      width = count_after_key table + 2;
      means = λ schema p tree has. means schema text (length params) _ _
          (inserts schema table.name p (placed_at table tree) has text P columns rows
          (Values (put_terms (count_after_key table)) (count_after_key table + 2)) parsed is plain untimed
          (made schema tree)) refl whole counted refl refl;
      gives = gives;
      wide = wide;
      short = short;
      accepts = accepts;
      passes = passes;
    }

-- so many rows, each a key and after it so many numbers, from this parameter on
abbrev pub each_terms : ℕ → ℕ → ℕ → List Term
each_terms count first zero = []
each_terms count first (suc rows) =
    col 0 first ∷ lit Null ∷ (parameters (suc first) count ++ each_terms count (first + (count + 1)) rows)

-- INSERT INTO table (columns) VALUES (?1, ..), (..), ..
pub puts_each_by : (table : Table) (text : List ℕ) (params : Row) (news : List Entry) (P : Parsed) (columns : List Name) (rows : Rows)
    → first text ≡ Ok P → P.statement ≡ written.Insert conflict.Abort table.name columns rows [] []
    → P.formats ≡ []
    → table.stamps.formats ≡ []
    → ((schema : Schema) (tree : ℕ)
    → new_rows schema (placed_at table tree) (small P.names + 0) columns rows ≡ Ok (Values (each_terms (count_after_key table) 0 (length news))
    (count_after_key table + 2)))
    → length text ≤ P.tail → length params ≡ length P.names
    → ((tree : ℕ) → value_rows (stamped (placed_at table tree) params) (count_after_key table + 2) (length (each_terms (count_after_key table) 0 (length news)) / (count_after_key table + 2)) (each_terms (count_after_key table) 0 (length news))
    ≡ map stored news)
    → AllByRecursion (IsRowOf table) news
    → ((tree : ℕ) → accepts_terms (each_terms (count_after_key table) 0 (length news)) (stamped (placed_at table tree) params) ≡ true)
    → PutsEachAs table text params news
puts_each_by table text params news P columns rows parsed is plain untimed made whole counted gives
    are accepts = record {
      terms = each_terms (count_after_key table) 0 (length news);
      width = count_after_key table + 2;
      means = λ schema p tree has. means schema text (length params) _ _
          (inserts schema table.name p (placed_at table tree) has text P columns rows (Values (each_terms (count_after_key table) 0 (length news))
          (count_after_key table + 2)) parsed
          is plain untimed (made schema tree)) refl whole counted refl refl;
      gives = gives;
      are = are;
      accepts = accepts;
    }
