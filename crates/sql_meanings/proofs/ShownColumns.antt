-- The columns that a SELECT shows, and its order.
use Rattle.sql_meanings.specs.Names.{ℕ, List, [], length, map, Option, option_map, unwrap_or, Ok, Some, None}
use Rattle.sql_meanings.specs.Names.{slice_get, Bool, true, false, column_named, place_of, Column, col, Schema, Table}
use Rattle.sql_meanings.specs.Names.{Expr, out-Expr, Expr-F, Shown, out-Shown, Output, Carried, nothing, Name}
use Rattle.sql_meanings.specs.Names.{declared, lower}
use Rattle.sql_meanings.proofs.Names.{append-nil, refl, arith, nat_lt, ◌∙◌}
use Rattle.std.proofs.Common.{append_assoc}
use Rattle.sqlite_ast.specs.{declared.Expr.TheOpen.Shown-F, Layer.Layer, Layer.ShownLayer}
use Rattle.sqlite_resolve.specs.Body.{outputs_from, shown, heading, is_column}
use Rattle.sql_meanings.specs.believed.Plain.{key_column}
use Rattle.sql_meanings.proofs.Columns.{bound_to, over_one, found_is, column_is}
use Rattle.sql_meanings.proofs.Expressions.{st, lower_column}
use Rattle.sqlite_resolve.specs.Body as body
use Rattle.std.specs.Prelude.{◌≡◌, ◌-◌, ◌<◌, ◌∷◌, ◌++◌}

-- a column as it is shown
abbrev pub output_of : Table → ℕ → Column → Output
output_of table place c = record {
  name = c.name;
  is_alias = false;
  is_column = true;
  term = col 1 (place_of table place);
  carried =
      declared table place c;
}

-- the expression names this column
pub record ShowsOne (table : Table) (s : Shown) (o : Output) : Type 0 where
  pub e : Expr
  pub wanted : Name
  pub text : Name
  pub place : ℕ
  pub column : Column
  pub written : out-Shown s ≡ Shown-F.One e None text
  pub is : out-Expr e ≡ Expr-F.Column None wanted
  pub named : column_named table wanted ≡ Some place
  pub there : slice_get table.columns place ≡ Some column
  pub out : o ≡ output_of table place column

-- each expression names its column
abbrev pub ShowsColumns : Table → List Shown → List Output → Type 0
ShowsColumns table [] [] = Unit {0}
ShowsColumns table [] (o ∷ os) = ⊥
ShowsColumns table (s ∷ ss) [] = ⊥
ShowsColumns table (s ∷ ss) (o ∷ os) = ShowsOne table s o × ShowsColumns table ss os

-- the columns at these places, as they are shown
abbrev pub outputs_at : Table → List ℕ → List Output
outputs_at table places = map
    (λ k. output_of table k (unwrap_or (slice_get table.columns k) (key_column []))) places

-- what each expression takes of the budget
abbrev pub spent : ℕ → List Output → ℕ
spent budget [] = budget
spent budget (o ∷ os) = spent (budget - 1) os

-- what the last of them leaves after
abbrev pub last_of : Carried → List Output → Carried
last_of l [] = l
last_of l (o ∷ os) = last_of o.carried os

-- the budget is enough
abbrev pub HasRoom : ℕ → List Output → Type 0
HasRoom budget [] = Unit {0}
HasRoom budget (o ∷ os) = (nat_lt 1 budget ≡ true) × HasRoom (budget - 1) os

module _ (schema : Schema) (p : ℕ) (table : Table) (listed : slice_get schema.tables p ≡ Some table)
    (name : Name) (may : Bool) where
  heading_is : (e : Expr) (text wanted : Name) (place : ℕ) (c : Column)
      → out-Expr e ≡ Expr-F.Column None wanted
      → column_named table wanted ≡ Some place → slice_get table.columns place ≡ Some c
      → heading (over_one schema name p [] may) e text ≡ c.name
  unfolding heading body.declared
  heading_is e text wanted place c is named there = rw
      (is, found_is schema p table listed name [] may wanted place named, listed, there)

  shown_is : (s : Shown) (o : Output) (done : List Output) (budget : ℕ) (l : Carried) → ShowsOne table s o
      → nat_lt 1 budget ≡ true
      → shown lower (over_one schema name p [] may) (bound_to name p ∷ []) done s (st 2 budget l)
      ≡ Ok (done ++ o ∷ [], st 2 (budget - 1) o.carried)
  unfolding shown is_column
  shown_is s o done budget l it room =
      rw (
        it.written,
        lower_column (over_one schema name p [] may) it.e it.wanted _ _ 699 2 budget l it.is room
            (column_is schema p table listed name [] may it.wanted it.place it.column
            (st 2 (budget - 1) nothing) it.named it.there),
        heading_is it.e it.text it.wanted it.place it.column it.is it.named it.there,
        it.is,
        it.out,
      )

  -- the columns are those that are named
  pub outputs_are : (ss : List Shown) (os done : List Output) (budget : ℕ) (l : Carried)
      → ShowsColumns table ss os
      → HasRoom budget os
      → outputs_from lower (over_one schema name p [] may) (bound_to name p ∷ []) done ss (st 2 budget l)
      ≡ Ok (done ++ os, st 2 (spent budget os) (last_of l os))
  outputs_are [] [] done budget l it room = rw append-nil
  outputs_are [] (o ∷ os) done budget l it room = absurd it
  outputs_are (s ∷ ss) [] done budget l it room = absurd it
  outputs_are (s ∷ ss) (o ∷ os) done budget l it room =
      rw (shown_is s o done budget l it.0 room.0)
      (outputs_are ss os (done ++ o ∷ []) (budget - 1) o.carried it.1 room.1
      ∙ rw append_assoc)

-- ---- computed of what was written

-- the name of a column, where the expression is one
abbrev pub column_name : Layer → Option Name
column_name (Expr-F.Column None wanted) = Some wanted
column_name _ = None

-- the same of what is shown, where it has no other name
abbrev pub shown_name : ShownLayer → Option Name
shown_name (Shown-F.One e None text) = column_name (out-Expr e)
shown_name _ = None

abbrev pub output_in : Table → Option ℕ → Option Output
output_in table None = None
output_in table (Some place) = option_map (output_of table place) (slice_get table.columns place)

abbrev pub output_named : Table → Option Name → Option Output
output_named table None = None
output_named table (Some wanted) = output_in table (column_named table wanted)

module _ (table : Table) (s : Shown) (o : Output) where
  at_place : (e : Expr) (wanted text : Name) (place : ℕ) → out-Shown s ≡ Shown-F.One e None text
      → out-Expr e ≡ Expr-F.Column None wanted
      → column_named table wanted ≡ Some place → (c : Option Column) → slice_get table.columns place ≡ c
      → option_map (output_of table place) c ≡ Some o → ShowsOne table s o
  at_place e wanted text place written is named None there h = absurd cc
  at_place e wanted text place written is named (Some column) there h = record {
    e = e;
    wanted = wanted;
    text = text;
    place = place;
    column = column;
    written = written;
    is = is;
    named = named;
    there = there;
    out = cc;
  }

  by_place : (e : Expr) (wanted text : Name) → out-Shown s ≡ Shown-F.One e None text
      → out-Expr e ≡ Expr-F.Column None wanted
      → (place : Option ℕ) → column_named table wanted ≡ place → output_in table place ≡ Some o
      → ShowsOne table s o
  by_place e wanted text written is None named h = absurd cc
  by_place e wanted text written is (Some place) named h =
      at_place e wanted text place written is named (slice_get table.columns place) refl h

  by_name : (e : Expr) (text : Name) → out-Shown s ≡ Shown-F.One e None text → (x : Layer) → out-Expr e ≡ x
      → output_named table (column_name x) ≡ Some o → ShowsOne table s o
  by_name e text written (Expr-F.Column None wanted) is h =
      by_place e wanted text written is (column_named table wanted) refl h
  by_name e text written _ is h = absurd cc

  by_layer : (x : ShownLayer) → out-Shown s ≡ x → output_named table (shown_name x) ≡ Some o
      → ShowsOne table s o
  by_layer (Shown-F.One e None text) is h = by_name e text is (out-Expr e) refl h
  by_layer _ is h = absurd cc

-- each expression names its column where each name finds one
pub shows_named : (table : Table) (ss : List Shown) (os : List Output)
    → map (λ s. output_named table (shown_name (out-Shown s))) ss ≡ map Some os → ShowsColumns table ss os
shows_named table [] [] h = tt
shows_named table [] (o ∷ os) h = absurd cc
shows_named table (s ∷ ss) [] h = absurd cc
shows_named table (s ∷ ss) (o ∷ os) h = (by_layer table s o (out-Shown s) refl cc, shows_named table ss os cc)

-- a budget above the length of a list is enough for it, and what is above that is left
pub has_room : (budget : ℕ) (os : List Output) → length os < budget → HasRoom budget os
has_room budget [] h = tt
has_room budget (o ∷ os) h = (grind arith, has_room (budget - 1) os (grind arith))

pub is_left : (budget : ℕ) (os : List Output) → spent budget os ≡ budget - length os
is_left budget [] = omega arith
is_left budget (o ∷ os) = is_left (budget - 1) os ∙ omega arith
