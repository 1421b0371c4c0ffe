-- A row of a key and whole numbers keeps the rules that its table has of each row alone, and can be stored.
use Rattle.sql_meanings.specs.Names.{ℕ, ℤ, pos, negsuc, List, [], not, Bool, false, map, length, true, Some}
use Rattle.sql_meanings.specs.Names.{AllByRecursion, Value, Null, Int, Text, Row, Table, IsStorable, IsStorableRow}
use Rattle.sql_meanings.specs.Names.{entry_of, kind_code, index_reals, table_reals, Column}
use Rattle.sql_meanings.proofs.Names.{inl, inr, zero, suc, length-append, drop, refl, sym, ap, subst, ◌∙◌, arith}
use Rattle.sql_meanings.proofs.Names.{length-map}
use Rattle.std.proofs.Common.{All, add-one}
use Rattle.std.specs.Float.{NotNan}
use Rattle.std.proofs.lemmas.{List.Elements.All-from_recursion, List.Sums.sum_by-le, Nat.Bits.bit_at-zero}
use Rattle.sqlite.specs.Order.{column}
use Rattle.sqlite_value.specs.Order.{number, bytes}
use Rattle.sqlite_trees.proofs.ListLemmas.{all-append}
use Rattle.sqlite_sql.specs.Ops.{is_null}
use Rattle.sqlite_schema.specs.Rules.{suits, are_typed, are_present, real_bits}
use Rattle.sql_meanings.specs.believed.Entries.{Entry, numbers, texts_held, stored}
use Rattle.sql_meanings.specs.{Entries.AreShort, believed.Plain.key_column}
use Rattle.sql_meanings.proofs.Casting.{AreFor, IsFor}
use lib.Ieee.{is_nan}
use Rattle.std.specs.Prelude.{◌≡◌, ◌⊎◌, ◌+◌, ◌<◌, ◌≤◌, ◌==◌, ◌∷◌, ◌++◌, ◌||◌}

-- the first of what is left
drop_head : (n : ℕ) (row : Row) (v : Value) (vs : Row) → drop n row ≡ v ∷ vs
    → (column row n ≡ v) × (drop (suc n) row ≡ vs)
drop_head zero [] v vs h = absurd cc
drop_head zero (x ∷ row) v vs h = let e : x ≡ v = cc in let f : row ≡ vs = cc in (e, f)
drop_head (suc n) [] v vs h = absurd cc
drop_head (suc n) (x ∷ row) v vs h = drop_head n row v vs h

-- only the first column is the key's
not_key : (at : ℕ) → (0 == suc at) ≡ false
not_key at = grind arith

suits_one : (c : Column) (v : Value) → IsFor c v → suits c v ≡ true
suits_one c v (inl is) = rw (is.2, is.3) refl
suits_one c v (inr is) = rw (is.2, is.3) refl

not_null_one : (c : Column) (v : Value) → IsFor c v → is_null v ≡ false
not_null_one c v (inl is) = rw is.3 refl
not_null_one c v (inr is) = rw is.3 refl

each_typed : (cs : List Column) (at : ℕ) (vs : Row) → AreFor cs vs → are_typed (Some 0) (suc at) cs vs ≡ true
each_typed [] at [] are = refl
each_typed [] at (v ∷ vs) are = absurd are
each_typed (c ∷ cs) at [] are = absurd are
each_typed (c ∷ cs) at (v ∷ vs) are = rw (not_key at, add-one (suc at), suits_one c v are.0)
    (each_typed cs (suc at) vs are.1)

or_true : (b : Bool) → (b || true) ≡ true
or_true true = refl
or_true false = refl

each_present : (cs : List Column) (at : ℕ) (vs row : Row) → drop (suc (suc at)) row ≡ vs → AreFor cs vs
    → are_present (Some 0) (suc at) cs row ≡ true
each_present [] at vs row is are = refl
each_present (c ∷ cs) at [] row is are = absurd are
each_present (c ∷ cs) at (v ∷ vs) row is are =
    let head = drop_head (suc (suc at)) row v vs is in
    rw (not_key at, add-one (suc at), head.0, not_null_one c v are.0, or_true (not c.not_null))
    (each_present cs (suc at) vs row head.1 are.1)

module _ (key : List ℕ) (cs : List Column) (e : Entry)
    (are : AreFor cs (numbers e.values ++ texts_held e.texts)) where
  -- each value is of its column's type
  pub entry_typed : are_typed (Some 0) 0 (key_column key ∷ cs) (drop 1 (stored e)) ≡ true
  entry_typed = each_typed cs 0 _ are

  -- none is missing
  pub entry_present : are_present (Some 0) 0 (key_column key ∷ cs) (stored e) ≡ true
  entry_present = each_present cs 0 _ (stored e) refl are

-- ---- what can be stored

-- a NULL or a whole number
abbrev IsNumber : Value → Type 0
IsNumber v = (v ≡ Null) ⊎ (((n : ℤ) × (v ≡ Int n)) ⊎ ((t : List ℕ) × (v ≡ Text t) × (length t ≤ 1000)))

number_at : (row : Row) (at : ℕ) → AllByRecursion IsNumber row → IsNumber (column row at)
number_at [] zero all = inl refl
number_at [] (suc at) all = inl refl
number_at (v ∷ row) zero all = all.0
number_at (v ∷ row) (suc at) all = number_at row at all.1

are_texts : (texts : List (List ℕ)) → AreShort texts → AllByRecursion IsNumber (texts_held texts)
are_texts [] short = tt
are_texts (t ∷ texts) short = (inr (inr (t, refl, short.0)), are_texts texts short.1)

are_numbers : (values : List ℤ) (more : Row) → AllByRecursion IsNumber more
    → AllByRecursion IsNumber (numbers values ++ more)
are_numbers [] more all = all
are_numbers (v ∷ values) more all = (inr (inl (v, refl)), are_numbers values more all)

entry_numbers : (e : Entry) → AreShort e.texts → AllByRecursion IsNumber (stored e)
entry_numbers e short =
    (inr (inl (e.key, refl)), (inl refl, are_numbers e.values (texts_held e.texts) (are_texts e.texts short)))

light : (v : Value) → IsNumber v → 18 + length (bytes v) ≤ 1018
light v (inl is) = rw is (omega arith)
light v (inr (inl is)) = rw is.1 (omega arith)
light v (inr (inr is)) = rw is.1 (let low = is.2 in omega arith)

whole : (n : ℤ) → NotNan (number (Int n))
unfolding is_nan
whole (pos n) = tt
whole (negsuc n) = tt

no_nan : (v : Value) → IsNumber v → NotNan (number v)
unfolding is_nan
no_nan v (inl is) = subst (λ (x : Value). NotNan (number x)) (sym is) tt
no_nan v (inr (inl is)) = subst (λ (x : Value). NotNan (number x)) (sym is.1) (whole is.0)
no_nan v (inr (inr is)) = subst (λ (x : Value). NotNan (number x)) (sym is.1) tt

-- a list of at most 2001 such values can be stored where no column is REAL
storable : (row : Row) → AllByRecursion IsNumber row → 0 < length row → length row ≤ 2001 → IsStorable 0 row
storable row all some few =
    let each : All IsNumber row = All-from_recursion IsNumber row all in
    let short = sum_by-le (λ v. 18 + length (bytes v)) 1018 row (λ i d low. light _ (each i d low)) in
    record {
      typed = λ c h. absurd (let none = bit_at-zero c in cc);
      columns = (some, few);
      numbers = λ i d low. no_nan _ (each i d low);
      short = omega arith;
    }

unreal : (c : Column) (v : Value) → IsFor c v → (kind_code c.kind == 2) ≡ false
unreal c v (inl is) = rw is.2 refl
unreal c v (inr is) = rw is.2 refl

no_reals : (cs : List Column) (vs : Row) → AreFor cs vs → real_bits cs ≡ 0
no_reals [] vs are = refl
no_reals (c ∷ cs) [] are = absurd are
no_reals (c ∷ cs) (v ∷ vs) are = rw (no_reals cs vs are.1, unreal c v are.0) refl

-- the table has no REAL column
pub none_real : (t : Table) (key : List ℕ) (cs : List Column) (vs : Row)
    → t.columns ≡ key_column key ∷ cs → AreFor cs vs → table_reals t ≡ 0
none_real t key cs vs is are = rw (is, no_reals cs vs are) refl

-- so no index of it has
pub none_indexed : (places : List ℕ) → index_reals 0 places ≡ 0
none_indexed [] = refl
none_indexed (p ∷ places) = rw (bit_at-zero p, none_indexed places) refl

all_columns : (row : Row) (places : List ℕ) → AllByRecursion IsNumber row
    → AllByRecursion IsNumber (map (column row) places)
all_columns row [] all = tt
all_columns row (p ∷ places) all = (number_at row p all, all_columns row places all)

-- its entry in an index of at most 2000 columns can be stored
pub entry_fits : (e : Entry) (places : List ℕ) → AreShort e.texts → length places ≤ 2000
    → IsStorable 0 (entry_of places (stored e))
entry_fits e places short few =
    let all = all-append IsNumber (map (column (stored e)) places) (Int e.key ∷ [])
    (all_columns (stored e) places (entry_numbers e short))
    (inr (inl (e.key, refl)), tt) in
    let long = length-append (map (column (stored e)) places) (Int e.key ∷ []) ∙ ap (λ n. n + 1)
    (length-map places (column (stored e))) in
    storable _ all (omega arith) (omega arith)

-- so can the row, where it has at most 2000 columns
pub row_fits : (e : Entry) → AreShort e.texts → length e.values + length e.texts ≤ 1999
    → IsStorableRow 0 (stored e)
row_fits e short few =
    let long : length (numbers e.values) ≡ length e.values = length-map e.values (λ n. Int n) in
    let also : length (texts_held e.texts) ≡ length e.texts = length-map e.texts (λ t. Text t) in
    let both = length-append (numbers e.values) (texts_held e.texts) in
    (storable (stored e) (entry_numbers e short) (omega arith) (omega arith), omega arith)
