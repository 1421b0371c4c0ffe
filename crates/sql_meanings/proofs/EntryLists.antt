-- The rows of a tree and their entries.
use Rattle.sql_meanings.specs.Names.{ℕ, ℤ, List, [], map, filter, find, cond, Bool, true, false, not, None, Some}
use Rattle.sql_meanings.specs.Names.{is_eq, int_eq, match_ordering, AllByRecursion, Null, Int, Text, put_row}
use Rattle.sql_meanings.specs.Names.{without_rowid, is_true, from_truth, binary, Compare, Eq, Binary}
use Rattle.sql_meanings.proofs.Names.{inl, inr, refl, ap, ◌∙◌, Less, Equal, Greater, Ordering, int_cmp, arith, ints}
use Rattle.sql_meanings.proofs.Names.{cases_Bool, value_cmp-Int, and-true}
use Rattle.sqlite.specs.{Tree.has_rowid, Cast.cast}
use Rattle.sqlite_sql.specs.Ops.{unary}
use Rattle.sqlite_value.specs.Order.{value_cmp}
use Rattle.sqlite_trees.proofs.ListLemmas.{filter-map}
use Rattle.sqlite_schema.specs.declared.schema.Kind.TheVariants.{Integer}
use Rattle.sql_meanings.specs.believed.Entries.{Entry, Rise, has_key, stored}
use Rattle.sql_meanings.specs.Entries.{listed, put}
use Rattle.std.specs.Prelude.{◌≡◌, ◌∷◌, ◌&&◌}

-- a choice between the same
pub and_both : (a b : Bool) → (a && (b && true)) ≡ (a && b)
and_both a b = ap (λ c. a && c) (and-true b)

pub either : {X : Type 0} (b : Bool) (x : X) → cond b x x ≡ x
either true x = refl
either false x = refl

-- a test in SQL
pub truth_back : (b : Bool) → is_true (from_truth (Some b)) ≡ b
truth_back true = refl
truth_back false = refl

-- numbers are equal in SQL where they are
pub int_equals : (a b : ℤ) → is_true (binary (Compare Eq Binary) (Int a) (Int b)) ≡ int_eq a b
unfolding binary
int_equals a b = truth_back _ ∙ ap is_eq (value_cmp-Int a b)

-- a text is no number
pub text_apart : (t : List ℕ) (a : ℤ) → is_true (binary (Compare Eq Binary) (Text t) (Int a)) ≡ false
unfolding binary value_cmp
text_apart t a = refl

-- a number is stored as it is
pub cast_int : (n : ℤ) → cast Integer (Int n) ≡ Int n
unfolding unary
cast_int n = either _ (Int n)

-- so is a NULL
pub cast_null : cast Integer Null ≡ Null
unfolding unary
cast_null = either _ Null

-- the rowid of a stored row is its key
pub rowid_is : (k : ℤ) (e : Entry) → has_rowid k (stored e) ≡ has_key k e
rowid_is k e = ap is_eq (value_cmp-Int e.key k)

put_by_order : (new e : Entry) (es : List Entry)
    → put_row (stored new) (map stored es) ≡ map stored (put new es) → (o : Ordering)
    → match_ordering o (stored e ∷ put_row (stored new) (map stored es)) (stored new ∷ map stored es)
    (stored new ∷ stored e ∷ map stored es)
    ≡ map stored (match_ordering o (e ∷ put new es) (new ∷ es) (new ∷ e ∷ es))
put_by_order new e es more Less = ap (λ rows. stored e ∷ rows) more
put_by_order new e es more Equal = refl
put_by_order new e es more Greater = refl

-- to put a stored row in is to put the row in
pub put_stored : (new : Entry) (es : List Entry)
    → put_row (stored new) (map stored es) ≡ map stored (put new es)
put_stored new [] = refl
put_stored new (e ∷ es) = rw (value_cmp-Int e.key new.key)
    (put_by_order new e es (put_stored new es) (int_cmp e.key new.key))

-- the rows but the one under a key
abbrev pub without : ℤ → List Entry → List Entry
without k = filter (λ e. not (has_key k e))

same_test : (k : ℤ) (xs : List Entry) → filter (λ e. not (has_rowid k (stored e))) xs ≡ without k xs
same_test k [] = refl
same_test k (x ∷ xs) = rw (rowid_is k x, same_test k xs)

-- to take a rowid out is to take the row out
pub without_stored : (k : ℤ) (es : List Entry) → without_rowid k (map stored es) ≡ map stored (without k es)
without_stored k es = filter-map (λ r. not (has_rowid k r)) stored es ∙ ap (map stored) (same_test k es)

-- no entry with the key is left then
pub none_without : (k : ℤ) (es : List Entry) → find (has_key k) (without k es) ≡ None
none_without k [] = refl
none_without k (x ∷ xs) = elim (cases_Bool (has_key k x)) [
  | inl here ↦ rw here (none_without k xs)
  | inr away ↦ rw away (rw away (none_without k xs))
]

-- ---- rising keys

-- every row is above this one
abbrev pub Above : Entry → List Entry → Type 0
Above e = AllByRecursion (λ x. int_cmp e.key x.key ≡ Less)

less_apart : (a b k : ℤ) → int_cmp a b ≡ Less → is_eq (int_cmp a k) ≡ true → is_eq (int_cmp b k) ≡ false
less_apart a b k low same = grind (arith, ints)

none_above : (k : ℤ) (e : Entry) (es : List Entry) → Above e es → has_key k e ≡ true
    → filter (has_key k) es ≡ []
none_above k e [] above here = refl
none_above k e (x ∷ xs) above here = rw (less_apart e.key x.key k above.0 here)
    (none_above k e xs above.1 here)

at_most_one : (k : ℤ) (e : Entry) (es : List Entry) → (has_key k e ≡ true → filter (has_key k) es ≡ [])
    → filter (has_key k) es ≡ listed (find (has_key k) es) → (b : Bool) → has_key k e ≡ b
    → cond b (e ∷ filter (has_key k) es) (filter (has_key k) es) ≡ listed
    (cond b (Some e) (find (has_key k) es))
at_most_one k e es none more true is = ap (λ l. e ∷ l) (none is)
at_most_one k e es none more false is = more

-- at most one entry has a key
pub one_filter : (k : ℤ) (es : List Entry) → Rise es → filter (has_key k) es ≡ listed (find (has_key k) es)
one_filter k [] h = refl
one_filter k (e ∷ es) h = at_most_one k e es (none_above k e es h.0) (one_filter k es h.1) (has_key k e) refl

above_less : (a b k : ℤ) → int_cmp a b ≡ Less → int_cmp a k ≡ Equal → int_cmp b k ≡ Greater
above_less a b k low same = grind (arith, ints)

above_greater : (a b k : ℤ) → int_cmp a b ≡ Less → int_cmp a k ≡ Greater → int_cmp b k ≡ Greater
above_greater a b k low same = grind (arith, ints)

keep_above : (k : ℤ) (e : Entry) (es : List Entry) → Above e es → int_cmp e.key k ≡ Greater
    → without k es ≡ es
keep_above k e [] above here = refl
keep_above k e (x ∷ xs) above here = rw (above_greater e.key x.key k above.0 here)
    (ap (λ l. x ∷ l) (keep_above k e xs above.1 here))

put_first : (new e : Entry) (es : List Entry) → Above e es → int_cmp e.key new.key ≡ Equal
    → put new es ≡ new ∷ es
put_first new e [] above here = refl
put_first new e (x ∷ xs) above here = rw (above_less e.key x.key new.key above.0 here)

put_without_by : (new e : Entry) (es : List Entry) → Above e es → put new (without new.key es) ≡ put new es
    → (o : Ordering)
    → int_cmp e.key new.key ≡ o
    → put new (cond (not (is_eq o)) (e ∷ without new.key es) (without new.key es)) ≡ match_ordering o
    (e ∷ put new es) (new ∷ es)
    (new ∷ e ∷ es)
put_without_by new e es above more Less is = rw is (ap (λ l. e ∷ l) more)
put_without_by new e es above more Equal is = more ∙ put_first new e es above is
put_without_by new e es above more Greater is = rw is
    (ap (λ l. new ∷ e ∷ l) (keep_above new.key e es above is))

-- to take the entry with the key out and to put another in is to put it in its place
pub put_without : (new : Entry) (es : List Entry) → Rise es → put new (without new.key es) ≡ put new es
put_without new [] h = refl
put_without new (e ∷ es) h = put_without_by new e es h.0 (put_without new es h.1) (int_cmp e.key new.key) refl

above_put_by : (e new x : Entry) (xs : List Entry) → int_cmp e.key new.key ≡ Less → Above e (x ∷ xs)
    → Above e (put new xs)
    → (o : Ordering) → Above e (match_ordering o (x ∷ put new xs) (new ∷ xs) (new ∷ x ∷ xs))
above_put_by e new x xs low above more Less = (above.0, more)
above_put_by e new x xs low above more Equal = (low, above.1)
above_put_by e new x xs low above more Greater = (low, above)

above_put : (e new : Entry) (es : List Entry) → int_cmp e.key new.key ≡ Less → Above e es
    → Above e (put new es)
above_put e new [] low above = (low, above)
above_put e new (x ∷ xs) low above = above_put_by e new x xs low above (above_put e new xs low above.1)
    (int_cmp x.key new.key)

pub flip : (a b : ℤ) → int_cmp a b ≡ Greater → int_cmp b a ≡ Less
flip a b h = grind (arith, ints)

same_below : (a b c : ℤ) → int_cmp a b ≡ Equal → int_cmp a c ≡ Less → int_cmp b c ≡ Less
same_below a b c h k = grind (arith, ints)

below_all : (a b c : ℤ) → int_cmp a b ≡ Less → int_cmp b c ≡ Less → int_cmp a c ≡ Less
below_all a b c h k = grind (arith, ints)

move_same : (e new : Entry) (es : List Entry) → int_cmp e.key new.key ≡ Equal → Above e es → Above new es
move_same e new [] same above = above
move_same e new (x ∷ xs) same above =
    (same_below e.key new.key x.key same above.0, move_same e new xs same above.1)

move_below : (e new : Entry) (es : List Entry) → int_cmp new.key e.key ≡ Less → Above e es → Above new es
move_below e new [] low above = above
move_below e new (x ∷ xs) low above =
    (below_all new.key e.key x.key low above.0, move_below e new xs low above.1)

rise_put_by : (new e : Entry) (es : List Entry) → Rise (e ∷ es) → Rise (put new es) → (o : Ordering)
    → int_cmp e.key new.key ≡ o
    → Rise (match_ordering o (e ∷ put new es) (new ∷ es) (new ∷ e ∷ es))
rise_put_by new e es h more Less is = (above_put e new es is h.0, more)
rise_put_by new e es h more Equal is = (move_same e new es is h.0, h.1)
rise_put_by new e es h more Greater is =
    ((flip e.key new.key is, move_below e new es (flip e.key new.key is) h.0), h)

-- keys rise on as a row is put in
pub rise_put : (new : Entry) (es : List Entry) → Rise es → Rise (put new es)
rise_put new [] h = (h, h)
rise_put new (e ∷ es) h = rise_put_by new e es h (rise_put new es h.1) (int_cmp e.key new.key) refl
