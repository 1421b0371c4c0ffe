-- Where two columns after the key are UNIQUE together, one row at most has two given numbers there.
use Rattle.sql_meanings.specs.Names.{ℕ, ℤ, List, [], map, filter, find, Some, Bool, cond, slice_get, true, false}
use Rattle.sql_meanings.specs.Names.{list_any, list_all, int_eq, is_eq, Value, Int, plain, Binary, is_true}
use Rattle.sql_meanings.specs.Names.{binary, Compare, clashes, Row, IsAnswerAs, inner, end, Trees, Table}
use Rattle.sql_meanings.specs.Names.{Schema, Term, eval_all, holds, IsSound, Has}
use Rattle.sql_meanings.proofs.Names.{inl, inr, refl, sym, ap, subst, ◌∙◌, get_or, arith, int_cmp, Less, ints}
use Rattle.sql_meanings.proofs.Names.{and_parts, and_right, value_cmp-Int}
use Rattle.std.proofs.Common.{true≢false}
use Rattle.std.specs.{Ordering.is_ne, List.Sorted.IsPermutation}
use Rattle.sqlite_value.specs.Keys.{first_key}
use Rattle.sqlite_sql.specs.declared.ops.CompareOp.TheVariants.{Ne}
use Rattle.sqlite_schema.specs.Rules.{agree, differ}
use Rattle.sqlite_rules.proofs.ProbeLemmas.{mapped_has}
use Rattle.sqlite_catalog.proofs.AlterLemmas.{keys_are_unique}
use Rattle.sql_meanings.specs.believed.Entries.{Entry, IsTree, Rise, begins_with, has_two, stored}
use Rattle.sql_meanings.specs.{Entries.listed, Queries.no_limit, Queries.query, Queries.two_are}
use Rattle.sql_meanings.proofs.EntryLists.{Above, and_both, int_equals, text_apart, truth_back}
use Rattle.sql_meanings.proofs.{KeyedAnswers.small_permutation, TestedAnswers.looked_up}
use Rattle.std.specs.Prelude.{◌≡◌, ◌⊎◌, ◌∷◌, ◌&&◌, ◌||◌}

-- the test on the two columns
first_two_test : (one two key : ℤ) (t n : ℤ) (more : List ℤ) (texts : List (List ℕ))
    → list_all (holds ((Int one ∷ Int two ∷ [])
    ∷ stored (record { key = key; values = t ∷ n ∷ more; texts = texts }) ∷ [])) (two_are 2 3)
    ≡ (int_eq t one && (int_eq n two && true))
first_two_test one two key t n more texts = rw (int_equals t one, int_equals n two)

passes_is : (one two key : ℤ) (values : List ℤ) (texts : List (List ℕ))
    → list_all (holds ((Int one ∷ Int two ∷ [])
    ∷ stored (record { key = key; values = values; texts = texts }) ∷ [])) (two_are 2 3)
    ≡ begins_with one two values
unfolding binary
passes_is one two key [] [] = refl
passes_is one two key [] (s ∷ texts) = rw (text_apart s one) refl
passes_is one two key (t ∷ []) [] = and_right _ false refl
passes_is one two key (t ∷ []) (s ∷ texts) = rw (text_apart s two) (and_right _ false refl)
passes_is one two key (t ∷ n ∷ more) texts = first_two_test one two key t n more texts ∙ and_both (int_eq t one)
    (int_eq n two)

-- ---- UNIQUE

int_differs : (a b : ℤ) → is_true (binary (Compare Ne Binary) (Int a) (Int b)) ≡ is_ne (int_cmp a b)
unfolding binary
int_differs a b = truth_back _ ∙ ap is_ne (value_cmp-Int a b)

none_any : {X : Type 0} (p : X → Bool) (xs : List X) (x : X) → list_any p xs ≡ false → Has xs x → p x ≡ false
none_any p [] x h k = absurd k
none_any p (y ∷ xs) x h k = go (p y) refl h k (none_any p xs x)
  where
    go : (b : Bool) → p y ≡ b → (b || list_any p xs) ≡ false → (x ≡ y) ⊎ Has xs x
        → (list_any p xs ≡ false → Has xs x → p x ≡ false)
        → p x ≡ false
    go true apart h k more = absurd (true≢false h)
    go false apart h (inl e) more = ap p e ∙ apart
    go false apart h (inr k) more = more h k

same_two : (a b k : ℤ) → is_eq (int_cmp a k) ≡ true → is_eq (int_cmp b k) ≡ true → is_eq (int_cmp a b) ≡ true
same_two a b k p q = grind (arith, ints)

-- no two rows have the same two numbers there
abbrev pub Clear : List Entry → Type 0
Clear es = (e : Entry) → Has es e → clashes plain (2 ∷ 3 ∷ []) (map stored es) (stored e) ≡ false

two_clash : (one two a b : ℤ) (xs ys : List ℤ) (vs ws : List (List ℕ)) → int_cmp a b ≡ Less
    → begins_with one two xs ≡ true → begins_with one two ys ≡ true
    → (agree plain (2 ∷ 3 ∷ []) (stored (record { key = a; values = xs; texts = vs })) (2 ∷ 3 ∷ [])
    (stored (record { key = b; values = ys; texts = ws })) && differ (Int a) (Int b)) ≡ true
unfolding first_key
two_clash one two a b [] ys vs ws low p q = absurd (cc)
two_clash one two a b (t ∷ []) ys vs ws low p q = absurd (cc)
two_clash one two a b (t ∷ n ∷ more) [] vs ws low p q = absurd (cc)
two_clash one two a b (t ∷ n ∷ more) (u ∷ []) vs ws low p q = absurd (cc)
two_clash one two a b (t ∷ n ∷ more) (u ∷ m ∷ rest) vs ws low p q =
    let first = and_parts (int_eq t one) (int_eq n two) p in
    let second = and_parts (int_eq u one) (int_eq m two) q in
    rw (
      int_equals t u,
      int_equals n m,
      int_differs a b,
      same_two t u one first.0 second.0,
      same_two n m two first.1 second.1,
      low,
    ) refl

-- two rows have not the same two numbers there
pub not_both : (all : List Entry) (one two : ℤ) (e x : Entry) → Clear all → Has all e → Has all x
    → int_cmp e.key x.key ≡ Less
    → has_two one two e ≡ true → has_two one two x ≡ true → ⊥
not_both all one two e x clear he hx low p q =
    let none = none_any _ (map stored all) (stored e) (clear x hx) (mapped_has stored all e he) in
    true≢false (sym (two_clash one two e.key x.key e.values x.values e.texts x.texts low p q) ∙ none)

none_above : (all : List Entry) (one two : ℤ) (e : Entry) → Clear all → Has all e → has_two one two e ≡ true
    → (es : List Entry)
    → ((x : Entry) → Has es x → Has all x) → Above e es → filter (has_two one two) es ≡ []
none_above all one two e clear he p [] within above = refl
none_above all one two e clear he p (x ∷ es) within above =
    go (has_two one two x) refl (none_above all one two e clear he p es (λ y h. within y (inr h)) above.1)
  where
    go : (b : Bool) → has_two one two x ≡ b → filter (has_two one two) es ≡ []
        → cond b (x ∷ filter (has_two one two) es) (filter (has_two one two) es) ≡ []
    go true here more = absurd (not_both all one two e x clear he (within x (inl refl)) above.0 p here)
    go false apart more = more

one_row : (all : List Entry) (one two : ℤ) → Clear all → (es : List Entry)
    → ((x : Entry) → Has es x → Has all x) → Rise es
    → filter (has_two one two) es ≡ listed (find (has_two one two) es)
one_row all one two clear [] within rise = refl
one_row all one two clear (e ∷ es) within rise = go (has_two one two e) refl
    (one_row all one two clear es (λ y h. within y (inr h)) rise.1)
  where
    go : (b : Bool) → has_two one two e ≡ b → filter (has_two one two) es ≡ listed (find (has_two one two) es)
        → cond b (e ∷ filter (has_two one two) es) (filter (has_two one two) es) ≡ listed
        (cond b (Some e) (find (has_two one two) es))
    go true here more = ap (λ l. e ∷ l)
        (none_above all one two e clear (within e (inl refl)) here es (λ y h. within y (inr h)) rise.0)
    go false apart more = more

-- the rows of such a table in a sound database are clear of each other
pub clear : (schema : Schema) (db : Trees) (t : Table) (es : List Entry) → IsSound schema db
    → Has schema.tables t
    → slice_get t.uniques 0 ≡ Some (2 ∷ 3 ∷ [])
    → get_or t.orders 0 plain ≡ plain → db t.tree ≡ map stored es → Clear es
clear schema db t es sound listed unique order are e h =
    let there : Has (db t.tree) (stored e) = subst (λ rs. Has rs (stored e)) (sym are) (mapped_has stored es e h) in
    subst (λ rs. clashes plain (2 ∷ 3 ∷ []) rs (stored e) ≡ false) are
    (subst (λ how. clashes how (2 ∷ 3 ∷ []) (db t.tree) (stored e) ≡ false) order
    (keys_are_unique schema db t 0 (2 ∷ 3 ∷ []) (stored e) sound listed unique there))

-- a query of the two columns shows the one row that has the two numbers, if any
pub two_answer : (lost : Value) {width : ℕ × ℕ} (t : ℕ) (project : List Term) (db : Trees) (one two : ℤ)
    (rows : List Row) (es : List Entry)
    → IsTree width (db t) es → Clear es
    → IsAnswerAs lost (query (inner t end) (two_are 2 3) project [] no_limit) db (Int one ∷ Int two ∷ []) rows
    → rows ≡ map (λ e. eval_all project ((Int one ∷ Int two ∷ []) ∷ stored e ∷ []))
    (listed (find (has_two one two) es))
two_answer lost t project db one two rows es tree apart a =
    let show : Entry → Row = λ e. eval_all project ((Int one ∷ Int two ∷ []) ∷ stored e ∷ []) in
    let perm = looked_up (Int one ∷ Int two ∷ []) (two_are 2 3) (has_two one two)
    (λ e. passes_is one two e.key e.values e.texts) lost t project db rows es tree.are a in
    let single = one_row es one two apart es (λ x h. h) tree.rise in
    small_permutation show (find (has_two one two) es) rows
    (subst (λ l. IsPermutation (map show l) rows) single perm)
