-- The row under a key is changed, or a row is put in: what is found after it, and that keys rise on.
use Rattle.sql_meanings.specs.Names.{ℕ, ℤ, List, [], map, find, is_some, cond, Bool, true, false}
use Rattle.sql_meanings.specs.Names.{Some, None, int_eq, match_ordering, AllByRecursion, Row, is_taken}
use Rattle.sql_meanings.proofs.Names.{refl, sym, ap, subst, ◌∙◌, Less, Equal, Greater, Ordering, int_cmp, ints, arith}
use Rattle.sql_meanings.proofs.Names.{value_cmp-Int}
use Rattle.std.proofs.lemmas.Bool.Decides.{Decides-int_eq}
use Rattle.sql_meanings.specs.believed.Entries.{HasWidth, Entry, IsTree, Rise, has_key, stored}
use Rattle.sql_meanings.specs.Entries.{changed, put}
use Rattle.sql_meanings.proofs.EntryLists.{Above, rise_put}
use Rattle.std.specs.Prelude.{◌≡◌, ◌||◌, ◌∷◌}

-- what holds of every element holds of the one that is found
pub found_all : {X : Type 0} (P : X → Type 0) (p : X → Bool) (xs : List X) (x : X) → AllByRecursion P xs
    → find p xs ≡ Some x → P x
found_all P p [] x all h = absurd (cc)
found_all P p (y ∷ xs) x all h = go (p y) h (found_all P p xs x all.1)
  where
    go : (b : Bool) → cond b (Some y) (find p xs) ≡ Some x → (find p xs ≡ Some x → P x) → P x
    go true found more = let same : y ≡ x = cc in subst P same all.0
    go false found more = more found

-- the one that is found passes the test
pub found_passes : {X : Type 0} (p : X → Bool) (xs : List X) (x : X) → find p xs ≡ Some x → p x ≡ true
found_passes p [] x h = absurd cc
found_passes p (y ∷ xs) x h = go (p y) refl h (found_passes p xs x)
  where
    go : (b : Bool) → p y ≡ b → cond b (Some y) (find p xs) ≡ Some x → (find p xs ≡ Some x → p x ≡ true)
        → p x ≡ true
    go true here is more = let same : y ≡ x = cc in subst (λ z. p z ≡ true) same here
    go false here is more = more is

-- the row that is found under a key has the key
pub found_key : (k : ℤ) (es : List Entry) (e : Entry) → find (has_key k) es ≡ Some e → e.key ≡ k
found_key k es e h = (Decides-int_eq e.key k).0 (found_passes (has_key k) es e h)

-- every row keeps its width as one is put in
pub wide_put : (width : ℕ × ℕ) (new : Entry) (es : List Entry) → HasWidth width new
    → AllByRecursion (λ e. HasWidth width e) es
    → AllByRecursion (λ e. HasWidth width e) (put new es)
wide_put width new [] h all = (h, all)
wide_put width new (e ∷ es) h all = go (int_cmp e.key new.key) (wide_put width new es h all.1)
  where
    go : (o : Ordering) → AllByRecursion (λ e. HasWidth width e) (put new es)
        → AllByRecursion (λ e. HasWidth width e)
        (match_ordering o (e ∷ put new es) (new ∷ es) (new ∷ e ∷ es))
    go Less more = (all.0, more)
    go Equal more = (h, all.1)
    go Greater more = (h, all)

-- a row that is put in keeps a tree a tree
pub tree_put : {width : ℕ × ℕ} (rows rows' : List Row) (new : Entry) (es : List Entry) → HasWidth width new
    → rows' ≡ map stored (put new es)
    → IsTree width rows es → IsTree width rows' (put new es)
tree_put {width} rows rows' new es wide are tree =
    record { are = are; rise = rise_put new es tree.rise; wide = wide_put width new es wide tree.wide }

less_apart : (a b k : ℤ) → int_cmp a b ≡ Less → int_eq a k ≡ true → int_eq b k ≡ false
less_apart a b k low same = grind (arith, ints)

same_cmp : (a : ℤ) → int_cmp a a ≡ Equal
same_cmp a = grind (arith, ints)

module _ (change : Entry → Entry) (keeps : (e : Entry) → (change e).key ≡ e.key) (k : ℤ) where
  none_after : (e : Entry) (es : List Entry) → Above e es → has_key k e ≡ true → changed change k es ≡ es
  none_after e [] above here = refl
  none_after e (x ∷ xs) above here = rw (less_apart e.key x.key k above.0 here)
      (ap (λ l. x ∷ l) (none_after e xs above.1 here))

  -- where no row has the key, none is changed
  pub none_changed : (es : List Entry) → find (has_key k) es ≡ None → changed change k es ≡ es
  none_changed [] h = refl
  none_changed (x ∷ xs) h = go (has_key k x) h (none_changed xs)
    where
      go : (b : Bool) → cond b (Some x) (find (has_key k) xs) ≡ None
          → (find (has_key k) xs ≡ None → changed change k xs ≡ xs)
          → cond b (change x) x ∷ changed change k xs ≡ x ∷ xs
      go true found more = absurd cc
      go false found more = ap (λ l. x ∷ l) (more found)

  put_here : (x : Entry) (xs : List Entry) → Above x xs → has_key k x ≡ true
      → put (change x) (x ∷ xs) ≡ change x ∷ changed change k xs
  put_here x xs above here =
      let same : int_cmp x.key (change x).key ≡ Equal = ap (int_cmp x.key) (keeps x) ∙ same_cmp x.key in
      ap (λ o. match_ordering o (x ∷ put (change x) xs) (change x ∷ xs) (change x ∷ x ∷ xs)) same
      ∙ ap (λ l. change x ∷ l) (sym (none_after x xs above here))

  put_later : (x e : Entry) (xs : List Entry) → Above x xs → find (has_key k) xs ≡ Some e
      → put (change e) xs ≡ changed change k xs
      → put (change e) (x ∷ xs) ≡ x ∷ changed change k xs
  put_later x e xs above found more =
      let low : int_cmp x.key e.key ≡ Less = found_all (λ y. int_cmp x.key y.key ≡ Less)
      (has_key k) xs e above found in
      rw (keeps e, low) (ap (λ l. x ∷ l) more)

  -- to put the changed row in its place is to change the row
  pub put_changed : (es : List Entry) (e : Entry) → Rise es → find (has_key k) es ≡ Some e
      → put (change e) es ≡ changed change k es
  put_changed [] e rise h = absurd cc
  put_changed (x ∷ xs) e rise h = go (has_key k x) refl h (put_changed xs e rise.1)
    where
      go : (b : Bool) → has_key k x ≡ b → cond b (Some x) (find (has_key k) xs) ≡ Some e
          → (find (has_key k) xs ≡ Some e → put (change e) xs ≡ changed change k xs)
          → put (change e) (x ∷ xs) ≡ cond b (change x) x ∷ changed change k xs
      go true here found more = let same : x ≡ e = cc in
          subst (λ y. put (change y) (x ∷ xs) ≡ change x ∷ changed change k xs) same
          (put_here x xs rise.0 here)
      go false here found more = put_later x e xs rise.0 found (more found)

-- a key is taken where a row is found under it
pub taken_is : (new : Entry) (es : List Entry)
    → is_taken (map stored es) (stored new) ≡ is_some (find (has_key new.key) es)
taken_is new [] = refl
taken_is new (e ∷ es) = rw (value_cmp-Int e.key new.key, taken_is new es) (go (has_key new.key e))
  where
    go : (b : Bool)
        → (b || is_some (find (has_key new.key) es)) ≡ is_some (cond b (Some e) (find (has_key new.key) es))
    go true = refl
    go false = refl
