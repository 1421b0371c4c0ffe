-- The rows of a bank and the entries that a file holds of them.
use Rattle.std.proofs.Common.{◌≡◌, ◌==◌, ℕ, pos, List, [], ◌∷◌, map, find, is_some, cond, nat_lt, Bool, true, false}
use Rattle.std.proofs.Common.{Some, None, Option, option_map, Ordering, Less, Greater, int_cmp, refl, ap, ◌∙◌, arith}
use Rattle.std.proofs.lemmas.Int.{ints}
use Rattle.std.specs.Ordering.{int_eq, is_gt, match_ordering}
use Rattle.posting_rules.specs.believed.{Tables.row_at, Changes.row_changed, Changes.row_put}
use Rattle.sql_meanings.specs.believed.Entries.{Entry, has_key}
use Rattle.sql_meanings.specs.Entries.{changed, is_above, put}

-- two numbers are equal as a file holds them where they are
pub same_number : (a b : ℕ) → int_eq (pos a) (pos b) ≡ (a == b)
same_number a b = grind (arith, ints)

below : (a b : ℕ) → nat_lt a b ≡ true → int_cmp (pos a) (pos b) ≡ Less
below a b h = grind (arith, ints)

not_below : (a b : ℕ) → nat_lt a b ≡ false → (a == b) ≡ false → int_cmp (pos a) (pos b) ≡ Greater
not_below a b h apart = grind (arith, ints)

above : (a b : ℕ) → is_gt (int_cmp (pos b) (pos a)) ≡ nat_lt a b
above a b = grind (arith, ints)

module _ {R : Type 0} (key : R → ℕ) (entry : R → Entry) (keyed : (r : R) → (entry r).key ≡ pos (key r)) where
  -- the entry has a key where its row has it
  pub has_row_key : (k : ℕ) (r : R) → has_key (pos k) (entry r) ≡ (key r == k)
  has_row_key k r = ap (λ z. int_eq z (pos k)) (keyed r) ∙ same_number (key r) k

  -- it is above a number where the row's key is
  pub is_row_above : (k : ℕ) (r : R) → is_above (pos k) (entry r) ≡ nat_lt k (key r)
  is_row_above k r = ap (λ z. is_gt (int_cmp z (pos k))) (keyed r) ∙ above k (key r)

  -- the entry that passes a test is that of the row that passes it
  pub found_by : (p : Entry → Bool) (q : R → Bool) → ((r : R) → p (entry r) ≡ q r) → (rows : List R)
      → find p (map entry rows) ≡ option_map entry (find q rows)
  found_by p q same [] = refl
  found_by p q same (r ∷ rows) = ap (λ b. cond b (Some (entry r)) (find p (map entry rows))) (same r)
      ∙ go (q r) (found_by p q same rows)
    where
      go : (b : Bool) → find p (map entry rows) ≡ option_map entry (find q rows)
          → cond b (Some (entry r)) (find p (map entry rows))
          ≡ option_map entry (cond b (Some r) (find q rows))
      go true more = refl
      go false more = more

  -- the entry under a key is that of the row under it
  pub found_row : (k : ℕ) (rows : List R) → find (has_key (pos k)) (map entry rows)
      ≡ option_map entry (row_at key rows k)
  found_row k rows = found_by (has_key (pos k)) (λ r. key r == k) (has_row_key k) rows

  there : (o : Option R) → is_some (option_map entry o) ≡ is_some o
  there None = refl
  there (Some r) = refl

  -- a key is taken where a row has it
  pub taken_row_key : (k : ℕ) (rows : List R)
      → is_some (find (has_key (pos k)) (map entry rows)) ≡ is_some (row_at key rows k)
  taken_row_key k rows = ap is_some (found_row k rows) ∙ there (row_at key rows k)

  -- to change the entry under a key is to change the row under it
  pub changed_rows : (change : R → R) (change_entry : Entry → Entry)
      → ((r : R) → change_entry (entry r) ≡ entry (change r))
      → (k : ℕ) (rows : List R)
      → changed change_entry (pos k) (map entry rows) ≡ map entry (row_changed key change k rows)
  changed_rows change change_entry same k [] = refl
  changed_rows change change_entry same k (r ∷ rows) =
      ap (λ b. cond b (change_entry (entry r)) (entry r) ∷ changed change_entry (pos k) (map entry rows))
      (has_row_key k r)
      ∙ go (key r == k) ∙ ap (λ l. entry (cond (key r == k) (change r) r) ∷ l)
      (changed_rows change change_entry same k rows)
    where
      go : (b : Bool)
          → cond b (change_entry (entry r)) (entry r) ∷ changed change_entry (pos k) (map entry rows)
          ≡ entry (cond b (change r) r) ∷ changed change_entry (pos k) (map entry rows)
      go true = ap (λ e. e ∷ changed change_entry (pos k) (map entry rows)) (same r)
      go false = refl

  order_of : (new r : R) (o : Ordering) → int_cmp (pos (key r)) (pos (key new)) ≡ o
      → int_cmp (entry r).key (entry new).key ≡ o
  order_of new r o h = ap (λ z. int_cmp z (entry new).key) (keyed r) ∙ ap (int_cmp (pos (key r))) (keyed new)
      ∙ h

  -- to put an entry under a free key in is to put the row in
  pub put_rows : (new : R) (rows : List R) → is_some (row_at key rows (key new)) ≡ false
      → put (entry new) (map entry rows) ≡ map entry (row_put key new rows)
  put_rows new [] free = refl
  put_rows new (r ∷ rows) free = other (key r == key new) refl free (put_rows new rows)
    where
      placed : (o : Ordering) → int_cmp (entry r).key (entry new).key ≡ o
          → put (entry new) (entry r ∷ map entry rows)
          ≡ match_ordering o (entry r ∷ put (entry new) (map entry rows))
          (entry new ∷ map entry rows) (entry new ∷ entry r ∷ map entry rows)
      placed o is = ap (λ o. match_ordering o (entry r ∷ put (entry new) (map entry rows))
          (entry new ∷ map entry rows)
          (entry new ∷ entry r ∷ map entry rows)) is

      side : (b : Bool) → nat_lt (key r) (key new) ≡ b → (key r == key new) ≡ false
          → put (entry new) (map entry rows) ≡ map entry (row_put key new rows)
          → put (entry new) (entry r ∷ map entry rows)
          ≡ map entry (cond b (r ∷ row_put key new rows) (new ∷ r ∷ rows))
      side true low apart more = placed Less (order_of new r Less (below (key r) (key new) low))
          ∙ ap (λ l. entry r ∷ l) more
      side false high apart more = placed Greater
          (order_of new r Greater (not_below (key r) (key new) high apart))

      other : (b : Bool) → (key r == key new) ≡ b
          → is_some (cond b (Some r) (row_at key rows (key new))) ≡ false
          → (is_some (row_at key rows (key new)) ≡ false → put (entry new) (map entry rows)
          ≡ map entry (row_put key new rows))
          → put (entry new) (entry r ∷ map entry rows)
          ≡ map entry (cond (nat_lt (key r) (key new)) (r ∷ row_put key new rows) (new ∷ r ∷ rows))
      other true is none more = absurd cc
      other false is none more = side (nat_lt (key r) (key new)) refl is (more none)
