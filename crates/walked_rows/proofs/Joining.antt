-- Rows with those beside them in another table.
use Rattle.std.proofs.Common.{◌≡◌, ◌≤◌, ◌<◌, ◌+◌, get_or, ℕ, zero, suc, drop, length, ◌<ℤ◌, ◌≤ℤ◌}
use Rattle.std.proofs.Common.{◌+ℤ◌, ℤ, pos, List, [], ◌∷◌, ◌++◌}
use Rattle.std.proofs.Common.{map, filter, find, cond, Bool, true, false, Some, None, Option, int_cmp, refl, sym, ap}
use Rattle.std.proofs.Common.{◌∙◌, inl, inr, arith}
use Rattle.std.specs.{Prelude.IfSome, Ordering.int_eq, Ordering.is_ge}
use Rattle.std.proofs.lemmas.{Bool.cases_Bool, Int.ints}
use Rattle.std.proofs.Math.Seq.{drop-cons}
use Rattle.sql_meanings.specs.{believed.Entries.Entry, believed.Entries.Rise, believed.Entries.has_key, Seeks.is_from}
use Rattle.walked_rows.specs.Pairs.{AreJoined, ComesBefore, Pair, pair_key, pair_with, paired, row_under}
use Rattle.walked_rows.specs.Rows.{items_after, items_from, rows_after, rows_from}
use Rattle.walked_rows.proofs.Gathering.{first_left, found_of}

-- ---- the row under a key

lower_key : (a b k : ℤ) → is_ge (int_cmp a b) ≡ false → b ≤ℤ k → int_eq a k ≡ false
lower_key a b k low from = grind (arith, ints)

higher_key : (a b k : ℤ) → is_ge (int_cmp a b) ≡ true → k <ℤ b → int_eq a k ≡ false
higher_key a b k from low = grind (arith, ints)

-- is one of those from a lower number on
under_from : (start k : ℤ) (es : List Entry) → start ≤ℤ k → row_under es k ≡ row_under (rows_from start es) k
under_from start k [] low = refl
under_from start k (e ∷ es) low = elim (cases_Bool (is_from start e)) [
  | inl here ↦ rw here (ap (λ t. cond (has_key k e) (Some e) t) (under_from start k es low))
  | inr away ↦ rw (away, lower_key e.key start k away low) (under_from start k es low)
]

-- isn't one of those from a higher number on
not_after : (beyond : Option ℤ) (k : ℤ) (es : List Entry) → ComesBefore beyond k
    → row_under (rows_after beyond es) k ≡ None
not_after None k es decided = refl
not_after (Some b) k [] decided = refl
not_after (Some b) k (e ∷ es) decided = elim (cases_Bool (is_from b e)) [
  | inl here ↦ rw (here, higher_key e.key b k here decided) (not_after (Some b) k es decided)
  | inr away ↦ rw away (not_after (Some b) k es decided)
]

find_left : (p : Entry → Bool) (xs ys : List Entry) → find p ys ≡ None → find p (xs ++ ys) ≡ find p xs
find_left p [] ys none = none
find_left p (x ∷ xs) ys none = ap (λ t. cond (p x) (Some x) t) (find_left p xs ys none)

-- is found among those that were read ahead, where they decide it
pub beside_is : (others : List Entry) (start k : ℤ) (read : List Entry) (beyond : Option ℤ)
    → rows_from start others ≡ read ++ rows_after beyond others
    → start ≤ℤ k → ComesBefore beyond k → row_under others k ≡ row_under read k
beside_is others start k read beyond answers low decided =
    under_from start k others low ∙ ap (λ es. row_under es k) answers
    ∙ find_left (has_key k) read (rows_after beyond others) (not_after beyond k others decided)

-- ---- pairs

-- a test of what things are made into is one of the things
pub image_filter : {X Y : Type 0} (f : X → Y) (p : X → Bool) (q : Y → Bool) → ((x : X) → q (f x) ≡ p x)
    → (xs : List X) → filter q (map f xs) ≡ map f (filter p xs)
image_filter f p q same [] = refl
image_filter f p q same (x ∷ xs) = elim (cases_Bool (p x)) [
  | inl here ↦ rw (same x, here) (ap (λ l. f x ∷ l) (image_filter f p q same xs))
  | inr away ↦ rw (same x, away) (image_filter f p q same xs)
]

-- one of rows is one of their pairs
pub paired_filter : (others : List Entry) (q : Entry → Bool) (es : List Entry)
    → filter (λ p. q p.entry) (paired others es) ≡ paired others (filter q es)
paired_filter others q = image_filter (pair_with others) q (λ p. q p.entry) (λ _. refl)

-- the pairs from a number on are those of the rows
pub pairs_from : (others es : List Entry) (q : Entry → Bool) (pairs : List Pair) → pairs ≡ paired others es
    → (k : ℤ)
    → items_from pair_key k (filter (λ p. q p.entry) pairs) ≡ paired others (rows_from k (filter q es))
pairs_from others es q pairs are k =
    ap (λ ps. items_from pair_key k (filter (λ p. q p.entry) ps)) are
    ∙ ap (items_from pair_key k) (paired_filter others q es)
    ∙ paired_filter others (is_from k) (filter q es)

pub pairs_after : (others es : List Entry) (q : Entry → Bool) (pairs : List Pair) → pairs ≡ paired others es
    → (rest : Option ℤ)
    → items_after pair_key rest (filter (λ p. q p.entry) pairs)
    ≡ paired others (rows_after rest (filter q es))
pairs_after others es q pairs are None = refl
pairs_after others es q pairs are (Some k) = pairs_from others es q pairs are k

-- ---- row by row

pub first_of : {X : Type 0} (x y : X) (xs ys : List X) → x ∷ xs ≡ y ∷ ys → x ≡ y
first_of x y xs ys e = cc

pub rest_of : {X : Type 0} (x y : X) (xs ys : List X) → x ∷ xs ≡ y ∷ ys → xs ≡ ys
rest_of x y xs ys e = cc

module _ {J : Type 0} (pair : J → Pair) (others base : List Entry) (rise : Rise base) (start : ℤ) where
  abbrev SoFar : List J → ℤ → Type 0
  SoFar done next = AreJoined pair others base start done (Some next)

  -- one more
  pub joins_on : (done : List J) (next : ℤ) (j : J) (e : Entry) (more : List Entry) → SoFar done next
      → rows_from next base ≡ e ∷ more → pair j ≡ pair_with others e
      → (rows_from (e.key +ℤ pos 1) base ≡ more) × SoFar (done ++ j ∷ []) (e.key +ℤ pos 1)
  joins_on done next j e more so_far is same =
      let left = first_left next base e rise (found_of (is_from next) base e more is) in
      let after = rows_from (e.key +ℤ pos 1) base in (
        rest_of e e after more (sym left ∙ is),
        so_far ∙ ap (λ l. map pair done ++ paired others l) left
            ∙ ap (λ p. map pair done ++ p ∷ paired others after) (sym same)
            ∙ beyond done (paired others after),
      )
    where
      beyond : (xs : List J) (ps : List Pair) → map pair xs ++ pair j ∷ ps ≡ map pair (xs ++ j ∷ []) ++ ps
      beyond [] ps = refl
      beyond (x ∷ xs) ps = ap (λ l. pair x ∷ l) (beyond xs ps)

-- ---- ends

-- all were given
pub none_left : {R : Type 0} (n : ℕ) (rs : List R) → length rs ≤ n → drop n rs ≡ []
none_left zero [] low = refl
none_left zero (r ∷ rs) low = absurd (omega arith)
none_left (suc n) [] low = refl
none_left (suc n) (r ∷ rs) low = none_left n rs (omega arith)

-- those to come begin with this one
pub next_left : {X : Type 0} (xs : List X) (i : ℕ) (x : X) → i < length xs → x ≡ get_or xs i x
    → drop i xs ≡ x ∷ drop (i + 1) xs
next_left xs i x low is =
    let later : suc i ≡ i + 1 = omega arith in
    drop-cons xs i x low ∙ ap (λ y. y ∷ drop (suc i) xs) (sym is) ∙ ap (λ m. x ∷ drop m xs) later

pub decided_by : (beyond : Option ℤ) (k : ℤ) → IfSome beyond (λ b. k <ℤ b) → ComesBefore beyond k
decided_by None k h = tt
decided_by (Some b) k h = h
