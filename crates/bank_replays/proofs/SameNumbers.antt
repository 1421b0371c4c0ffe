-- Rows whose numbers are the same, one by one.
use Rattle.std.proofs.Common.{◌≡◌, ◌∙◌, ◌&&◌, ℕ, ℤ, Bool, pos, true, List, [], ◌∷◌, map, eqb, int_eq, ap, refl, arith}
use Rattle.std.specs.Prelude.{nat_abs}
use Rattle.std.proofs.lemmas.{Bool.and_parts, Bool.eq-eqb, Bool.eqb-true, Int.ints}
use Rattle.sql_meanings.specs.believed.Entries.{Entry}

-- the row that these numbers are, the key first
abbrev pub entry_of : List ℤ → Entry
entry_of [] = record { key = pos 0; values = []; texts = [] }
entry_of (k ∷ values) = record { key = k; values = values; texts = [] }

-- what two rows have in one column
pub data Two : Type 0 where
  whole : ℕ → ℕ → Two
  number : ℤ → ℤ → Two

abbrev first : Two → ℤ
first (whole n m) = pos n
first (number x y) = x

abbrev second : Two → ℤ
second (whole n m) = pos m
second (number x y) = y

abbrev is_same : Two → Bool
is_same (whole n m) = eqb n m
is_same (number x y) = int_eq x y

abbrev are_same : List Two → Bool
are_same [] = true
are_same (p ∷ []) = is_same p
are_same (p ∷ q ∷ ps) = is_same p && are_same (q ∷ ps)

same_int : (a b : ℤ) → int_eq a b ≡ true → a ≡ b
same_int a b h = grind (arith, ints, h)

same : (p : Two) → is_same p ≡ true → first p ≡ second p
same (whole n m) h = ap pos (eqb-true n m h)
same (number x y) h = same_int x y h

pub same_numbers : (ps : List Two) → are_same ps ≡ true → map first ps ≡ map second ps
same_numbers [] h = refl
same_numbers (p ∷ []) h = ap (λ z. z ∷ []) (same p h)
same_numbers (p ∷ q ∷ ps) h =
    let both = and_parts (is_same p) (are_same (q ∷ ps)) h in
    ap (λ z. z ∷ map first (q ∷ ps)) (same p both.0)
    ∙ ap (λ l. second p ∷ l) (same_numbers (q ∷ ps) both.1)

-- and the other way round

int_same : (a b : ℤ) → a ≡ b → int_eq a b ≡ true
int_same a b h = grind (arith, ints, h)

one : (p : Two) → first p ≡ second p → is_same p ≡ true
one (whole n m) h = eq-eqb n m (ap nat_abs h)
one (number x y) h = int_same x y h

head_of : ℤ → List ℤ → ℤ
head_of z [] = z
head_of z (x ∷ xs) = x

tail_of : List ℤ → List ℤ
tail_of [] = []
tail_of (x ∷ xs) = xs

pub numbers_same : (ps : List Two) → map first ps ≡ map second ps → are_same ps ≡ true
unfolding head_of tail_of
numbers_same [] h = refl
numbers_same (p ∷ []) h = one p (ap (head_of (pos 0)) h)
numbers_same (p ∷ q ∷ ps) h =
    let a : is_same p ≡ true = one p (ap (head_of (pos 0)) h) in
    let b : are_same (q ∷ ps) ≡ true = numbers_same (q ∷ ps) (ap tail_of h) in
    ap (λ (x : Bool). x && are_same (q ∷ ps)) a ∙ b

-- the numbers of a row
abbrev pub numbers_of : Entry → List ℤ
numbers_of e = e.key ∷ e.values
