-- What is gathered of the rows that were found.
use Rattle.std.proofs.Common.{◌≡◌, ◌<◌, ◌≤◌, ℕ, zero, suc, ℤ, pos, ◌+ℤ◌, List, [], ◌∷◌, ◌++◌, map, filter, find, take}
use Rattle.std.proofs.Common.{length, get_or, nat_eq, Bool, true, false, Some, Ok, Err, refl, sym, ap, ◌∙◌, inl, inr}
use Rattle.std.proofs.Common.{int_cmp, Less, arith, append_assoc, w64, to_z, of_z, FitsSigned}
use Rattle.std.specs.Ordering.{is_ge}
use Rattle.std.proofs.lemmas.{Bool.cases_Bool, Bool.Decides.nat_tests, Int.ints, Int.to_z-of_z}
use Rattle.sqlite.specs.Order.{Row}
use Rattle.sql_meanings.specs.believed.{Entries.Entry, Entries.Rise, Tables.width_of}
use Rattle.sql_meanings.specs.Seeks.{is_from}
use Rattle.sql_meanings.proofs.{Changes.found_all, Changes.found_passes, EntryLists.Above}
use Rattle.store_rows.proofs.Lookups.{as_integer}
use Rattle.store_rows.specs.believed.SeveralRows.{given}
use Rattle.store_rows.specs.declared.fault.TableFault.{TableFault, TheVariants.Sqlite, TheVariants.Damaged}
use Rattle.walked_rows.specs.Kinds.{IsRow, Kind}
use Rattle.walked_rows.specs.StepOutcomes.{BreaksBy, BreaksFirst, ReadsNext}
use Rattle.walked_rows.specs.{Rows.IsWide, Rows.rows_from, declared.ahead.TheConstants.AHEAD}

-- ---- how the rows that are yet to come grow fewer

not_itself : (a : ℤ) → is_ge (int_cmp a (a +ℤ pos 1)) ≡ false
not_itself a = grind (arith, ints)

beyond : (a b : ℤ) → int_cmp a b ≡ Less → is_ge (int_cmp b (a +ℤ pos 1)) ≡ true
beyond a b low = grind (arith, ints)

still : (a b k : ℤ) → int_cmp a b ≡ Less → is_ge (int_cmp a k) ≡ true → is_ge (int_cmp b k) ≡ true
still a b k low from = grind (arith, ints)

below_both : (a b k : ℤ) → is_ge (int_cmp a k) ≡ false → is_ge (int_cmp b k) ≡ true
    → is_ge (int_cmp a (b +ℤ pos 1)) ≡ false
below_both a b k low from = grind (arith, ints)

pub all_from : (k : ℤ) (x : Entry) (es : List Entry) → Above x es
    → ((y : Entry) → int_cmp x.key y.key ≡ Less → is_from k y ≡ true)
    → filter (is_from k) es ≡ es
all_from k x [] above each = refl
all_from k x (y ∷ ys) above each = rw (each y above.0) (ap (λ l. y ∷ l) (all_from k x ys above.1 each))

-- the row that was found is the first of those to come, and after it come those above it
pub first_left : (k : ℤ) (es : List Entry) (e : Entry) → Rise es → find (is_from k) es ≡ Some e
    → rows_from k es ≡ e ∷ rows_from (e.key +ℤ pos 1) es
first_left k [] e rise some = absurd cc
first_left k (x ∷ xs) e rise some = elim (cases_Bool (is_from k x)) [
  | inl here ↦
      let same : x ≡ e = let it = rw here at some in cc in
      let left : filter (is_from k) (x ∷ xs) ≡ x ∷ xs =
      rw here (ap (λ l. x ∷ l) (all_from k x xs rise.0 (λ y low. still x.key y.key k low here))) in
      let right : filter (is_from (x.key +ℤ pos 1)) (x ∷ xs) ≡ xs =
      rw (not_itself x.key) (all_from (x.key +ℤ pos 1) x xs rise.0 (λ y low. beyond x.key y.key low)) in
      left ∙ ap (λ l. x ∷ l) (sym right) ∙ ap (λ y. y ∷ filter (is_from (y.key +ℤ pos 1)) (x ∷ xs)) same
  | inr away ↦
      let later : find (is_from k) xs ≡ Some e = rw away at some in
      let low : is_from (e.key +ℤ pos 1) x ≡ false =
      below_both x.key e.key k away (found_passes (is_from k) xs e later) in
      rw (away, low) (first_left k xs e rise.1 later)
]

fits : (a : ℕ) → a ≤ 999_999_999_999_999_999 → FitsSigned w64 (pos a +ℤ pos 1)
fits a low = omega (arith, ints)

-- the number after a key
pub after_key : (n : ℕ) (key : ℤ) → key ≡ pos n → n ≤ 999_999_999_999_999_999
    → to_z w64 (of_z w64 (to_z w64 n +ℤ pos 1)) ≡ key +ℤ pos 1
after_key n key same low =
    ap (λ z. to_z w64 (of_z w64 (z +ℤ pos 1))) (as_integer n n refl low)
    ∙ to_z-of_z w64 (pos n +ℤ pos 1) (fits n low)
    ∙ ap (λ z. z +ℤ pos 1) (sym same)

-- a list of no length
pub none_there : {X : Type 0} (xs : List X) → nat_eq (length xs) 0 ≡ true → xs ≡ []
none_there [] h = refl
none_there (x ∷ xs) h = absurd (grind (arith, nat_tests))

-- something is, where they aren't empty or they are full
pub some_there : {X : Type 0} (xs : List X) → nat_eq (length xs) 0 ≡ false → xs ≡ [] → ⊥
some_there xs some none = let h = rw none at some in cc

pub full_there : {X : Type 0} (n : ℕ) (xs : List X) → 0 < n → nat_eq (length xs) n ≡ true → xs ≡ [] → ⊥
full_there n xs room full none = let h = rw none at full in grind (arith, nat_tests)

-- one more has room, where they aren't full
pub room_there : (n most : ℕ) → n ≤ most → nat_eq n most ≡ false → n < most
room_there n most fits more = grind (arith, nat_tests)

-- no rows are shown of those that are to come where there are none
pub no_more : (es : List Entry) (found : List Row) → length found ≤ 0 → found ≡ map given (take AHEAD es) → es ≡ []
no_more [] found low is = refl
no_more (e ∷ es) found low is = absurd (omega (arith, ap length is))

-- ---- a row of those that were found

pub found_of : (p : Entry → Bool) (es : List Entry) (e : Entry) (more : List Entry) → filter p es ≡ e ∷ more
    → find p es ≡ Some e
found_of p [] e more is = absurd (cc)
found_of p (x ∷ xs) e more is = elim (cases_Bool (p x)) [
  | inl here ↦ rw here (ap Some (let it = rw here at is in cc))
  | inr away ↦ rw away (found_of p xs e more (rw away at is))
]

first_of : (most : ℕ) (before after : List Entry) (d : Row)
    → length before < length (map given (take most (before ++ after)))
    → (e : Entry) × (more : List Entry) × (after ≡ e ∷ more)
    × (get_or (map given (take most (before ++ after))) (length before) d ≡ given e)
first_of zero before after d low = absurd (omega arith)
first_of (suc n) [] [] d low = absurd (omega arith)
first_of (suc n) [] (e ∷ more) d low = (e, more, refl, refl)
first_of (suc n) (x ∷ before) after d low = first_of n before after d (omega arith)

module _ {R : Type 0} (kind : Kind R) (most : ℕ) (found : List Row) (from : ℤ) (rows : List Entry)
    (rise : Rise rows) (wide : IsWide (width_of kind.table) rows)
    (is : found ≡ map given (take most (rows_from from rows))) where
  -- so many were gathered, and from a number on the others follow
  abbrev pub Gathered : List R → ℤ → Type 0
  Gathered done next = rows_from from rows ≡ map kind.entry done ++ rows_from next rows

  as_many : (xs : List R) → length (map kind.entry xs) ≡ length xs
  as_many [] = refl
  as_many (x ∷ xs) = ap suc (as_many xs)

  module _ (done : List R) (next : ℤ) (row : Row) (low : length done < length found)
      (at : row ≡ get_or found (length done) row)
      (so_far : Gathered done next) where
    -- the next row that was found is the next one
    next_is : (e : Entry) × (find (is_from next) rows ≡ Some e) × (row ≡ given e)
        × IsRow kind e
    next_is =
        let all : found ≡ map given (take most (map kind.entry done ++ rows_from next rows)) =
        is ∙ ap (λ l. map given (take most l)) so_far in
        let count : length (map kind.entry done) ≡ length done = as_many done in
        let it =
        first_of most (map kind.entry done) (rows_from next rows) row (omega (arith, ap length all, count)) in
        let some = found_of (is_from next) rows it.0 it.1 it.2 in (
          it.0,
          some,
          at ∙ ap (λ l. get_or l (length done) row) all
              ∙ ap (λ n. get_or (map given (take most (map kind.entry done ++ rows_from next rows))) n row) (sym count)
              ∙ it.3,
          found_all (λ x. IsRow kind x) (is_from next) rows it.0 wide some,
        )

    -- it was read
    pub gathers_on : (r : R) → ReadsNext kind next row (Ok r)
        → Gathered (done ++ r ∷ []) ((kind.entry r).key +ℤ pos 1)
    gathers_on r read =
        let it = next_is in
        let same : kind.entry r ≡ it.0 = read.0 it.0 it.2 it.3 in
        so_far ∙ ap (λ l. map kind.entry done ++ l) (first_left next rows it.0 rise it.1)
        ∙ ap (λ x. map kind.entry done ++ (x ∷ rows_from (x.key +ℤ pos 1) rows)) (sym same)
        ∙ sym (append_assoc (map kind.entry done) (kind.entry r ∷ []) (rows_from ((kind.entry r).key +ℤ pos 1) rows))
        ∙ ap (λ l. l ++ rows_from ((kind.entry r).key +ℤ pos 1) rows) (sym (map_after done r))
      where
        map_after : (xs : List R) (x : R) → map kind.entry (xs ++ x ∷ []) ≡ map kind.entry xs ++ kind.entry x ∷ []
        map_after [] x = refl
        map_after (y ∷ ys) x = ap (λ l. kind.entry y ∷ l) (map_after ys x)

    -- a number of it is out of its range, and none was gathered before it
    pub gathers_none : (fault : TableFault) → done ≡ []
        → ReadsNext kind next row (Err fault)
        → BreaksFirst (λ _. ⊥) (BreaksBy kind.reading) (rows_from from rows) fault
    gathers_none (Sqlite e) none read = read
    gathers_none (Damaged broken) none read =
        let it = next_is in
        let broke = read it.0 it.2 it.3 (found_passes (is_from next) rows it.0 it.1) in (
          it.0,
          rows_from (it.0.key +ℤ pos 1) rows,
          so_far ∙ ap (λ l. map kind.entry l ++ rows_from next rows) none ∙ first_left next rows it.0 rise it.1,
          broke,
        )
