-- The closed rows of a log: each is sound, and no two of them share a number.
use Rattle.std.proofs.Common.{◌≡◌, ◌≤◌, ◌<◌, ◌/◌, ◌%◌, ◌∙◌, ℕ, Bool, true, false, List, [], ◌∷◌, map, Some, refl, sym, subst, arith, inl, inr}
use Rattle.std.specs.Prelude.{◌==◌, ◌&&◌, nat_eq, nat_le, nat_lt, not}
use Rattle.std.specs.List.{AllByRecursion, list_any}
use Rattle.std.proofs.lemmas.{Bool.and_parts, Bool.leb-true, Bool.eqb-true, Map.Keys.IsDistinct-head, Map.Keys.IsDistinct-tail}
use Rattle.std.proofs.lemmas.Bool.Decides.{nat_tests}
use Rattle.posting_rules.specs.believed.{Closings.are_free, Closings.closings, Closings.meets, Damage.IsSoundClosing}
use Rattle.posting_rules.specs.believed.Commands.{AreCommands, Close, Command, IsCommand, IsRun, Open, Post}
use Rattle.posting_rules.specs.believed.Tables.{AreTablesOf, HasKeys, Tables, closing_key, row_at}
use Rattle.posting_rules.specs.declared.limits.TheConstants.{LAST_KEY, NUMBERS_PER_TELLER}
use Rattle.posting_rules.specs.declared.rows.ClosingRow.{ClosingRow}
use Rattle.posting_rules.proofs.{Keyed.by_test, SoundClosings.closing_sound}
use Rattle.bank_transactions.specs.believed.Closed.{AreClosed}

-- ---- of a log

abbrev AreApart : List ClosingRow → Type 0
AreApart [] = Unit {0}
AreApart (r ∷ runs) = AllByRecursion (λ s. meets r.first r.last s ≡ false) runs × AreApart runs

none_meets : (test : ClosingRow → Bool) (runs : List ClosingRow) → list_any test runs ≡ false
    → AllByRecursion (λ s. test s ≡ false) runs
none_meets test [] e = tt
none_meets test (r ∷ runs) e = elim (by_test (test r)) [
  | inl t ↦ absurd (let g = rw t at e in cc)
  | inr f ↦ (f, none_meets test runs (let g = rw f at e in g))
]

not_true : (b : Bool) → not b ≡ true → b ≡ false
not_true false e = refl
not_true true e = absurd cc

logs_apart : (log : List Command) → AreApart (closings log)
logs_apart [] = tt
logs_apart (Open b terms ∷ log) = logs_apart log
logs_apart (Post m bytes ∷ log) = logs_apart log
logs_apart (Close first last ∷ log) = elim (by_test (are_free (closings log) first last)) [
  | inl t ↦
      let free = (and_parts (nat_le first last) _ t).1 in
      rw t (none_meets (meets first last) (closings log) (not_true _ free), logs_apart log)
  | inr f ↦ rw f (logs_apart log)
]

-- what is so of all rows is so of one that is found
all_at : (P : ClosingRow → Type 0) (runs : List ClosingRow) (k : ℕ) (r : ClosingRow) → AllByRecursion P runs
    → row_at closing_key runs k ≡ Some r → P r
all_at P [] k r all is = absurd cc
all_at P (x ∷ runs) k r all is = elim (by_test (x.last == k)) [
  | inl here ↦ let same : x ≡ r = (let it = rw here at is in cc) in subst P same all.0
  | inr not_here ↦ all_at P runs k r all.1 (let it = rw not_here at is in it)
]

flip : (a b c d : ℕ) → (nat_le c b && nat_le a d) ≡ false → (nat_le a d && nat_le c b) ≡ false
flip a b c d is = grind (arith, nat_tests)

both_here : (x a b : ℕ) → (x == a) ≡ true → (x == b) ≡ true → (a == b) ≡ false → ⊥
both_here x a b one two other = grind (arith, nat_tests)

two_apart : (runs : List ClosingRow) → AreApart runs → (r s : ClosingRow) → row_at closing_key runs r.last ≡ Some r
    → row_at closing_key runs s.last ≡ Some s → (r.last == s.last) ≡ false → meets r.first r.last s ≡ false
two_apart [] apart r s one two other = absurd cc
two_apart (x ∷ runs) apart r s one two other = elim (by_test (x.last == r.last)) [
  | inl here ↦ elim (by_test (x.last == s.last)) [
    | inl too ↦ absurd (both_here x.last r.last s.last here too other)
    | inr later ↦
        let same : x ≡ r = (let it = rw here at one in cc) in
        let there : row_at closing_key runs s.last ≡ Some s = (let it = rw later at two in it) in
        subst (λ (y : ClosingRow). meets y.first y.last s ≡ false) same
        (all_at (λ y. meets x.first x.last y ≡ false) runs s.last s apart.0 there)
  ]
  | inr not_here ↦
      let first : row_at closing_key runs r.last ≡ Some r = (let it = rw not_here at one in it) in
      elim (by_test (x.last == s.last)) [
        | inl here ↦
            let same : x ≡ s = (let it = rw here at two in cc) in
            flip s.first s.last r.first r.last
            (subst (λ (y : ClosingRow). meets y.first y.last r ≡ false) same
            (all_at (λ y. meets x.first x.last y ≡ false) runs r.last r apart.0 first))
        | inr later ↦ two_apart runs apart.1 r s first (let it = rw later at two in it) other
      ]
]

-- ---- of its rows in tables

tail_found : (r : ClosingRow) (rows xs : List ClosingRow)
    → AllByRecursion (λ k. nat_eq r.last k ≡ false) (map closing_key xs)
    → AllByRecursion (λ s. row_at closing_key rows s.last ≡ Some s) xs
    → AllByRecursion (λ s. row_at closing_key (r ∷ rows) s.last ≡ Some s) xs
tail_found r rows [] other all = tt
tail_found r rows (s ∷ xs) other all = (rw other.0 all.0, tail_found r rows xs other.1 all.1)

own_key : (n : ℕ) → (n == n) ≡ true
own_key n = grind (arith, nat_tests)

all_found : (rows : List ClosingRow) → HasKeys closing_key rows
    → AllByRecursion (λ s. row_at closing_key rows s.last ≡ Some s) rows
all_found [] keys = tt
all_found (r ∷ rows) keys = (
  rw (own_key r.last) refl,
  tail_found r rows rows (IsDistinct-head nat_eq r.last (map closing_key rows) keys)
      (all_found rows (IsDistinct-tail nat_eq r.last (map closing_key rows) keys)),
)

in_log : (rows runs xs : List ClosingRow) → ((x : ℕ) → row_at closing_key rows x ≡ row_at closing_key runs x)
    → AllByRecursion (λ s. row_at closing_key rows s.last ≡ Some s) xs
    → AllByRecursion (λ s. row_at closing_key runs s.last ≡ Some s) xs
in_log rows runs [] same all = tt
in_log rows runs (s ∷ xs) same all = (sym (same s.last) ∙ all.0, in_log rows runs xs same all.1)

module _ (log : List Command) (are : AreCommands log) where
  rest_apart : (r : ClosingRow) (xs : List ClosingRow) → row_at closing_key (closings log) r.last ≡ Some r
      → AllByRecursion (λ k. nat_eq r.last k ≡ false) (map closing_key xs)
      → AllByRecursion (λ s. row_at closing_key (closings log) s.last ≡ Some s) xs
      → AllByRecursion (λ s. meets r.first r.last s ≡ false) xs
  rest_apart r [] there other all = tt
  rest_apart r (s ∷ xs) there other all = (
    two_apart (closings log) (logs_apart log) r s there all.0 other.0,
    rest_apart r xs there other.1 all.1,
  )

  all_closed : (rows : List ClosingRow) → HasKeys closing_key rows
      → AllByRecursion (λ s. row_at closing_key (closings log) s.last ≡ Some s) rows → AreClosed rows
  all_closed [] keys all = tt
  all_closed (r ∷ rows) keys all = (
    closing_sound log are r all.0,
    rest_apart r rows all.0 (IsDistinct-head nat_eq r.last (map closing_key rows) keys) all.1,
    all_closed rows (IsDistinct-tail nat_eq r.last (map closing_key rows) keys) all.1,
  )

pub closed_of_log : (t : Tables) (log : List Command) → AreCommands log → AreTablesOf t log → AreClosed t.closings
closed_of_log t log are shows =
    let rows = shows.rows in
    all_closed log are t.closings rows.closing_keys
    (in_log t.closings (closings log) t.closings rows.closings (all_found t.closings rows.closing_keys))

-- a command that closes numbers has a sound row
ordered : (first last : ℕ) → IsCommand (Close first last) → nat_le first last ≡ true
ordered first last (inl (nought, none)) = rw (nought, none) refl
ordered first last (inr run) = let order = run.ordered in grind (arith, nat_tests)

pub row_sound : (row : ClosingRow) → IsCommand (Close row.first row.last) → IsSoundClosing row
row_sound row is = closing_sound (Close row.first row.last ∷ []) (is, tt) row
    (rw (ordered row.first row.last is, own_key row.last) refl)

was_lt : (a b : ℕ) → nat_lt a b ≡ true → a < b
was_lt a b is = grind (arith, nat_tests)

run_is : (f l : ℕ) → l ≤ LAST_KEY → f ≤ l → NUMBERS_PER_TELLER ≤ f → 0 < f % NUMBERS_PER_TELLER
    → f / NUMBERS_PER_TELLER ≡ l / NUMBERS_PER_TELLER → IsRun f l
run_is f l last order least some same = record {
  teller = f / NUMBERS_PER_TELLER;
  teller_above = omega (arith, least);
  teller_within = omega (arith, last, order);
  above = omega (arith, some);
  ordered = order;
  within = omega (arith, same);
}

-- and a sound row is that of one
pub sound_command : (row : ClosingRow) → IsSoundClosing row → IsCommand (Close row.first row.last)
sound_command row sound = elim (by_test ((row.first == 0) && (row.last == 0))) [
  | inl nought ↦
      let two = and_parts (row.first == 0) (row.last == 0) nought in
      inl (eqb-true row.first 0 two.0, eqb-true row.last 0 two.1)
  | inr other ↦
      let one = and_parts (nat_le row.first row.last) _ (rw other at sound.numbers) in
      let two = and_parts (nat_le NUMBERS_PER_TELLER row.first) _ one.1 in
      let three = and_parts (nat_lt 0 (row.first % NUMBERS_PER_TELLER)) _ two.1 in
      inr (run_is row.first row.last sound.last (leb-true row.first row.last one.0)
      (leb-true NUMBERS_PER_TELLER row.first two.0) (was_lt 0 (row.first % NUMBERS_PER_TELLER) three.0)
      (eqb-true (row.first / NUMBERS_PER_TELLER) (row.last / NUMBERS_PER_TELLER) three.1))
]
