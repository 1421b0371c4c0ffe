-- Rows of closed numbers, read one after another by rising keys.
use Rattle.std.proofs.Common.{◌≡◌, ◌<◌, ◌++◌, ◌∙◌, ℕ, ℤ, pos, Bool, true, false, cond, List, [], ◌∷◌, map, find, filter}
use Rattle.std.proofs.Common.{Some, None, Option, Ok, Err, Result, refl, sym, ap, inl, inr, arith, int_cmp, Less}
use Rattle.std.specs.Prelude.{◌&&◌, ◌||◌, not}
use Rattle.std.specs.List.{list_all, list_any}
use Rattle.posting_rules.specs.Numbers.{SameNumbers}
use Rattle.posting_rules.specs.believed.Closings.{books_of, is_closed_in, meets}
use Rattle.posting_rules.specs.believed.Commands.{number_key}
use Rattle.std.proofs.lemmas.Bool.{and_parts}
use Rattle.bank_transactions.specs.believed.Stored.{HasNumbers, closing_rows, is_among, is_read}
use Rattle.std.specs.Ordering.{is_ge, is_gt, int_eq}
use Rattle.std.proofs.lemmas.{Int.ints, List.map-append}
use Rattle.posting_rules.specs.declared.{fault.Rule.Rule, rows.ClosingRow.ClosingRow}
use Rattle.posting_rules.proofs.Keyed.{by_test}
use Rattle.sql_meanings.specs.{Entries.is_above, Entries.listed, Seeks.is_from}
use Rattle.sql_meanings.specs.believed.Entries.{Entry, Rise, has_key}
use Rattle.sql_meanings.proofs.{Changes.found_passes, EntryLists.Above, EntryLists.one_filter}
use Rattle.store_rows.specs.believed.{Readings.read_closing, Rules.row_under, Stored.FindsStored, View.closing_entry}
use Rattle.store_rows.proofs.Readings.{closing_is}
use Rattle.bank_transactions.specs.{Gathering.ReadsAs, Gathering.ReadsUpTo, Gathering.is_upto}

-- ---- keys

same_test : (x : ℤ) → (is_ge (int_cmp x (pos 0)) && not (is_gt (int_cmp x (pos 0)))) ≡ int_eq x (pos 0)
same_test x = grind (arith, ints)

last_is : (x : ℤ) (k : ℕ) → x ≡ pos k → (is_ge (int_cmp x (pos 0)) && not (is_gt (int_cmp x (pos k)))) ≡ true
last_is x k is = grind (arith, ints)

not_past : (x y : ℤ) (k : ℕ) → int_cmp x y ≡ Less → is_gt (int_cmp x (pos k)) ≡ true
    → (is_ge (int_cmp y (pos 0)) && not (is_gt (int_cmp y (pos k)))) ≡ false
not_past x y k low high = grind (arith, ints)

not_after : (x y : ℤ) (k : ℕ) → int_cmp x y ≡ Less → x ≡ pos k
    → (is_ge (int_cmp y (pos 0)) && not (is_gt (int_cmp y (pos k)))) ≡ false
not_after x y k low high = grind (arith, ints)

as_before : (x y : ℤ) (k last : ℕ) → is_gt (int_cmp x (pos k)) ≡ false → is_gt (int_cmp y (pos k)) ≡ true
    → y ≡ pos last
    → (is_ge (int_cmp x (pos 0)) && not (is_gt (int_cmp x (pos last))))
    ≡ (is_ge (int_cmp x (pos 0)) && not (is_gt (int_cmp x (pos k))))
as_before x y k last low high is = grind (arith, ints)

pub rises : (x : ℤ) (k last : ℕ) → is_gt (int_cmp x (pos k)) ≡ true → x ≡ pos last → k < last
rises x k last high is = grind (arith, ints)

-- ---- one row more

none_upto : (a : Entry) (m : ℕ) → ((y : Entry) → int_cmp a.key y.key ≡ Less → is_upto m y ≡ false)
    → (xs : List Entry) → Above a xs → filter (is_upto m) xs ≡ []
none_upto a m misses [] above = refl
none_upto a m misses (x ∷ xs) above = rw (misses x above.0) (none_upto a m misses xs above.1)

grows : (k last : ℕ) (rows : List Entry) (e : Entry) → Rise rows → find (is_above (pos k)) rows ≡ Some e
    → e.key ≡ pos last → filter (is_upto last) rows ≡ filter (is_upto k) rows ++ e ∷ []
grows k last [] e rise found is = absurd cc
grows k last (x ∷ rows) e rise found is = elim (by_test (is_above (pos k) x)) [
  | inl high ↦
      let same : x ≡ e = (let it = rw high at found in cc) in
      let key : x.key ≡ pos last = ap (λ (y : Entry). y.key) same ∙ is in
      let here : is_upto last x ≡ true = last_is x.key last key in
      let before : is_upto k x ≡ false = past x.key k high in
      rw (
        here,
        before,
        none_upto x last (λ y low. not_after x.key y.key last low key) rows rise.0,
        none_upto x k (λ y low. not_past x.key y.key k low high) rows rise.0,
      )
      (ap (λ (y : Entry). y ∷ []) same)
  | inr low ↦
      let rest : find (is_above (pos k)) rows ≡ Some e = (let it = rw low at found in it) in
      let at_e = found_passes (is_above (pos k)) rows e rest in
      let alike : is_upto last x ≡ is_upto k x = as_before x.key e.key k last low at_e is in
      ap (λ b. cond b (x ∷ filter (is_upto last) rows) (filter (is_upto last) rows)) alike
      ∙ both (is_upto k x) x (filter (is_upto last) rows) (filter (is_upto k) rows) (grows k last rows e rise.1 rest is)
]
  where
    past : (y : ℤ) (k : ℕ) → is_gt (int_cmp y (pos k)) ≡ true
        → (is_ge (int_cmp y (pos 0)) && not (is_gt (int_cmp y (pos k)))) ≡ false
    past y k high = grind (arith, ints)

    both : (b : Bool) (x : Entry) (xs ys : List Entry) → xs ≡ ys ++ e ∷ []
        → cond b (x ∷ xs) xs ≡ cond b (x ∷ ys) ys ++ e ∷ []
    both true x xs ys same = ap (λ l. x ∷ l) same
    both false x xs ys same = same

-- the row under the key 0 is the first
pub reads_seal : (rows : List Entry) (o : Option ClosingRow) → Rise rows
    → FindsStored (row_under rows 0) read_closing (Ok o) → ReadsUpTo 0 rows (listed o)
reads_seal rows o rise finds = ap (map read_closing) (same rows ∙ one_filter (pos 0) rows rise) ∙ go o finds
  where
    same : (es : List Entry) → filter (is_upto 0) es ≡ filter (has_key (pos 0)) es
    same [] = refl
    same (e ∷ es) =
        ap (λ b. cond b (e ∷ filter (is_upto 0) es) (filter (is_upto 0) es)) (same_test e.key)
        ∙ ap (λ l. cond (has_key (pos 0) e) (e ∷ l) l) (same es)

    go : (o : Option ClosingRow) → FindsStored (row_under rows 0) read_closing (Ok o)
        → map read_closing (listed (row_under rows 0)) ≡ map (λ r. Ok r) (listed o)
    go None it = ap (λ (x : Option Entry). map read_closing (listed x)) it
    go (Some r) it = ap (λ (x : Option Entry). map read_closing (listed x)) it.1
        ∙ ap (λ (x : Result ClosingRow Rule). x ∷ []) it.2

-- and then the first above a key
module _ (k : ℕ) (rows : List Entry) where
  pub reads_next : (runs : List ClosingRow) (r : ClosingRow) → Rise rows
      → FindsStored (find (is_above (pos k)) rows) read_closing (Ok (Some r)) → ReadsUpTo k rows runs
      → ReadsUpTo r.last rows (runs ++ r ∷ [])
  reads_next runs r rise it so_far =
      ap (map read_closing) (grows k r.last rows it.0 rise it.1 (closing_is it.0 r it.2).0)
      ∙ map-append read_closing (filter (is_upto k) rows) (it.0 ∷ [])
      ∙ ap (λ (l : List (Result ClosingRow Rule)). l ++ read_closing it.0 ∷ []) so_far
      ∙ ap (λ (x : Result ClosingRow Rule). map (λ r. Ok r) runs ++ x ∷ []) it.2
      ∙ sym (map-append (λ r. Ok r) runs (r ∷ []))

  pub next_is_above : (r : ClosingRow) → FindsStored (find (is_above (pos k)) rows) read_closing (Ok (Some r))
      → k < r.last
  next_is_above r it = rises it.0.key k r.last (found_passes (is_above (pos k)) rows it.0 it.1) (closing_is it.0 r it.2).0

  -- where there is none, these are all
  pub reads_all : (runs : List ClosingRow) → find (is_above (pos k)) rows ≡ None → ReadsUpTo k rows runs
      → ReadsAs rows runs
  reads_all runs none so_far = ap (map read_closing) (same rows none) ∙ so_far
    where
      same : (es : List Entry) → find (is_above (pos k)) es ≡ None → filter (is_from (pos 0)) es ≡ filter (is_upto k) es
      same [] none = refl
      same (e ∷ es) none = elim (by_test (is_above (pos k) e)) [
        | inl high ↦ absurd (let it = rw high at none in cc)
        | inr low ↦
            let rest = same es (let it = rw low at none in it) in
            elim (by_test (is_from (pos 0) e)) [
              | inl is ↦ rw (low, is) (ap (λ l. e ∷ l) rest)
              | inr below ↦ rw (low, below) rest
            ]
      ]

-- ---- of tables that are shown

from_nought : (n : ℕ) → is_ge (int_cmp (pos n) (pos 0)) ≡ true
from_nought n = grind (arith, ints)

pos_is : (a b : ℕ) → pos a ≡ pos b → a ≡ b
pos_is a b is = cc

same_closing : (r x : ClosingRow) → read_closing (closing_entry r) ≡ Ok x → x ≡ r
same_closing r x is =
    let parts = closing_is (closing_entry r) x is in
    go r.last r.first x.last x.first (pos_is r.last x.last parts.0) (pos_is r.first x.first parts.1)
  where
    go : (a b c d : ℕ) → a ≡ c → b ≡ d
        → ◌≡◌ {A = ClosingRow} (record { last = c; first = d }) (record { last = a; first = b })
    go a b c d one two = rw (one, two) refl

-- where rows read as these runs, runs with the same numbers have the numbers that the rows close
pub has_numbers : (rows : List Entry) (runs others : List ClosingRow) → ReadsAs rows runs → SameNumbers others runs
    → HasNumbers rows others
has_numbers rows runs others reads same = record {
  read = ap (list_all is_read) reads ∙ all_read runs;
  numbers = λ x. same x ∙ among x runs ∙ ap (list_any (is_among x)) (sym reads);
}
  where
    all_read : (rs : List ClosingRow) → list_all is_read (map (λ r. Ok r) rs) ≡ true
    all_read [] = refl
    all_read (r ∷ rs) = all_read rs

    among : (x : ℕ) (rs : List ClosingRow) → is_closed_in rs x ≡ list_any (is_among x) (map (λ r. Ok r) rs)
    among x [] = refl
    among x (r ∷ rs) = ap (λ b. meets x x r || b) (among x rs)

-- a row that can be read is that of the run
read_as : (r : ClosingRow) (x : ℕ) → is_read (read_closing (closing_entry r)) ≡ true
    → is_among x (read_closing (closing_entry r)) ≡ meets x x r
read_as r x is = go (read_closing (closing_entry r)) refl is
  where
    go : (o : Result ClosingRow Rule) → read_closing (closing_entry r) ≡ o → is_read o ≡ true
        → is_among x o ≡ meets x x r
    go (Ok y) at there = ap (meets x x) (same_closing r y at)
    go (Err rule) at there = absurd cc

-- the numbers that the rows of these runs close are theirs
pub shown_numbers : (rs runs : List ClosingRow) → HasNumbers (map closing_entry rs) runs → SameNumbers runs rs
shown_numbers rs runs has = λ x. has.numbers x ∙ go rs x has.read
  where
    go : (rs : List ClosingRow) (x : ℕ) → list_all is_read (closing_rows (map closing_entry rs)) ≡ true
        → list_any (is_among x) (closing_rows (map closing_entry rs)) ≡ is_closed_in rs x
    go [] x all = refl
    go (r ∷ rs) x all =
        let it = rw (from_nought r.last) at all in
        let parts = and_parts (is_read (read_closing (closing_entry r)))
        (list_all is_read (closing_rows (map closing_entry rs))) it in
        rw (from_nought r.last)
        (ap (λ b. b || list_any (is_among x) (closing_rows (map closing_entry rs))) (read_as r x parts.0)
        ∙ ap (λ b. meets x x r || b) (go rs x parts.1))

-- and runs with the same numbers say the same
pub same_books : (one other : List ClosingRow) (t n : ℕ) → SameNumbers one other → books_of one t n ≡ books_of other t n
same_books one other t n same = rw (same (number_key t n), same 0) refl
