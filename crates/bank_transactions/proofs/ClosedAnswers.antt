-- What a closing comes to, by the row that may have one of its numbers.
use Rattle.std.proofs.Common.{◌≡◌, ◌≤◌, ◌<◌, ◌-◌, ◌∙◌, ℕ, zero, suc, pos, Bool, true, false, cond, List, [], ◌∷◌, map, Option, Some, None, Ok, Err}
use Rattle.std.proofs.Common.{Result, find, refl, sym, ap, subst, inl, inr, arith, int_cmp, Less}
use Rattle.sqlite.specs.{Effect.Database, Order.Row, declared.transaction.Transaction.Transaction}
use Rattle.sqlite_trees.specs.declared.store.Store.{Ghosts}
use Rattle.std.specs.Prelude.{◌==◌, ◌&&◌, IsTrue, if◌then◌else◌, nat_le, nat_lt, not}
use Rattle.std.specs.List.{AllByRecursion, list_any}
use Rattle.std.specs.Ordering.{int_eq, is_gt}
use Rattle.std.proofs.lemmas.{Bool.and_parts, Bool.eqb-true, Bool.leb-true, Bool.Decides.nat_tests, Int.ints}
use Rattle.posting_rules.specs.{believed.Closings.are_free, believed.Closings.is_closing, believed.Closings.meets}
use Rattle.posting_rules.specs.{believed.Closings.run_of, Closings.closing_for, Closings.covers}
use Rattle.posting_rules.specs.believed.{Changes.tables_closed, Damage.IsSoundClosing, Tables.Tables, Tables.closing_key, Tables.row_at}
use Rattle.posting_rules.specs.Changes.{with_closing}
use Rattle.posting_rules.specs.declared.{closed_numbers.Closing.Closing, fault.Rule.Rule, rows.ClosingRow.ClosingRow}
use Rattle.posting_rules.specs.declared.closed_numbers.Closing.TheVariants.{Already, Closed, Overlaps}
use Rattle.posting_rules.specs.declared.limits.TheConstants.{NUMBERS_PER_TELLER}
use Rattle.posting_rules.proofs.Keyed.{by_test}
use Rattle.sql_meanings.specs.{Entries.is_above, believed.Entries.Entry, believed.Entries.Rise, believed.Entries.has_key}
use Rattle.sql_meanings.proofs.EntryLists.{Above}
use Rattle.store_rows.specs.believed.{Made.Makes, Readings.read_closing, Rules.OfRows, Stored.FindsStored, View.closing_entry}
use Rattle.store_rows.specs.{Calls.LooksUp, declared.fault.TableFault.TableFault}
use Rattle.store_rows.proofs.Readings.{closing_back, in_order}
use Rattle.bank_transactions.proofs.Broken.{IsOf, closing_broken}
use Rattle.bank_transactions.specs.believed.{Closed.AreClosed, Answered.closing_by, Answered.met_in}

-- ---- numbers

less : (a b : ℕ) → int_cmp (pos a) (pos b) ≡ Less → a < b
less a b is = grind (arith, ints)

ends_below : (a n : ℕ) → is_gt (int_cmp (pos a) (pos n)) ≡ false → a ≤ n
ends_below a n is = grind (arith, ints)

ends_above : (a n : ℕ) → is_gt (int_cmp (pos a) (pos n)) ≡ true → n < a
ends_above a n is = grind (arith, ints)

is_nought : (a : ℕ) → int_eq (pos a) (pos 0) ≡ true → a ≡ 0
is_nought a is = grind (arith, ints)

above_nought : (a : ℕ) → int_eq (pos a) (pos 0) ≡ false → 0 < a
above_nought a is = grind (arith, ints)

is_le : (a b : ℕ) → a ≤ b → nat_le a b ≡ true
is_le a b le = grind (arith, nat_tests)

not_le : (a b : ℕ) → b < a → nat_le a b ≡ false
not_le a b le = grind (arith, nat_tests)

not_lt : (a b : ℕ) → b ≤ a → nat_lt a b ≡ false
not_lt a b le = grind (arith, nat_tests)

was_lt : (a b : ℕ) → nat_lt a b ≡ true → a < b
was_lt a b is = grind (arith, nat_tests)

was_not_lt : (a b : ℕ) → nat_lt a b ≡ false → b ≤ a
was_not_lt a b is = grind (arith, nat_tests)

other_last : (f l a b : ℕ) → a ≤ b → f ≤ l → (nat_le a l && nat_le f b) ≡ false → (b == l) ≡ false
other_last f l a b order low is = grind (arith, nat_tests)

-- a seal has no number, and a run begins above 0
run_begins : (a b : ℕ) → ((a == 0) && (b == 0)) ≡ false → IsTrue (is_closing a b) → 0 < a
run_begins a b other is =
    let two = (and_parts (nat_le a b) _ (rw other at is)).1 in
    let low = leb-true NUMBERS_PER_TELLER a (and_parts (nat_le NUMBERS_PER_TELLER a) _ two).0 in
    omega (arith, low)

runs_begin : (a b : ℕ) → 0 < b → IsTrue (is_closing a b) → 0 < a
runs_begin a b some is = elim (by_test ((a == 0) && (b == 0))) [
  | inl nought ↦
      let none = eqb-true b 0 (and_parts (a == 0) (b == 0) nought).1 in absurd (omega (arith, some, none))
  | inr other ↦ run_begins a b other is
]

seal_last : (l : ℕ) → IsTrue (is_closing 0 l) → l ≡ 0
seal_last l is = elim (by_test ((0 == 0) && (l == 0))) [
  | inl nought ↦ eqb-true l 0 (and_parts (0 == 0) (l == 0) nought).1
  | inr other ↦ absurd (let low = run_begins 0 l other is in omega (arith, low))
]

at_true : {X : Type 0} (b : Bool) (x y : X) → b ≡ true → cond b x y ≡ x
at_true true x y is = refl
at_true false x y is = absurd cc

at_false : {X : Type 0} (b : Bool) (x y : X) → b ≡ false → cond b x y ≡ y
at_false false x y is = refl
at_false true x y is = absurd cc

-- ---- by whether one has any of the numbers, and whether one has all

abbrev judged : Bool → Bool → Closing
judged any all = if not any then Closed else if all then Already else Overlaps

as_judged : (rs : List ClosingRow) (f l : ℕ) → f ≤ l
    → closing_for rs f l ≡ judged (list_any (meets f l) rs) (list_any (covers f l) rs)
as_judged rs f l low = rw (is_le f l low) refl

-- rows that begin above have none
misses : (rs : List ClosingRow) (f l x : ℕ) → AllByRecursion (λ s. x < s.first) rs → l ≤ x
    → list_any (meets f l) rs ≡ false
misses [] f l x all low = refl
misses (s ∷ rs) f l x all low =
    rw (not_le s.first l (let above = all.0 in omega (arith, above, low))) (misses rs f l x all.1 low)

covers_none : (rs : List ClosingRow) (f l x : ℕ) → AllByRecursion (λ s. x < s.first) rs → f ≤ x
    → list_any (covers f l) rs ≡ false
covers_none [] f l x all low = refl
covers_none (s ∷ rs) f l x all low =
    rw (not_le s.first f (let above = all.0 in omega (arith, above, low))) (covers_none rs f l x all.1 low)

-- so do rows that rise from one that shares none of theirs
apart_later : (a b c d : ℕ) → a ≤ b → b < d → (nat_le c b && nat_le a d) ≡ false → b < c
apart_later a b c d order rise apart = grind (arith, nat_tests)

all_later : (r : ClosingRow) (rs : List ClosingRow) → r.first ≤ r.last → Above (closing_entry r) (map closing_entry rs)
    → AllByRecursion (λ s. meets r.first r.last s ≡ false) rs → AllByRecursion (λ s. r.last < s.first) rs
all_later r [] order above apart = tt
all_later r (s ∷ rs) order above apart = (
  apart_later r.first r.last s.first s.last order (less r.last s.last above.0) apart.0,
  all_later r rs order above.1 apart.1,
)

-- ---- the row that was read

is_read : (r : ClosingRow) (met : Option ClosingRow) → IsSoundClosing r
    → FindsStored (Some (closing_entry r)) read_closing (Ok met) → met ≡ Some r
is_read r None sound it = absurd (let no = it in cc)
is_read r (Some x) sound it =
    let e : it.0 ≡ closing_entry r = (let same = it.1 in cc) in
    let both : ◌≡◌ {A = Result ClosingRow Rule} (Ok r) (Ok x) =
    sym (closing_back r sound) ∙ ap read_closing (sym e) ∙ it.2 in
    (let b = both in cc)

-- where it begins above them, or doesn't
by_begin : (r : ClosingRow) (rs : List ClosingRow) (f l : ℕ) → f ≤ r.last → r.first ≤ r.last
    → AllByRecursion (λ s. r.last < s.first) rs
    → closing_by (Some r) (run_of f l) ≡ judged (list_any (meets f l) (r ∷ rs)) (list_any (covers f l) (r ∷ rs))
by_begin r rs f l low order rest = elim (by_test (nat_lt l r.first)) [
  | inl apart ↦
      let above = was_lt l r.first apart in
      rw (apart, not_le r.first l above, misses rs f l r.last rest (omega (arith, above, order))) refl
  | inr shares ↦
      let begins = was_not_lt l r.first shares in
      rw (shares, is_le r.first l begins, is_le f r.last low)
      (elim (by_test (nat_le r.first f && nat_le l r.last)) [
        | inl all ↦ rw all refl
        | inr some ↦ rw (some, covers_none rs f l r.last rest low) refl
      ])
]

-- of a run, in rows by rising keys
closing_above : (rs : List ClosingRow) (n l : ℕ) → n < l → Rise (map closing_entry rs) → AreClosed rs
    → (met : Option ClosingRow) → FindsStored (met_in (map closing_entry rs) (suc n)) read_closing (Ok met)
    → closing_by met (run_of (suc n) l)
    ≡ judged (list_any (meets (suc n) l) rs) (list_any (covers (suc n) l) rs)
closing_above [] n l low rise closed None finds = refl
closing_above [] n l low rise closed (Some x) finds = absurd (let no = finds.1 in cc)
closing_above (r ∷ rs) n l low rise closed met finds =
    let order = in_order r.first r.last closed.0.numbers in
    elim (by_test (is_gt (int_cmp (pos r.last) (pos n)))) [
      | inl high ↦
          let above = ends_above r.last n high in
          let found = at_true (is_gt (int_cmp (pos r.last) (pos n))) (Some (closing_entry r))
          (met_in (map closing_entry rs) (suc n)) high in
          let is = is_read r met closed.0 (subst (λ (o : Option Entry). FindsStored o read_closing (Ok met)) found finds) in
          rw is (by_begin r rs (suc n) l (omega (arith, above)) order (all_later r rs order rise.0 closed.1))
      | inr below ↦
          let ends = ends_below r.last n below in
          let meets_none : nat_le (suc n) r.last ≡ false = not_le (suc n) r.last (omega (arith, ends)) in
          let covers_it : nat_le l r.last ≡ false = not_le l r.last (omega (arith, ends, low)) in
          let one : meets (suc n) l r ≡ false = (rw meets_none (and_false (nat_le r.first l))) in
          let two : covers (suc n) l r ≡ false = (rw covers_it (and_false (nat_le r.first (suc n)))) in
          let found = at_false (is_gt (int_cmp (pos r.last) (pos n))) (Some (closing_entry r))
          (met_in (map closing_entry rs) (suc n)) below in
          rw (one, two) (closing_above rs n l low rise.1 closed.2 met
          (subst (λ (o : Option Entry). FindsStored o read_closing (Ok met)) found finds))
    ]
  where
    and_false : (b : Bool) → (b && false) ≡ false
    and_false true = refl
    and_false false = refl

-- of the seal
closing_seal : (rs : List ClosingRow) → AreClosed rs → (met : Option ClosingRow)
    → FindsStored (met_in (map closing_entry rs) 0) read_closing (Ok met)
    → closing_by met (run_of 0 0) ≡ judged (list_any (meets 0 0) rs) (list_any (covers 0 0) rs)
closing_seal [] closed None finds = refl
closing_seal [] closed (Some x) finds = absurd (let no = finds.1 in cc)
closing_seal (r ∷ rs) closed met finds = elim (by_test (int_eq (pos r.last) (pos 0))) [
  | inl nought ↦
      let last = is_nought r.last nought in
      let order = in_order r.first r.last closed.0.numbers in
      let first : r.first ≡ 0 = omega (arith, order, last) in
      let found = at_true (int_eq (pos r.last) (pos 0)) (Some (closing_entry r)) (met_in (map closing_entry rs) 0) nought in
      let is = is_read r met closed.0 (subst (λ (o : Option Entry). FindsStored o read_closing (Ok met)) found finds) in
      rw (is, first, last) refl
  | inr run ↦
      let some = above_nought r.last run in
      rw (not_le r.first 0 (runs_begin r.first r.last some closed.0.numbers))
      (let found = at_false (int_eq (pos r.last) (pos 0)) (Some (closing_entry r)) (met_in (map closing_entry rs) 0) run in
      closing_seal rs closed.2 met (subst (λ (o : Option Entry). FindsStored o read_closing (Ok met)) found finds))
]

-- of either
closing_at : (rs : List ClosingRow) (f l : ℕ) → IsTrue (is_closing f l) → Rise (map closing_entry rs) → AreClosed rs
    → (met : Option ClosingRow) → FindsStored (met_in (map closing_entry rs) f) read_closing (Ok met)
    → closing_by met (run_of f l) ≡ judged (list_any (meets f l) rs) (list_any (covers f l) rs)
closing_at rs zero l is rise closed met finds = rw (seal_last l is) (closing_seal rs closed met finds)
closing_at rs (suc n) l is rise closed met finds =
    let order = in_order (suc n) l is in closing_above rs n l (omega (arith, order)) rise closed met finds

pub closing_met : (rs : List ClosingRow) (row : ClosingRow) → IsSoundClosing row → Rise (map closing_entry rs)
    → AreClosed rs → (met : Option ClosingRow)
    → FindsStored (met_in (map closing_entry rs) row.first) read_closing (Ok met)
    → closing_by met row ≡ closing_for rs row.first row.last
closing_met rs row sound rise closed met finds =
    closing_at rs row.first row.last sound.numbers rise closed met finds
    ∙ sym (as_judged rs row.first row.last (in_order row.first row.last sound.numbers))

-- ---- what is done

pub closed_free : (rs : List ClosingRow) (f l : ℕ) → Closed ≡ closing_for rs f l → are_free rs f l ≡ true
closed_free rs f l is = elim (by_test (are_free rs f l)) [
  | inl free ↦ free
  | inr taken ↦ absurd (elim (by_test (list_any (covers f l) rs)) [
    | inl all ↦ (let it = rw (taken, all) at is in cc)
    | inr some ↦ (let it = rw (taken, some) at is in cc)
  ])
]

pub not_free : (rs : List ClosingRow) (f l : ℕ) → (Closed ≡ closing_for rs f l → ⊥) → are_free rs f l ≡ false
not_free rs f l other = elim (by_test (are_free rs f l)) [
  | inl free ↦ absurd (other (rw free refl))
  | inr taken ↦ taken
]

-- a row is put in where its numbers are free
pub now_closed : (t : Tables) (row : ClosingRow) → are_free t.closings row.first row.last ≡ true
    → with_closing row t ≡ tables_closed t row.first row.last
unfolding with_closing
now_closed t row free = rw free refl

pub stays_closed : (t : Tables) (row : ClosingRow) → are_free t.closings row.first row.last ≡ false
    → t ≡ tables_closed t row.first row.last
stays_closed t row taken = rw taken refl

-- no row has its key
no_last : (rs : List ClosingRow) (f l : ℕ) → AreClosed rs → f ≤ l → list_any (meets f l) rs ≡ false
    → row_at closing_key rs l ≡ None
no_last [] f l closed low none = refl
no_last (r ∷ rs) f l closed low none = elim (by_test (meets f l r)) [
  | inl one ↦ absurd (let it = rw one at none in cc)
  | inr not_one ↦
      rw (other_last f l r.first r.last (in_order r.first r.last closed.0.numbers) low not_one)
      (no_last rs f l closed.2 low (rw not_one at none))
]

not_true : (b : Bool) → not b ≡ true → b ≡ false
not_true false is = refl
not_true true is = absurd cc

pub key_free : (rs : List ClosingRow) (row : ClosingRow) → IsSoundClosing row → AreClosed rs
    → are_free rs row.first row.last ≡ true → row_at closing_key rs row.last ≡ None
key_free rs row sound closed free =
    no_last rs row.first row.last closed (in_order row.first row.last sound.numbers)
    (not_true _ (and_parts (nat_le row.first row.last) _ free).1)

-- ---- what is told, and what was run

-- a row that can't be read breaks a rule
pub met_broken : (db : Database) (f : ℕ) (fault : TableFault)
    → OfRows (λ rows. FindsStored (met_in rows.closings f) read_closing (Err fault)) db → IsOf db fault
met_broken db zero fault = closing_broken db (has_key (pos 0)) fault
met_broken db (suc n) fault = closing_broken db (is_above (pos n)) fault

pub makes_since : {text : List ℕ} {values : Row} {old mid new : Database} → mid ≡ old → Makes text values mid new
    → Makes text values old new
makes_since {text} {values} {old} {mid} {new} same makes = subst (λ (db : Database). Makes text values db new) same makes

-- ---- the row that is looked up

pub before_it : (f n : ℕ) → 1 ≤ f → n ≡ f - 1 → f ≡ suc n
before_it zero n some is = absurd (omega (arith, some))
before_it (suc f) n some is = let e : suc f - 1 ≡ f = omega arith in ap suc (sym (is ∙ e))

pub looks_above : {S : Type 0} (g : Ghosts S) (old new : Transaction S) (f n : ℕ) (r : Result (Option ClosingRow) TableFault)
    → f ≡ suc n → LooksUp g old new (λ rows. find (is_above (pos n)) rows.closings) read_closing r
    → LooksUp g old new (λ rows. met_in rows.closings f) read_closing r
looks_above g old new f n r is looks =
    subst (λ (k : ℕ). LooksUp g old new (λ rows. met_in rows.closings k) read_closing r) (sym is) looks
