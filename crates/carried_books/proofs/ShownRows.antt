-- What the rows of a bank that shows tables have, is what the tables have.
use Rattle.std.proofs.Common.{◌≡◌, ◌≤◌, ◌<◌, ◌∙◌, ℕ, pos, true, false, List, [], ◌∷◌, map, refl, ap, arith}
use Rattle.std.proofs.Common.{inl, inr, leb, subst, suc, zero}
use Rattle.std.specs.Prelude.{◌||◌, ◌&&◌, ◌/◌, ◌==◌, max, nat_abs, nat_le}
use Rattle.std.specs.List.{AllByRecursion, list_any}
use Rattle.std.specs.Ordering.{int_eq}
use Rattle.std.proofs.lemmas.{Bool.Decides.nat_tests, Int.ints}
use Rattle.message_records.specs.declared.limits.TheConstants.{MAX_NUMBER}
use Rattle.posting_rules.specs.declared.limits.TheConstants.{NUMBERS_PER_TELLER}
use Rattle.posting_rules.specs.declared.rows.{ClosingRow.ClosingRow, RequestRow.RequestRow}
use Rattle.posting_rules.specs.believed.Closings.{is_closed_in, meets, run_of}
use Rattle.posting_rules.specs.believed.Commands.{number_key}
use Rattle.posting_rules.specs.believed.Numbering.{branch_of_teller}
use Rattle.posting_rules.proofs.Keyed.{by_test}
use Rattle.sql_meanings.specs.believed.Entries.{Entry}
use Rattle.store_rows.specs.believed.Columns.{number_at}
use Rattle.store_rows.specs.believed.View as view
use Rattle.walked_rows.specs.{Stored.request_entry, StoredBeside.closing_entry}
use Rattle.walked_rows.specs.declared.closings.StoredClosing.{StoredClosing}
use Rattle.walked_rows.specs.declared.requests.StoredRequest.{StoredRequest}
use Rattle.carried_books.specs.Carrying.{is_of_desk, number_of}
use Rattle.carried_books.specs.Gathering.{AreNumbered, has_seal, is_carried, number_in, run_in}

-- ---- one row

-- the keys above 0 of a run of the tables
abbrev above : ClosingRow → ClosingRow
above c = run_of (max 1 c.first) c.last

run_is : (r : StoredClosing) (c : ClosingRow) → closing_entry r ≡ view.closing_entry c → run_in r ≡ above c
run_is r c same =
    let first : r.first ≡ pos c.first = ap (number_at 0) same in
    let last : r.last ≡ c.last = ap (λ (e : Entry). nat_abs e.key) same in
    rw (first, last) refl

seal_is : (r : StoredClosing) (c : ClosingRow) → closing_entry r ≡ view.closing_entry c
    → has_seal r ≡ meets 0 0 c
seal_is r c same =
    let first : r.first ≡ pos c.first = ap (number_at 0) same in
    rw first (at_nought c.first c.last)
  where
    at_nought : (f l : ℕ) → int_eq (pos f) (pos 0) ≡ (nat_le f 0 && nat_le 0 l)
    at_nought zero l = let low : leb 0 l ≡ true = grind (arith, nat_tests) in rw low refl
    at_nought (suc f) l =
        let high : leb (suc f) 0 ≡ false = grind (arith, nat_tests) in
        elim (by_test (int_eq (pos (suc f)) (pos 0))) [
          | inl t ↦ absurd (let same : pos (suc f) ≡ pos 0 = grind (arith, ints, t) in cc)
          | inr none ↦ rw (none, high) refl
        ]

number_is : (r : StoredRequest) (q : RequestRow) → request_entry r ≡ view.request_entry q → number_in r ≡ number_of q
number_is r q same =
    let teller : r.teller ≡ pos q.teller = ap (number_at 0) same in
    let number : r.number ≡ pos q.number = ap (number_at 1) same in
    rw (teller, number) refl

above_meets : (x : ℕ) (c : ClosingRow) → 1 ≤ x → meets x x (above c) ≡ meets x x c
above_meets x c low = elim (by_test (leb c.first x)) [
  | inl t ↦
      let one : c.first ≤ x = grind (arith, nat_tests) in
      let two : leb (max 1 c.first) x ≡ true = grind (arith, nat_tests) in
      rw (two, t) refl
  | inr f ↦
      let one : x < c.first = grind (arith, nat_tests) in
      let two : leb (max 1 c.first) x ≡ false = grind (arith, nat_tests) in
      rw (two, f) refl
]

-- ---- all rows of a table

pub runs_are : (rows : List StoredClosing) (cs : List ClosingRow)
    → map closing_entry rows ≡ map view.closing_entry cs
    → (list_any has_seal rows ≡ is_closed_in cs 0)
    × ((x : ℕ) → 1 ≤ x → is_closed_in (map run_in rows) x ≡ is_closed_in cs x)
runs_are [] [] same = (refl, λ x low. refl)
runs_are [] (c ∷ cs) same = absurd cc
runs_are (r ∷ rows) [] same = absurd cc
runs_are (r ∷ rows) (c ∷ cs) same =
    let here : closing_entry r ≡ view.closing_entry c = cc in
    let rest : map closing_entry rows ≡ map view.closing_entry cs = cc in
    let more = runs_are rows cs rest in (
      rw (seal_is r c here, more.0) refl,
      λ x low. rw (ap (meets x x) (run_is r c here) ∙ above_meets x c low, more.1 x low) refl,
    )

pub numbers_are : (rows : List StoredRequest) (qs : List RequestRow)
    → map request_entry rows ≡ map view.request_entry qs → map number_in rows ≡ map number_of qs
numbers_are [] [] same = refl
numbers_are [] (q ∷ qs) same = absurd cc
numbers_are (r ∷ rows) [] same = absurd cc
numbers_are (r ∷ rows) (q ∷ qs) same =
    let here : request_entry r ≡ view.request_entry q = cc in
    let rest : map request_entry rows ≡ map view.request_entry qs = cc in
    rw (number_is r q here, numbers_are rows qs rest) refl

-- ---- numbers of the desk

teller_of_key : (t n : ℕ) → n ≤ MAX_NUMBER → number_key t n / NUMBERS_PER_TELLER ≡ t
teller_of_key t n high = omega (arith, high)

pub carried_by_rows : (desk : ℕ) (used : List ClosingRow) (qs : List RequestRow)
    → AreNumbered qs → AllByRecursion (λ run. is_carried desk used run ≡ true) (map number_of qs)
    → AllByRecursion (λ r. is_of_desk desk used r ≡ true) qs
carried_by_rows desk used [] high all = tt
carried_by_rows desk used (q ∷ qs) high all = (
  subst (λ (t : ℕ). ((branch_of_teller t == desk) || is_closed_in used (number_key q.teller q.number)) ≡ true)
      (teller_of_key q.teller q.number high.0.1) all.0,
  carried_by_rows desk used qs high.1 all.1,
)
