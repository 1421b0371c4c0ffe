-- No two requests of a log's tables share teller and number.
use Rattle.std.proofs.Common.{◌≡◌, ◌==◌, ◌+◌, ◌&&◌, ℕ, true, false, List, [], ◌∷◌, length, map, Some, None, refl, sym}
use Rattle.std.proofs.Common.{ap, ◌∙◌, inl, inr, arith}
use Rattle.std.specs.{Prelude.nat_eq, List.AllByRecursion, List.AllPairs, List.IsDistinct}
use Rattle.std.proofs.lemmas.{Bool.cases_Bool, Bool.eqb-true, Bool.eq-eqb, List.Elements.All-from_recursion}
use Rattle.std.proofs.lemmas.{List.Kept.AllPairs-cons, Map.Keys.IsDistinct-head, Map.Keys.IsDistinct-tail}
use Rattle.posting_rules.specs.{declared.rows.RequestRow.RequestRow, believed.Commands.Command}
use Rattle.posting_rules.specs.believed.Entries.{DecidedRequest, decided, kept}
use Rattle.posting_rules.specs.believed.Tables.{Tables, AreTablesOf, request_key, request_row, request_row_of, row_at}
use Rattle.posting_rules.proofs.{Requests.AreNew, Requests.are_new, Totals.each_under_its_key}
use Rattle.sql_meanings.proofs.Places.{all_weaker}
use Rattle.bank_reports.specs.Differing.{DifferIfPosted, EachPostedOnce}

-- where none of the entries is kept under a teller and a number, none of their rows has both
row_apart : (t n : ℕ) (es : List DecidedRequest) (o : ℕ) (r : RequestRow) → kept es t n ≡ None
    → request_row es o ≡ Some r → r.teller ≡ t → r.number ≡ n → ⊥
row_apart t n [] o r none row ts ns = absurd cc
row_apart t n (e ∷ es) o r none row ts ns =
    elim (cases_Bool ((e.request.teller == t) && (e.request.number == n))) [
      | inl p ↦ absurd (let g = rw p at none in cc)
      | inr f ↦ elim (cases_Bool (length es + 1 == o)) [
        | inl q ↦
            let is : request_row_of o e ≡ r = (let g = rw q at row in cc) in
            let same : ((e.request.teller == t) && (e.request.number == n)) ≡ true =
            rw (
              eq-eqb e.request.teller t (ap (λ (x : RequestRow). x.teller) is ∙ ts),
              eq-eqb e.request.number n (ap (λ (x : RequestRow). x.number) is ∙ ns),
            ) refl in
            absurd (let g = sym same ∙ f in cc)
        | inr q ↦ row_apart t n es o r (rw f at none) (rw q at row) ts ns
      ]
    ]

-- rows that have both stand under one ordinal
one_ordinal : (es : List DecidedRequest) → AreNew es → (o p : ℕ) (a b : RequestRow) → request_row es o
    ≡ Some a → request_row es p ≡ Some b
    → a.teller ≡ b.teller → a.number ≡ b.number → o ≡ p
one_ordinal [] new o p a b xs ys ts ns = absurd cc
one_ordinal (e ∷ es) new o p a b xs ys ts ns = elim (cases_Bool (length es + 1 == o)) [
  | inl q ↦
      let is : request_row_of o e ≡ a = (let g = rw q at xs in cc) in
      elim (cases_Bool (length es + 1 == p)) [
        | inl s ↦ sym (eqb-true (length es + 1) o q) ∙ eqb-true (length es + 1) p s
        | inr s ↦ absurd (row_apart e.request.teller e.request.number es p b new.0 (rw s at ys)
            (sym ts ∙ ap (λ (x : RequestRow). x.teller) (sym is))
            (sym ns ∙ ap (λ (x : RequestRow). x.number) (sym is)))
      ]
  | inr q ↦ elim (cases_Bool (length es + 1 == p)) [
    | inl s ↦
        let is : request_row_of p e ≡ b = (let g = rw s at ys in cc) in
        absurd (row_apart e.request.teller e.request.number es o a new.0 (rw q at xs)
        (ts ∙ ap (λ (x : RequestRow). x.teller) (sym is))
        (ns ∙ ap (λ (x : RequestRow). x.number) (sym is)))
    | inr s ↦ one_ordinal es new.1 o p a b (rw q at xs) (rw s at ys) ts ns
  ]
]

module _ (es : List DecidedRequest) (new : AreNew es) where
  abbrev IsRow : RequestRow → Type 0
  IsRow r = request_row es r.ordinal ≡ Some r

  apart : (r : RequestRow) → IsRow r → (rs : List RequestRow) → AllByRecursion IsRow rs
      → AllByRecursion (λ k. nat_eq r.ordinal k ≡ false) (map request_key rs)
      → AllByRecursion (DifferIfPosted r) rs
  apart r row [] all away = tt
  apart r row (x ∷ rs) all away = (
    λ posted also ts ns. let same =
        eq-eqb r.ordinal x.ordinal (one_ordinal es new r.ordinal x.ordinal r x row all.0 ts ns) in
        (let g = sym same ∙ away.0 in cc),
    apart r row rs all.1 away.1,
  )

  each_once : (rs : List RequestRow) → AllByRecursion IsRow rs → IsDistinct nat_eq (map request_key rs)
      → AllPairs DifferIfPosted rs
  each_once [] all keys = λ i j d lt within. absurd (omega arith)
  each_once (r ∷ rs) all keys =
      AllPairs-cons DifferIfPosted r rs
      (All-from_recursion (DifferIfPosted r) rs
      (apart r all.0 rs all.1 (IsDistinct-head nat_eq (request_key r) (map request_key rs) keys)))
      (each_once rs all.1 (IsDistinct-tail nat_eq (request_key r) (map request_key rs) keys))

pub posted_once : (t : Tables) (log : List Command) → AreTablesOf t log → EachPostedOnce t
posted_once t log shows =
    each_once (decided log) (are_new log) t.requests
    (all_weaker (λ r. row_at request_key t.requests (request_key r) ≡ Some r)
    (λ r. request_row (decided log) r.ordinal ≡ Some r)
    (λ r is. sym (shows.rows.requests r.ordinal) ∙ is) t.requests
    (each_under_its_key request_key t.requests shows.rows.request_keys))
    shows.rows.request_keys
