-- Decided requests: no two share teller and number, so that a look-up of rows by both finds the kept request.
use Rattle.std.proofs.Common.{◌≡◌, ℕ, ◌+◌, ◌≤◌, Bool, true, false, eqb, List, [], ◌∷◌, length, Option, Some, None}
use Rattle.std.proofs.Common.{Result, Ok, Err, refl, sym, ap, subst, ◌∙◌, arith, inl, inr}
use Rattle.std.specs.Prelude.{◌&&◌, AllPairs}
use Rattle.std.specs.{List.find, List.AllByRecursion, Option.option_map}
use Rattle.std.proofs.lemmas.Bool.{and_parts, eqb-true, eq-eqb}
use Rattle.std.proofs.lemmas.{Bool.Decides.nat_tests, List.Elements.All-from_recursion, List.Kept.AllPairs-cons}
use Rattle.message_records.specs.{declared.fault.Bad.Bad, believed.Records.RequestFields, believed.Reading.request_of}
use Rattle.posting_rules.specs.{declared.judgments.Verdict.Verdict, declared.rows.RequestRow.RequestRow}
use Rattle.posting_rules.specs.{declared.rows.ReferenceRow.ReferenceRow, believed.Cases.case_of, believed.Laws.Differ}
use Rattle.posting_rules.specs.declared.judgments.Verdict.TheVariants.{Unkept, Again, Refused, Posted}
use Rattle.posting_rules.specs.believed.Commands.{Command, Open, Post, Close, opened, Terms}
use Rattle.posting_rules.specs.believed.Kept.{KeptFields, kept_with}
use Rattle.posting_rules.specs.believed.Entries.{DecidedRequest, kept, facts, with_verdict, with_record, decided}
use Rattle.posting_rules.specs.believed.Tables.{row_at, HasKeys, request_key, request_row, request_row_of}
use Rattle.posting_rules.specs.believed.Tables.{reference_key, reference_row, reference_row_of}
use Rattle.posting_rules.specs.believed.LookUps.{kept_in, kept_of_row, text_of_reference}
use Rattle.posting_rules.proofs.Keyed.{by_test, row_at-found, found_passes, none_passes}
use Rattle.posting_rules.proofs.Verdicts.{IsVerdict, verdict_is}
use Rattle.posting_rules.specs.declared.rows.ClosingRow.{ClosingRow}
use Rattle.posting_rules.specs.believed.Closings.{closings}

-- no older request has the teller and the number of a decided one
abbrev pub AreNew : List DecidedRequest → Type 0
AreNew [] = Unit {0}
AreNew (e ∷ es) = (kept es e.request.teller e.request.number ≡ None) × AreNew es

new_verdict : (opened : ℕ → Option Terms) (es : List DecidedRequest) (m : ℕ) (r : RequestFields) (v : Verdict)
    → IsVerdict opened es r v → AreNew es → AreNew (with_verdict m r v es)
new_verdict opened es m r (Unkept o) h all = all
new_verdict opened es m r (Again x) h all = all
new_verdict opened es m r (Refused o) h all = (h.new, all)
new_verdict opened es m r (Posted a t b) h all = (h.new, all)

new_record : (opened : ℕ → Option Terms) (runs : List ClosingRow) (es : List DecidedRequest) (m : ℕ) (read : Result RequestFields Bad)
    → AreNew es
    → AreNew (with_record m read opened runs es)
new_record opened runs es m (Ok r) all = new_verdict opened es m r (case_of (facts opened runs es r) r)
    (verdict_is opened runs es r) all
new_record opened runs es m (Err fault) all = all

pub are_new : (log : List Command) → AreNew (decided log)
are_new [] = tt
are_new (Open b terms ∷ log) = are_new log
are_new (Close first last ∷ log) = are_new log
are_new (Post m bytes ∷ log) = new_record (λ b. opened log b) (closings log) (decided log) m (request_of bytes) (are_new log)

-- ---- tests of teller and number

abbrev has_pair : ℕ → ℕ → DecidedRequest → Bool
has_pair t n e = (eqb e.request.teller t) && (eqb e.request.number n)

pair_same : (a b : ℕ) → ((eqb a a) && (eqb b b)) ≡ true
pair_same a b = let p : eqb a a ≡ true = eq-eqb a a refl in let q : eqb b b ≡ true = eq-eqb b b refl in rw
    (p, q) refl

-- ---- the law

-- a request that none of the entries is kept under shares with none of them
none_shared : (d : DecidedRequest) (es : List DecidedRequest) → kept es d.request.teller d.request.number
    ≡ None
    → AllByRecursion (λ e. Differ d e) es
none_shared d [] h = tt
none_shared d (e ∷ es) h =
    elim (by_test (has_pair d.request.teller d.request.number e)) [
      | inl p ↦ absurd (let g = rw p at h in cc)
      | inr f ↦ (
        λ t n. let p : has_pair d.request.teller d.request.number e ≡ true = rw (t, n)
            (pair_same e.request.teller e.request.number) in (let g = sym p ∙ f in cc),
        none_shared d es (let g = rw f at h in g),
      )
    ]

pub none_shares : (es : List DecidedRequest) → AreNew es → AllPairs Differ es
none_shares [] h = λ i j d lt within. absurd (omega arith)
none_shares (e ∷ es) h = AllPairs-cons Differ e es
    (All-from_recursion (λ d. Differ e d) es (none_shared e es h.0)) (none_shares es h.1)

-- ---- ordinals

low_ordinal : (n o : ℕ) → o ≤ n → eqb (n + 1) o ≡ false
low_ordinal n o le = grind (arith, nat_tests)

-- a kept request has a row under some ordinal
pub record HasRow (es : List DecidedRequest) (t n : ℕ) : Type 0 where
  pub ordinal : ℕ
  pub within : ordinal ≤ length es
  pub row : RequestRow
  pub stands : request_row es ordinal ≡ Some row
  pub teller : row.teller ≡ t
  pub number : row.number ≡ n

kept_has_row : (es : List DecidedRequest) (t n : ℕ) (k : KeptFields) → kept es t n ≡ Some k → HasRow es t n
kept_has_row [] t n k e = absurd cc
kept_has_row (e ∷ es) t n k h =
    elim (by_test (has_pair t n e)) [
      | inl p ↦ let two = and_parts (eqb e.request.teller t) (eqb e.request.number n) p in
          record {
            ordinal = length es + 1;
            within = omega arith;
            row = request_row_of (length es + 1) e;
            stands = rw (eq-eqb (length es + 1) (length es + 1) refl) refl;
            teller = eqb-true _ _ two.0;
            number = eqb-true _ _ two.1;
          }
      | inr f ↦ let rest = kept_has_row es t n k (let g = rw f at h in g) in
          record {
            ordinal = rest.ordinal;
            within = omega (arith, rest.within);
            row = rest.row;
            stands = rw (low_ordinal (length es) rest.ordinal rest.within) rest.stands;
            teller = rest.teller;
            number = rest.number;
          }
    ]

-- the reference that the row of a decided request tells is the request's, and none where there is no row
reference_told : (o : ℕ) (reference : Option (List ℕ))
    → option_map text_of_reference (option_map (reference_row_of o) reference) ≡ reference
reference_told o (Some text) = refl
reference_told o None = refl

-- what the rows of requests and of references under one ordinal keep
abbrev kept_under : List DecidedRequest → ℕ → RequestRow → KeptFields
kept_under es o row = kept_with (option_map text_of_reference (reference_row es o)) row.decision

-- a row of a request has what is kept under its teller and number, with the reference under its ordinal
row_is_kept : (es : List DecidedRequest) (o : ℕ) (row : RequestRow) → AreNew es → request_row es o ≡ Some row
    → kept es row.teller row.number ≡ Some (kept_under es o row)
row_is_kept [] o row h e = absurd cc
row_is_kept (d ∷ es) o row h e =
    elim (by_test (eqb (length es + 1) o)) [
      | inl t ↦ let is : request_row_of o d ≡ row = (let g = rw t at e in cc) in
          subst (λ (r : RequestRow). kept (d ∷ es) r.teller r.number ≡ Some (kept_under (d ∷ es) o r)) is
          (rw (pair_same d.request.teller d.request.number, t, reference_told o d.request.reference) refl)
      | inr f ↦ let older : kept es row.teller row.number ≡ Some (kept_under es o row) =
          row_is_kept es o row h.1 (let g = rw f at e in g) in
          elim (by_test (has_pair row.teller row.number d)) [
            | inl p ↦ let two = and_parts (eqb d.request.teller row.teller) (eqb d.request.number row.number)
                p in
                let t-is : d.request.teller ≡ row.teller = eqb-true _ _ two.0 in
                let n-is : d.request.number ≡ row.number = eqb-true _ _ two.1 in
                let none : kept es row.teller row.number ≡ None = rw (sym t-is, sym n-is) h.0 in
                absurd (let g = sym none ∙ older in cc)
            | inr g ↦ rw (f, g) older
          ]
    ]

-- ---- the look-up

row_has_pair : (row : RequestRow) (t n : ℕ) → row.teller ≡ t → row.number ≡ n
    → ((eqb row.teller t) && (eqb row.number n)) ≡ true
row_has_pair row t n et en = let p : eqb row.teller t ≡ true = eq-eqb _ _ et in let q : eqb row.number n
    ≡ true = eq-eqb _ _ en in rw (p, q) refl

-- the rows of the decided requests, found by teller and number, with their references
pub kept_shown : (rows : List RequestRow) (references : List ReferenceRow) (es : List DecidedRequest)
    → HasKeys request_key rows
    → ((o : ℕ) → row_at request_key rows o ≡ request_row es o)
    → ((o : ℕ) → row_at reference_key references o ≡ reference_row es o) → AreNew es → (t n : ℕ)
    → kept_in rows references t n ≡ kept es t n
kept_shown rows references es keys shown referenced new t n =
    by_found (find (λ r. (eqb r.teller t) && (eqb r.number n)) rows) refl
  where
    by_none : (o : Option KeptFields) → kept es t n ≡ o
        → find (λ r. (eqb r.teller t) && (eqb r.number n)) rows ≡ None → None ≡ o
    by_none None e none = refl
    by_none (Some k) e none =
        let row = kept_has_row es t n k e in
        let failed = none_passes request_key
        (λ r. (eqb r.teller t) && (eqb r.number n)) rows row.ordinal row.row none
        (shown row.ordinal ∙ row.stands) in
        absurd (let g = sym (row_has_pair row.row t n row.teller row.number) ∙ failed in cc)

    by_found : (o : Option RequestRow) → find (λ r. (eqb r.teller t) && (eqb r.number n)) rows ≡ o
        → option_map (kept_of_row references) o ≡ kept es t n
    by_found None e = by_none (kept es t n) refl e ∙ refl
    by_found (Some row) e =
        let passes = and_parts (eqb row.teller t) (eqb row.number n)
        (found_passes (λ r. (eqb r.teller t) && (eqb r.number n)) rows row e) in
        let under : request_row es row.ordinal ≡ Some row = sym (shown row.ordinal) ∙ row_at-found request_key
        (λ r. (eqb r.teller t) && (eqb r.number n)) rows row keys e in
        let is = row_is_kept es row.ordinal row new under in
        ap (λ (o : Option ReferenceRow). Some (kept_with (option_map text_of_reference o) row.decision))
        (referenced row.ordinal)
        ∙ sym (rw (sym (eqb-true _ _ passes.0), sym (eqb-true _ _ passes.1)) is)
