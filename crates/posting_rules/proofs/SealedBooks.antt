-- Sealed books stay sealed and decide nothing more, and a seal changes nothing else.
use Rattle.std.proofs.Common.{◌≡◌, ◌≤◌, ℕ, true, false, leb, List, ◌∷◌, Option, Ok, Err}
use Rattle.std.proofs.Common.{Result}
use Rattle.std.proofs.Common.{refl, arith, inl, inr}
use Rattle.std.specs.Prelude.{◌&&◌}
use Rattle.std.proofs.lemmas.Bool.Decides.{nat_tests}
use Rattle.message_records.specs.declared.fault.Bad.{Bad}
use Rattle.message_records.specs.believed.{Records.RequestFields, Reading.request_of}
use Rattle.posting_rules.specs.declared.judgments.{Books.Books, Verdict.Verdict}
use Rattle.posting_rules.specs.declared.judgments.Books.TheVariants.{Current}
use Rattle.posting_rules.specs.declared.judgments.Verdict.TheVariants.{Unkept, Again, Refused, Posted}
use Rattle.posting_rules.specs.declared.rows.ClosingRow.{ClosingRow}
use Rattle.posting_rules.specs.believed.Cases.{case_of}
use Rattle.posting_rules.specs.believed.Closings.{are_free, books_of, closed, closings, is_closed_in, meets, run_of, sealed}
use Rattle.posting_rules.specs.Stated.{Names}
use Rattle.posting_rules.specs.believed.ClosedBooks.{IsSealed, IsUnsealed}
use Rattle.posting_rules.specs.believed.Commands.{Command, Open, Post, Close, number_key, opened, Terms}
use Rattle.posting_rules.specs.believed.Entries.{DecidedRequest, decided, facts, with_record, with_verdict}
use Rattle.posting_rules.proofs.{AsStated.replied, Keyed.by_test, Verdicts.IsOfBooks, Verdicts.of_books}

-- ---- what is closed stays closed

still_closed : (runs : List ClosingRow) (r : ClosingRow) (x : ℕ) → is_closed_in runs x ≡ true
    → is_closed_in (r ∷ runs) x ≡ true
still_closed runs r x h = elim (by_test (meets x x r)) [ inl t ↦ rw t refl | inr f ↦ rw f h ]

pub stays_closed : (log : List Command) (c : Command) (x : ℕ) → is_closed_in (closings log) x ≡ true
    → is_closed_in (closings (c ∷ log)) x ≡ true
stays_closed log (Open b terms) x h = h
stays_closed log (Post m bytes) x h = h
stays_closed log (Close first last) x h =
    elim (by_test (are_free (closings log) first last)) [
      | inl t ↦ rw t (still_closed (closings log) (run_of first last) x h)
      | inr f ↦ rw f h
    ]

-- ---- a seal decides nothing

-- a verdict in books that aren't current leaves what is decided
pub left_as_is : (books : Books) (m : ℕ) (r : RequestFields) (v : Verdict) (es : List DecidedRequest)
    → IsOfBooks books v → (books ≡ Current → ⊥) → with_verdict m r v es ≡ es
left_as_is books m r (Unkept o) es of_them other = refl
left_as_is books m r (Again a) es of_them other = refl
left_as_is books m r (Refused o) es of_them other = absurd (other of_them)
left_as_is books m r (Posted a t b) es of_them other = absurd (other of_them)

not_current : (runs : List ClosingRow) (t n : ℕ) → is_closed_in runs 0 ≡ true → books_of runs t n ≡ Current → ⊥
not_current runs t n h e =
    elim (by_test (is_closed_in runs (number_key t n))) [
      | inl c ↦ absurd (let g = rw c at e in cc)
      | inr c ↦ absurd (let g = rw (c, h) at e in cc)
    ]

nothing_more : (opened : ℕ → Option Terms) (runs : List ClosingRow) (es : List DecidedRequest) (m : ℕ)
    (read : Result RequestFields Bad) → is_closed_in runs 0 ≡ true → with_record m read opened runs es ≡ es
nothing_more opened runs es m (Err fault) h = refl
nothing_more opened runs es m (Ok r) h =
    left_as_is (books_of runs r.teller r.number) m r (case_of (facts opened runs es r) r) es
    (of_books (facts opened runs es r) r) (not_current runs r.teller r.number h)

pub sealed_books : (log : List Command) (m : ℕ) (bytes : List ℕ) → sealed log ≡ true → IsSealed log m bytes
sealed_books log m bytes h =
    let all = replied log bytes in
    record {
      stays = λ c. stays_closed log c 0 h;
      nothing = nothing_more (λ b. opened log b) (closings log) (decided log) m (request_of bytes) h;
      refused = λ r read up none.
          let names : Names log bytes r = record { read = read; teller = up } in
          elim (by_test (closed log r.teller r.number)) [
            | inl c ↦ rw c (all.closed_number r names none c)
            | inr c ↦ rw c (all.sealed_books r names none c h)
          ];
    }

-- ---- a seal alone

beyond_seal : (k : ℕ) → 1 ≤ k → (leb 0 k && leb k 0) ≡ false
beyond_seal k low = grind (arith, nat_tests)

key_above : (t n : ℕ) → 1 ≤ n → 1 ≤ number_key t n
key_above t n low = omega (arith, low)

pub seals_alone : (log : List Command) → sealed log ≡ false
    → IsUnsealed (Close 0 0 ∷ log) log × (sealed (Close 0 0 ∷ log) ≡ true)
seals_alone log h =
    let runs = closings log in
    let free : are_free runs 0 0 ≡ true = rw h refl in (
      record {
        terms = λ b. refl;
        requests = refl;
        numbers = λ t n low high.
            let k = number_key t n in
            rw (free, beyond_seal k (key_above t n low)) refl;
        unsealed = h;
      },
      rw free refl,
    )
