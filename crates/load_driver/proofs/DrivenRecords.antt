-- What a record does to a driver.
use Rattle.std.proofs.Common.{◌≡◌, ◌<◌, ◌≤◌, ◌+◌, ◌*◌, ◌∙◌, ◌≢◌, ◌⊎◌, inl, inr, ℕ, zero, suc, List, Bool, true, false}
use Rattle.std.proofs.Common.{length, get_or, arith, refl, sym, ap, nat_eq, add-one, set}
use Rattle.std.specs.Prelude.{if◌then◌else◌}
use Rattle.std.proofs.{lemmas.Bool.cases_Bool, lemmas.Bool.Decides.nat_tests, Math.ListN.length-set}
use Rattle.std.proofs.lemmas.List.{get_or-set_other, get_or-set_same, get_or_read}
use Rattle.posting_rules.specs.declared.limits.TheConstants.{TELLERS_PER_BRANCH}
use Rattle.rand_pcg.specs.{Lcg.Lcg, Pcg.pcg64}
use Rattle.branch_loader.specs.{believed.Plans.Rows, Plans.IsPlan}
use Rattle.load_driver.specs.believed.Draw.{words_after, draw, word}
use Rattle.load_driver.specs.believed.Requests.{earlier, place_at, teller_of}
use Rattle.load_driver.specs.{Counts.Counts, Words.TakesWords, declared.draws.Words.Words}
use Rattle.load_driver.proofs.Totals.{one_teller}

-- one word
one : (seed k w : ℕ) (g h : Lcg) → g ≡ words_after seed k → (w, h) ≡ pcg64 g
    → (w ≡ word seed k) × (h ≡ words_after seed (k + 1))
unfolding word words_after
one seed k w g h at e = (
  ap (λ (p : ℕ × Lcg). p.0) e ∙ ap (λ (x : Lcg). (pcg64 x).0) at,
  rw (add-one k) (ap (λ (p : ℕ × Lcg). p.1) e ∙ ap (λ (x : Lcg). (pcg64 x).1) at),
)

-- the four words of a record
pub four : (seed n : ℕ) (words : Words) (g0 g1 g2 g3 g4 : Lcg) → g0 ≡ words_after seed (4 * n)
    → (words.teller, g1) ≡ pcg64 g0 → (words.choice, g2) ≡ pcg64 g1 → (words.account, g3) ≡ pcg64 g2
    → (words.amount, g4) ≡ pcg64 g3
    → TakesWords seed n words g4
four seed n words g0 g1 g2 g3 g4 at ea eb ec ed =
    let (wa, ha) = one seed (4 * n) words.teller g0 g1 at ea in
    let (wb, hb) = one seed (4 * n + 1) words.choice g1 g2 ha eb in
    let two : 4 * n + 1 + 1 ≡ 4 * n + 2 = omega arith in
    let (wc, hc) = one seed (4 * n + 2) words.account g2 g3 (rw two at hb) ec in
    let three : 4 * n + 2 + 1 ≡ 4 * n + 3 = omega arith in
    let (wd, hd) = one seed (4 * n + 3) words.amount g3 g4 (rw three at hc) ed in
    let next : 4 * n + 3 + 1 ≡ 4 * (n + 1) = omega arith in
    record { teller = wa; choice = wb; account = wc; amount = wd; left = rw next at hd }

-- no teller has more records than there are
pub earlier-le : (rows : Rows) (seed t n : ℕ) → earlier rows seed t n ≤ n
unfolding earlier
earlier-le rows seed t zero = omega arith
earlier-le rows seed t (suc n) = by (nat_eq (teller_of rows (place_at rows seed n)) t)
    (earlier-le rows seed t n)
  where
    by : (b : Bool) → earlier rows seed t n ≤ n → earlier rows seed t n + (if b then 1 else 0) ≤ suc n
    by true h = omega arith
    by false h = omega arith

-- one more record
earlier-same : (rows : Rows) (seed t n : ℕ) → t ≡ teller_of rows (place_at rows seed n)
    → earlier rows seed t (n + 1) ≡ earlier rows seed t n + 1
unfolding earlier
earlier-same rows seed t n same =
    let yes : nat_eq (teller_of rows (place_at rows seed n)) t ≡ true = grind (arith, nat_tests, same) in rw
    (add-one n, yes) refl

earlier-other : (rows : Rows) (seed t n : ℕ) → t ≢ teller_of rows (place_at rows seed n)
    → earlier rows seed t (n + 1) ≡ earlier rows seed t n
unfolding earlier
earlier-other rows seed t n ne =
    let f : nat_eq (teller_of rows (place_at rows seed n)) t ≡ false = grind (arith, nat_tests, ne) in rw
    (add-one n, f) (omega arith)

-- the counts after one more record
pub counts-more : (rows : Rows) (seed n place : ℕ) (counts : List ℕ) → IsPlan rows
    → place ≡ place_at rows seed n → place < TELLERS_PER_BRANCH * length rows
    → Counts rows seed n counts
    → Counts rows seed (n + 1) (set counts place (earlier rows seed (teller_of rows place) n + 1))
counts-more rows seed n place counts plan at within h =
    record { len = rw length-set h.len; of_each = λ t small. by t small (cases_Bool (nat_eq t place)) }
  where
    by : (t : ℕ) → t < TELLERS_PER_BRANCH * length rows → (nat_eq t place ≡ true) ⊎ (nat_eq t place ≡ false)
        → get_or (set counts place (earlier rows seed (teller_of rows place) n + 1)) t 0 ≡ earlier rows seed
        (teller_of rows t) (n + 1)
    by t small (inl e) =
        let here : t ≡ place = grind (arith, nat_tests, e) in
        let room : place < length counts = omega (arith, h.len) in
        rw here (rw get_or-set_same
        (sym (earlier-same rows seed (teller_of rows place) n (ap (teller_of rows) at))))
    by t small (inr e) =
        let ne : t ≢ place = grind (arith, nat_tests, e) in
        let apart : teller_of rows t ≢ teller_of rows (place_at rows seed n) =
        (λ (same : teller_of rows t ≡ teller_of rows (place_at rows seed n)).
        ne (one_teller rows t place plan small within (same ∙ ap (teller_of rows) (sym at)))) in
        rw get_or-set_other (h.of_each t small ∙ sym (earlier-other rows seed (teller_of rows t) n apart))

-- what the teller's word makes of the counts
pub record DrivesOne (rows : Rows) (counts : List ℕ) (seed n t x : ℕ) : Type 0 where
  pub here : t ≡ place_at rows seed n
  pub count : x ≡ earlier rows seed (teller_of rows t) n
  pub few : x ≤ n
  pub counted : Counts rows seed (n + 1) (set counts t (x + 1))

-- the teller that a record's first word draws, and its number
pub stepped : (rows : Rows) (counts : List ℕ) (seed n a t x tellers : ℕ) → IsPlan rows
    → Counts rows seed n counts → a ≡ word seed (4 * n)
    → tellers ≡ TELLERS_PER_BRANCH * length rows → t ≡ draw a tellers → t < tellers → x ≡ get_or counts t x
    → DrivesOne rows counts seed n t x
unfolding place_at
stepped rows counts seed n a t x tellers plan h first all drawn below read =
    let small : t < TELLERS_PER_BRANCH * length rows = omega arith in
    let here : t ≡ place_at rows seed n = drawn ∙ ap (draw a) all ∙ ap
    (λ (w : ℕ). draw w (TELLERS_PER_BRANCH * length rows)) first in
    let room : t < length counts = omega (arith, h.len) in
    let count : x ≡ earlier rows seed (teller_of rows t) n = get_or_read counts t x room read 0
    ∙ h.of_each t small in
    let most = earlier-le rows seed (teller_of rows t) n in
    record {
      here = here;
      count = count;
      few = omega arith;
      counted = rw count (counts-more rows seed n t counts plan here small h);
    }
