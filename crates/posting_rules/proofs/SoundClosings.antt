-- What a log closes are numbers of one teller each, or the seal.
use Rattle.std.proofs.Common.{◌≡◌, ◌≤◌, ◌<◌, ℕ, Bool, true, false, List, [], ◌∷◌, Some, refl}
use Rattle.std.proofs.Common.{subst, arith, inl, inr}
use Rattle.std.specs.Prelude.{◌/◌, ◌%◌, ◌==◌, ◌||◌, nat_le, nat_lt}
use Rattle.std.specs.List.{AllByRecursion}
use Rattle.std.proofs.lemmas.Bool.Decides.{nat_tests}
use Rattle.posting_rules.specs.declared.limits.TheConstants.{NUMBERS_PER_TELLER}
use Rattle.posting_rules.specs.declared.rows.ClosingRow.{ClosingRow}
use Rattle.posting_rules.specs.believed.Closings.{are_free, closings, is_run, run_of}
use Rattle.posting_rules.specs.believed.Commands.{Command, Open, Post, Close, AreCommands, IsCommand, IsRun}
use Rattle.posting_rules.specs.believed.Damage.{IsSoundClosing}
use Rattle.posting_rules.specs.believed.Tables.{row_at, closing_key}
use Rattle.posting_rules.proofs.Keyed.{by_test}

-- keys of two numbers of one teller are such by their parts
run_tests : (f l : ℕ) → IsRun f l → is_run f l ≡ true
run_tests f l run =
    let t = run.teller in
    let least = run.teller_above in
    let above = run.above in
    let ordered = run.ordered in
    let within = run.within in
    let one : f / NUMBERS_PER_TELLER ≡ t = omega (arith, above, ordered, within) in
    let two : l / NUMBERS_PER_TELLER ≡ t = omega (arith, above, ordered, within) in
    let rest : 0 < f % NUMBERS_PER_TELLER = omega (arith, above, ordered, within) in
    let some : NUMBERS_PER_TELLER ≤ f = omega (arith, least, above) in
    let a : nat_le f l ≡ true = grind (arith, nat_tests) in
    let b : nat_le NUMBERS_PER_TELLER f ≡ true = grind (arith, nat_tests) in
    let c : nat_lt 0 (f % NUMBERS_PER_TELLER) ≡ true = grind (arith, nat_tests) in
    let d : (f / NUMBERS_PER_TELLER == l / NUMBERS_PER_TELLER) ≡ true = grind (arith, nat_tests) in
    rw (a, b, c, d) refl

either : (a b : Bool) → b ≡ true → (a || b) ≡ true
either true b is = refl
either false b is = is

sound : (f l : ℕ) → IsCommand (Close f l) → IsSoundClosing (run_of f l)
sound f l (inl (none, nought)) = rw (none, nought) (record { last = omega arith; numbers = refl })
sound f l (inr run) = record {
  last = let most = run.teller_within in let within = run.within in omega (arith, most, within);
  numbers = either _ (is_run f l) (run_tests f l run);
}

all_sound : (log : List Command) → AreCommands log → AllByRecursion IsSoundClosing (closings log)
all_sound [] are = tt
all_sound (Open branch terms ∷ log) are = all_sound log are.1
all_sound (Post moment bytes ∷ log) are = all_sound log are.1
all_sound (Close f l ∷ log) are = elim (by_test (are_free (closings log) f l)) [
  | inl free ↦ rw free (sound f l are.0, all_sound log are.1)
  | inr taken ↦ rw taken (all_sound log are.1)
]

one_sound : (runs : List ClosingRow) → AllByRecursion IsSoundClosing runs → (x : ℕ) (r : ClosingRow)
    → row_at closing_key runs x ≡ Some r → IsSoundClosing r
one_sound [] all x r is = absurd cc
one_sound (s ∷ runs) all x r is = elim (by_test (s.last == x)) [
  | inl here ↦ let same : s ≡ r = (let found = rw here at is in cc) in subst IsSoundClosing same all.0
  | inr not_here ↦ one_sound runs all.1 x r (let found = rw not_here at is in found)
]

pub closing_sound : (log : List Command) → AreCommands log → (r : ClosingRow)
    → row_at closing_key (closings log) r.last ≡ Some r → IsSoundClosing r
closing_sound log are r is = one_sound (closings log) (all_sound log are) r.last r is
