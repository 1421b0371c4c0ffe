-- The replies before the first other are alike.
use Rattle.std.proofs.Common.{◌≡◌, ◌<◌, ◌≤◌, ◌+◌, ◌++◌, ◌∷◌, [], ◌∙◌, ℕ, Bool, true, false, List, length, take, drop}
use Rattle.std.proofs.Common.{get_or, refl, sym, ap, add-one, arith}
use Rattle.std.specs.Prelude.{not}
use Rattle.std.proofs.lemmas.List.{length-take-le, take-append-drop, take_all, take_more_same}
use Rattle.std.proofs.lemmas.Slice.Eq.{bytes_eq-Decides}
use Rattle.std.proofs.Math.Seq.{drop-cons}
use Rattle.branch_loader.proofs.followers.first_other.Goals as goal

apart : (texts : List (List ℕ)) (i : ℕ) → i < length texts → texts ≡ take i texts ++ get_or texts i [] ∷ drop (i + 1) texts
apart texts i low =
    let parts : drop i texts ≡ get_or texts i [] ∷ drop (i + 1) texts = rw add-one (drop-cons texts i [] low) in
    sym (take-append-drop i texts) ∙ ap (λ (l : List (List ℕ)). take i texts ++ l) parts

equal : (e r : Bool) → r ≡ not e → r ≡ false → e ≡ true
equal true r is other = refl
equal false r is other = absurd cc

unequal : (e r : Bool) → r ≡ not e → r ≡ true → e ≡ true → ⊥
unequal true r is other same = cc
unequal false r is other same = cc

pub loop-i-init : goal.loop-i-init
loop-i-init c = refl

pub returns-then-ne-clause-other : goal.returns-then-ne-clause-other
returns-then-ne-clause-other c few =
    let given = c.args.given.now in
    let due = c.args.due.now in
    let i = c.loop-i.i in
    let low : i < length given = omega (arith, c.loop-i-test.true, c.min-i-end.ensures) in
    let low_due : i < length due = omega (arith, c.loop-i-test.true, c.min-i-end.ensures) in
    record {
      alike = take i given;
      given_after = drop (i + 1) given;
      due_after = drop (i + 1) due;
      given_are = apart given i low;
      due_are = apart due i low_due
          ∙ ap (λ (l : List (List ℕ)). l ++ get_or due i [] ∷ drop (i + 1) due) (sym c.loop-i.invariant);
      differ = λ same. unequal _ c.ne.result c.ne.ensures c.if-ne.true
          ((bytes_eq-Decides (get_or given i []) (get_or due i [])).1 same);
      entry = omega (arith, few, low, length-take-le i given (omega (arith, low)));
    }

pub loop-i-preserved : goal.loop-i-preserved
loop-i-preserved c =
    let given = c.args.given.now in
    let due = c.args.due.now in
    let i = c.loop-i.i in
    take_more_same given due i [] (omega (arith, c.loop-i-test.true, c.min-i-end.ensures))
    (omega (arith, c.loop-i-test.true, c.min-i-end.ensures)) c.loop-i.invariant
    ((bytes_eq-Decides (get_or given i []) (get_or due i [])).0 (equal _ c.ne.result c.ne.ensures c.if-ne.false))

pub returns-clause-none : goal.returns-clause-none
returns-clause-none c same =
    let given = c.args.given.now in
    let due = c.args.due.now in
    let high : length given ≤ c.loop-i.i = omega (arith, c.loop-i-test.false, same) in
    sym (take_all c.loop-i.i given high) ∙ c.loop-i.invariant ∙ take_all c.loop-i.i due (omega (arith, high, same))
