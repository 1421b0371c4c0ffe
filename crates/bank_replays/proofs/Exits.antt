-- What is known where a function ends early: the error of a `?`, and what a test says.
use Rattle.std.proofs.Common.{◌≡◌, ◌∙◌, Bool, Result, Ok, Err, IsErrAnd, OnErr, true, false, ap, subst}
use Rattle.std.specs.Prelude.{◌↔◌, IsTrue, IfErr, ⊤}
use Rattle.std.proofs.lemmas.Result.{err_from_is_err_and}
use Rattle.posting_rules.specs.declared.{fault.Fault.TheVariants.Memory, fault.Rule.Rule}
use Rattle.bank_replays.specs.Visiting.{IsRefusal}
use Rattle.bank_replays.specs.declared.fault.ReplayFault.{ReplayFault, TheVariants.Bank as OfBank}

pub fails_by : {T E : Type 0} {e : E} {r : Result T E} → IsErrAnd r (λ y. y ≡ e) → r ≡ Err e
fails_by {e = e} {r = r} is =
    let it = err_from_is_err_and {Q = λ y. y ≡ e} r is in
    it.1 ∙ ap Err it.2

pub at_err : {T E P : Type 0} {e : E} {r : Result T E} → r ≡ Err e → OnErr r P → P
at_err {P = P} is holds = subst (λ r. OnErr r P) is holds

-- a bank that was found up isn't down
pub tested_up : (tested is_down : Bool) → tested ≡ is_down → tested ≡ false → is_down ≡ true → ⊥
tested_up tested is_down same up down = cc

-- two that were found different aren't the same
pub not_same : {P : Type 0} (same : Bool) → (IsTrue same ↔ P) → same ≡ false → P → ⊥
not_same same test fails p = let is : same ≡ true = test.1 p in absurd cc

-- ---- a result of which little is said

pub nothing_said : {X E : Type 0} (r : Result X E) → IfErr r (λ e. ⊤)
nothing_said (Ok x) = tt
nothing_said (Err e) = tt

-- memory is no row's fault
pub memory_refuses : (Breaks : Rule → Type 0) (r : Result (Unit {0}) ReplayFault)
    → IfErr r (λ fault. fault ≡ OfBank Memory) → IfErr r (IsRefusal Breaks)
memory_refuses Breaks (Ok done) only = tt
memory_refuses Breaks (Err fault) only = rw only tt
