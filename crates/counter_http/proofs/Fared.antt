-- What becomes of clients at their places in a part of a round.
use Rattle.std.proofs.Common.{◌≡◌, ℕ, List, ◌++◌, slice_set, Option, None, Some, sym, ap, subst, ◌∙◌, inl, inr}
use Rattle.std.specs.List.{slice_get}
use Rattle.posting_rules.specs.declared.fault.Fault.{Fault}
use Rattle.counter_http.specs.together.Faring.{AllFare, Fares}
use Rattle.counter_http.specs.together.Order.{Step}
use Rattle.counter_http.specs.together.Rounds.{numbers}
use Rattle.counter_http.specs.declared.client.Client.{Client}
use Rattle.counter_http.proofs.Faring.{fares_same, fares_then}
use Rattle.counter_http.proofs.Placed.{at_other, at_same, found_too, number_kept, same_or_not, some_is}

-- nothing was done for any
pub all_same : {R W : Type 0} {fault : Option Fault} {refused steps : List Step} (here : List (Client R W))
    → AllFare fault refused steps here here
all_same {fault = fault} {refused} {steps} here p x y at at' =
    subst (λ (z : Client _ _). Fares fault refused steps x z) (some_is x y (sym at ∙ at')) (fares_same x)

-- something was done for the one at a place
pub all_at : {R W : Type 0} {fault : Option Fault} {refused steps : List Step} (here : List (Client R W)) (p : ℕ)
    (client client' : Client R W) → slice_get here p ≡ Some client → Fares fault refused steps client client'
    → AllFare fault refused steps here (slice_set here p client')
all_at {R} {W} {fault} {refused} {steps} here p client client' at one q x y at_q at_q' = elim (same_or_not q p) [
  | inl e ↦
      let x_is : client ≡ x = some_is client x (sym at ∙ ap (λ (n : ℕ). slice_get here n) (sym e) ∙ at_q) in
      let y_is : client' ≡ y =
      some_is client' y (sym (at_same here p client client' at)
      ∙ ap (λ (n : ℕ). slice_get (slice_set here p client') n) (sym e) ∙ at_q') in
      subst (λ (z : Client R W). Fares fault refused steps x z) y_is
      (subst (λ (z : Client R W). Fares fault refused steps z client') x_is one)
  | inr ne ↦
      subst (λ (z : Client R W). Fares fault refused steps x z)
      (some_is x y (sym at_q ∙ sym (at_other here p q client' ne) ∙ at_q')) (fares_same x)
]

pub all_then : {R W : Type 0} {fault : Option Fault} {others refused : List Step} (here one two : List (Client R W)) (ss ts : List Step)
    → numbers one ≡ numbers here → AllFare None others ss here one → AllFare fault refused ts one two
    → AllFare fault refused (ss ++ ts) here two
all_then here one two ss ts same a b p x z at at' =
    let mids = found_too here one p x same at in
    fares_then x mids.0 z ss ts (number_kept here one p x mids.0 same at mids.1) (a p x mids.0 at mids.1)
    (b p mids.0 z mids.1 at')
