use Rattle.std.proofs.Common.{◌≡◌, ◌∙◌, Some, Option, refl, sym, ap, inl, inr}
use Rattle.std.specs.Prelude.{unwrap_or}
use Rattle.counter_http.specs.declared.parting.Parting.{Parting}
use Rattle.counter_http.proofs.client.Client.part.Goals as goal

-- for its own cause
pub returns-then-is_over : goal.returns-then-is_over
returns-then-is_over g c =
    let over = c.is_over.ensures.over c.if-is_over.true in
    let own : c.unwrap_or-parting.result ≡ over.parting =
    c.unwrap_or-parting.ensures ∙ ap (λ (p : Option Parting). unwrap_or p c.args.cause) over.is in
    record { reader = refl; writer = refl; why = inr (over.is ∙ ap Some (sym own), over.none) }

-- for this one
pub returns : goal.returns
returns g c = record { reader = refl; writer = refl; why = inl (refl, c.is_over.ensures.goes_on c.if-is_over.false) }
