use Rattle.std.proofs.Common.{arith, None, ap, ◌∙◌}
use Rattle.counter_http.specs.believed.Paths.{route_of}
use Rattle.counter_http.proofs.Routed.{at_rows, IsUtf8-of, find_text, no_text, text_bytes}
use Rattle.counter_http.proofs.routes.Routes.find.Goals as goal

pub returns-in_default : goal.returns-in_default
returns-in_default c = no_text c.args.path.now c.in_default.ensures.cases.0

pub returns-in-Ok-at : goal.returns-in-Ok-at
returns-in-Ok-at c =
    let path = c.args.path.now in
    let text = c.in-Ok.text.now in
    find_text text _ (text_bytes path text (λ i. omega (arith, c.type_inv.path i)) c.in-Ok.ensures.cases.0)
    (IsUtf8-of c.in-Ok.ensures.cases.0 c.in-Ok.ensures.cases.1)
    (at_rows c.args.self.now.rows text _ c.in-Ok-at.ensures.found) ∙ ap route_of c.in-Ok.ensures.cases.0

pub returns-in-Err : goal.returns-in-Err
returns-in-Err c =
    let path = c.args.path.now in
    let text = c.in-Ok.text.now in
    find_text text None (text_bytes path text (λ i. omega (arith, c.type_inv.path i)) c.in-Ok.ensures.cases.0)
    (IsUtf8-of c.in-Ok.ensures.cases.0 c.in-Ok.ensures.cases.1)
    (at_rows c.args.self.now.rows text _ c.in-Err.ensures.missing) ∙ ap route_of c.in-Ok.ensures.cases.0
