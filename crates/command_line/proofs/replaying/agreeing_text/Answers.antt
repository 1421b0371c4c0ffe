-- The lines of the digest and of the plan, and then that of the closed numbers.
use Rattle.std.proofs.Common.{rules, ◌≡◌, ◌∙◌, ◌++◌, ℕ, List, string_bytes, ap, append_assoc}
use Rattle.std.specs.Prelude.{codes}
use Rattle.hex.specs.Hex.{encode_lower}
use Rattle.command_line.specs.Replaying.{plan_lines}
use Rattle.command_line.proofs.replaying.agreeing_text.Goals as goal

pub returns : goal.returns
returns c =
    let first = plan_lines c.args.requests c.args.sha256.now c.args.plan.now in
    let digits = encode_lower c.args.closings.now in
    let label = codes "closing     " in
    let end = codes "\nAGREES\n" in
    let made : string_bytes c.in_ok-text.text ≡ first = search rules in
    let hex : c.as_str.result.now ≡ digits = search rules in
    c.in_ok-push_str-3.ensures.bytes
    ∙ ap (λ (l : List ℕ). l ++ end)
    (c.in_ok-push_str-2.ensures.bytes
    ∙ ap (λ (l : List ℕ). l ++ c.as_str.result.now) (c.in_ok-push_str.ensures.bytes ∙ ap (λ (l : List ℕ). l ++ label) made)
    ∙ ap (λ (l : List ℕ). (first ++ label) ++ l) hex)
    ∙ append_assoc (first ++ label) digits end
    ∙ append_assoc first label (digits ++ end)
