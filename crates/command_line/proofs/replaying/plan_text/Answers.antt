-- The lines of the digest, and then that of the plan.
use Rattle.std.proofs.Common.{rules, ◌≡◌, ◌∙◌, ◌++◌, ℕ, List, string_bytes, ap, append_assoc}
use Rattle.std.specs.Prelude.{codes}
use Rattle.hex.specs.Hex.{encode_lower}
use Rattle.command_line.specs.Replaying.{digest_lines}
use Rattle.command_line.proofs.replaying.plan_text.Goals as goal

pub returns : goal.returns
returns c =
    let first = digest_lines c.args.requests c.args.sha256.now in
    let digits = encode_lower c.args.plan.now in
    let label = codes "plan        " in
    let end = codes "\n" in
    let made : string_bytes c.in_ok-text.text ≡ first = search rules in
    let hex : c.as_str.result.now ≡ digits = search rules in
    c.in_ok-push_str-3.ensures.bytes
    ∙ ap (λ (l : List ℕ). l ++ end)
    (c.in_ok-push_str-2.ensures.bytes
    ∙ ap (λ (l : List ℕ). l ++ c.as_str.result.now) (c.in_ok-push_str.ensures.bytes ∙ ap (λ (l : List ℕ). l ++ label) made)
    ∙ ap (λ (l : List ℕ). (first ++ label) ++ l) hex)
    ∙ append_assoc (first ++ label) digits end
    ∙ append_assoc first label (digits ++ end)
