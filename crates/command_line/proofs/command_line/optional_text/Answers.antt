-- Each call of the builder sets a field of the argument, and with it one of its rule.
use Rattle.std.proofs.Common.{◌∙◌, ap, Some}
use Rattle.clap.specs.Words.{Rule, rule_of}
use Rattle.command_line.proofs.command_line.optional_text.Goals as goal

pub returns-clause-rule : goal.returns-clause-rule
returns-clause-rule c =
    ap rule_of c.help.ensures ∙ (ap rule_of c.long.ensures
    ∙ ap (λ (rule : Rule). record rule { long = Some c.args.name.now }) (ap rule_of c.value_name.ensures
    ∙ ap (λ (rule : Rule). record rule { value_names = 1 }) c.new.ensures.rule))
