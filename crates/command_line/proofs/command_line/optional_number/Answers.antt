-- The option, with one field of its rule set.
use Rattle.std.proofs.Common.{◌∙◌, ap, false}
use Rattle.clap.specs.Words.{Rule, rule_of}
use Rattle.command_line.proofs.command_line.optional_number.Goals as goal

pub returns-clause-rule : goal.returns-clause-rule
returns-clause-rule c =
    ap rule_of c.required.ensures
    ∙ ap (λ (rule : Rule). record rule { required = false }) c.number_option.ensures.rule
