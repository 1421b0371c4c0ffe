-- Each call of the builder sets a field of the argument, and with it one of its rule.
use Rattle.std.proofs.Common.{◌∙◌, ap, Some}
use Rattle.clap.specs.Words.{Rule, rule_of}
use Rattle.clap.specs.declared.builder.action.ArgAction.TheVariants.{SetTrue}
use Rattle.command_line.proofs.command_line.flag.Goals as goal

pub returns-clause-rule : goal.returns-clause-rule
returns-clause-rule c =
    ap rule_of c.help.ensures ∙ (ap rule_of c.action.ensures
    ∙ ap (λ (rule : Rule). record rule { action = Some SetTrue }) (ap rule_of c.long.ensures
    ∙ ap (λ (rule : Rule). record rule { long = Some c.args.name.now }) c.new.ensures.rule))
