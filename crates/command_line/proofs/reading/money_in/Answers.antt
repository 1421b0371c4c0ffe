use Rattle.std.proofs.Common.{◌∙◌, ap, codes}
use Rattle.clap.specs.Words.{found_of}
use Rattle.clap.proofs.WalkLemmas.{first_value-rows}
use Rattle.command_line.specs.CommandLine.{money_of_flag}
use Rattle.command_line.proofs.reading.money_in.Goals as goal

pub returns : goal.returns
returns c =
    c.money_of_flag.ensures
    ∙ ap money_of_flag (c.get_str.ensures ∙ first_value-rows (found_of c.args.values.now) (codes "words"))
