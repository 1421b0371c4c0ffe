use Rattle.std.proofs.Common.{ap, map, ◌∙◌}
use Rattle.std.proofs.lemmas.Result.{IfErr-weaker}
use Rattle.clap.specs.Words.{App, app_of, takes}
use Rattle.command_line.proofs.Matched.{matches_fail, matches_told}
use Rattle.command_line.proofs.reading.matches_of.Goals as goal

pub returns-clause-matches : goal.returns-clause-matches
returns-clause-matches g c =
    matches_told c.try_get_matches_from.result (app_of c.in_ok-bank_command.field-0)
    (map g.S.AsStr.text c.args.words.now) c.in_ok-bank_command.ensures c.try_get_matches_from.ensures.matches

pub returns-clause-fault : goal.returns-clause-fault
returns-clause-fault g c =
    matches_fail c.try_get_matches_from.result (app_of c.in_ok-bank_command.field-0)
    (map g.S.AsStr.text c.args.words.now) c.in_ok-bank_command.ensures c.try_get_matches_from.ensures.kinds

pub returns-clause-taken : goal.returns-clause-taken
returns-clause-taken g c =
    let words = map g.S.AsStr.text c.args.words.now in
    IfErr-weaker c.try_get_matches_from.result _ _
    (λ error passes taken. passes (ap (λ (a : App). takes a words) c.in_ok-bank_command.ensures ∙ taken))
    c.try_get_matches_from.ensures.passes
