-- The search tries the columns in their order.
use Rattle.std.proofs.Common.{rules, tests, ◌∙◌}
use Rattle.std.proofs.lemmas.Iterator.{YieldsList-from_slice}
use Rattle.std.proofs.lemmas.Iterator.Search.{find_from_yields_List}
use Rattle.bank_replays.specs.DifferenceText.{is_different}
use Rattle.bank_replays.proofs.shown.first_different.Goals as goal

pub returns : goal.returns
returns c = c.copied.ensures
    ∙ find_from_yields_List is_different _ _ _ c.find.ensures.ran (YieldsList-from_slice c.args.columns.now cc)
    (λ x b q k. search (rules, tests))
