-- It is one command more, or none.
use Rattle.std.proofs.Common.{List, Option, sym, subst, ◌∙◌}
use Rattle.posting_rules.specs.{believed.Commands.Command, believed.Counter.ShowsLog, declared.rows.ClosingRow.ClosingRow}
use Rattle.bank_store.specs.believed.Seen.{bank_seen}
use Rattle.bank_replays.specs.Closed.{close_in}
use Rattle.bank_replays.proofs.closings.close_row.Goals as goal

pub returns-in_default-clause-closes : goal.returns-in_default-clause-closes
returns-in_default-clause-closes g c sure log shows =
    subst (λ (o : Option ClosingRow). ShowsLog (bank_seen g.T.Store c.args.due.now) (close_in o log))
    (sym c.in_default.is ∙ c.closing_in.ensures.value) shows

pub returns-in-Ok-clause-closes : goal.returns-in-Ok-clause-closes
returns-in-Ok-clause-closes g c sure log shows =
    subst (λ (o : Option ClosingRow). ShowsLog (bank_seen g.T.Store c.close_run.new.self) (close_in o log))
    (sym c.in-Some.is ∙ c.closing_in.ensures.value)
    (c.in-Ok.ensures.call.done.shows (sure.clean c.close_run.new.self.conn) log shows)
