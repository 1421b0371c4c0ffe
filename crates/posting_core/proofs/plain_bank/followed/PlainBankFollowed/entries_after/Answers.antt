use Rattle.std.proofs.Common.{rules, ◌≡◌, length, refl, ◌∙◌}
use Rattle.posting_core.proofs.InMemory.{plain_shows, stays_by_plain}
use Rattle.posting_core.proofs.LogPlaces.{given_none, given_some}
use Rattle.posting_core.proofs.plain_bank.followed.PlainBankFollowed.entries_after.Goals as goal

pub returns-then-after-kept-clause-answer : goal.returns-then-after-kept-clause-answer
returns-then-after-kept-clause-answer c h log s =
    let kept : c.len-kept.result ≡ length c.args.self.now.requests.items = search rules in
    given_none log c.args.after c.len-kept.result (kept ∙ (plain_shows c.args.self.now log s).rows.decided)
    c.if-after-kept.true

pub returns-clause-answer : goal.returns-clause-answer
returns-clause-answer c h log s =
    let shows = plain_shows c.args.self.now log s in
    let kept : c.len-kept.result ≡ length c.args.self.now.requests.items = search rules in
    given_some log c.args.after c.len-kept.result c.min-to.result c.in_ok-entries_between.field-0.items
    (kept ∙ shows.rows.decided) c.if-after-kept.false c.min-to.ensures
    (c.in_ok-entries_between.ensures log s.commands shows)

pub returns-then-after-kept-clause-spares : goal.returns-then-after-kept-clause-spares
returns-then-after-kept-clause-spares c = tt

pub returns-clause-spares : goal.returns-clause-spares
returns-clause-spares c = tt

pub returns-then-after-kept-clause-by_tables : goal.returns-then-after-kept-clause-by_tables
returns-then-after-kept-clause-by_tables c = stays_by_plain c.args.self.now c.args.self.now refl

pub returns-clause-by_tables : goal.returns-clause-by_tables
returns-clause-by_tables c = stays_by_plain c.args.self.now c.args.self.now refl
