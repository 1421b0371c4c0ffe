use Rattle.std.proofs.Common.{Some, None, refl}
use Rattle.posting_rules.proofs.NextBranch.{next_shown}
use Rattle.posting_core.specs.Plain.{plain_tables}
use Rattle.posting_core.proofs.InMemory.{plain_shows, read_plain, stays_by_plain}
use Rattle.posting_core.proofs.plain_bank.PlainBankCounter.next_branch.Goals as goal

pub returns-in_default-clause-answer : goal.returns-in_default-clause-answer
returns-in_default-clause-answer c h log s =
    next_shown (plain_tables c.args.self.now) log (plain_shows c.args.self.now log s) c.args.after None
    (rw (← c.deref.ensures.value) c.in_default.ensures)

pub returns-clause-answer : goal.returns-clause-answer
returns-clause-answer c h log s =
    rw c.line.ensures.value
    (next_shown (plain_tables c.args.self.now) log (plain_shows c.args.self.now log s) c.args.after
    (Some c.in-Some.row) (rw (← c.deref.ensures.value) c.in-Some.ensures))

pub returns-clause-call : goal.returns-clause-call
returns-clause-call c = read_plain c.args.self.now c.args.self.now _ refl

pub returns-in_default-clause-by_tables : goal.returns-in_default-clause-by_tables
returns-in_default-clause-by_tables c = stays_by_plain c.args.self.now c.args.self.now refl

pub returns-clause-by_tables : goal.returns-clause-by_tables
returns-clause-by_tables c = stays_by_plain c.args.self.now c.args.self.now refl
