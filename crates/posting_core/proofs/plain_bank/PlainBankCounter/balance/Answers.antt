use Rattle.std.proofs.Common.{List, ap, refl, ◌∙◌}
use Rattle.std.specs.Option.{option_map}
use Rattle.posting_rules.specs.declared.rows.AccountRow.{AccountRow}
use Rattle.posting_rules.specs.believed.LookUps.{account_balance_in, balance_of_account}
use Rattle.posting_rules.specs.believed.Tables.{account_key, row_at}
use Rattle.posting_rules.proofs.Looked.{balance_shown}
use Rattle.posting_core.specs.Plain.{plain_tables}
use Rattle.posting_core.proofs.InMemory.{plain_shows, read_plain, row_told, stays_by_plain}
use Rattle.posting_core.proofs.plain_bank.PlainBankCounter.balance.Goals as goal

pub returns-clause-answer : goal.returns-clause-answer
returns-clause-answer c h log s =
    let shows = plain_shows c.args.self.now log s in
    let t = plain_tables c.args.self.now in
    c.balance_at.ensures ∙ row_told balance_of_account (row_at account_key c.deref.result.now c.get.result)
    ∙ ap (λ (rows : List AccountRow). option_map balance_of_account (row_at account_key rows c.get.result))
    c.deref.ensures.value
    ∙ ap (account_balance_in t) c.get.ensures.value ∙ balance_shown t log c.args.account shows

pub returns-clause-call : goal.returns-clause-call
returns-clause-call c = read_plain c.args.self.now c.args.self.now c.balance_at.result refl

pub returns-clause-by_tables : goal.returns-clause-by_tables
returns-clause-by_tables c = stays_by_plain c.args.self.now c.args.self.now refl
