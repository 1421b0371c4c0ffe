use Rattle.std.proofs.Common.{List, ap, refl, ◌∙◌}
use Rattle.std.specs.Option.{option_map}
use Rattle.posting_rules.specs.declared.rows.TellerRow.{TellerRow}
use Rattle.posting_rules.specs.believed.LookUps.{balance_of_teller}
use Rattle.posting_rules.specs.believed.Tables.{row_at, teller_key}
use Rattle.posting_core.specs.Plain.{plain_tables}
use Rattle.posting_core.proofs.InMemory.{plain_shows, row_told, stays_by_plain}
use Rattle.posting_core.proofs.Tills.{teller_shown}
use Rattle.posting_core.proofs.plain_bank.followed.PlainBankFollowed.teller_balance.Goals as goal

pub returns-clause-answer : goal.returns-clause-answer
returns-clause-answer c h log s =
    let t = plain_tables c.args.self.now in
    c.balance_at.ensures ∙ row_told balance_of_teller (row_at teller_key c.deref.result.now c.get.result)
    ∙ ap (λ (rows : List TellerRow). option_map balance_of_teller (row_at teller_key rows c.get.result))
    c.deref.ensures.value
    ∙ ap (λ n. option_map balance_of_teller (row_at teller_key t.tellers n)) c.get.ensures.value
    ∙ teller_shown t log c.args.teller (plain_shows c.args.self.now log s)

pub returns-clause-spares : goal.returns-clause-spares
returns-clause-spares c = tt

pub returns-clause-by_tables : goal.returns-clause-by_tables
returns-clause-by_tables c = stays_by_plain c.args.self.now c.args.self.now refl
