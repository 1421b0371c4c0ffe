use Rattle.std.proofs.{Common.arith, lemmas.Grind.common_steps}
use Rattle.posting_rules.specs.believed.LookUps.{balance_of_account, balance_of_branch, balance_of_teller}
use Rattle.posting_rules.specs.believed.Numbering.{branch_of_teller}
use Rattle.posting_rules.specs.believed.Tables.{row_at, account_key, branch_key, teller_key}
use Rattle.posting_core.proofs.InMemory.{row_told}
use Rattle.posting_core.proofs.plain_bank.PlainBank.look_up.Goals as goal

pub returns-clause-value : goal.returns-clause-value
returns-clause-value c =
    let bank = c.args.self.now in
    let r = c.args.request.now in
    let teller = row_told balance_of_teller (row_at teller_key bank.tellers.items r.teller) in
    let branch = row_told balance_of_branch (row_at branch_key bank.branches.items (branch_of_teller r.teller)) in
    let account = row_told balance_of_account (row_at account_key bank.accounts.items r.account) in
    grind (arith, common_steps, teller, branch, account)
