-- A row more, with nothing on it.
use Rattle.std.proofs.Common.{◌≡◌, rules, refl}
use Rattle.store_rows.specs.believed.{BankTables.account, BankTables.teller, SeveralRows.given}
use Rattle.bank_transactions.specs.believed.Additions.{AddsOne, entry_of, insert_of}
use Rattle.bank_transactions.specs.NewRows.{is_taken, with_new}
use Rattle.bank_transactions.specs.declared.new_branch.NewRows.TheVariants.{Tellers, Accounts}
use Rattle.bank_transactions.proofs.{Leading.lead_new, Left.leaves_add, Running.writes_add}
use Rattle.bank_transactions.proofs.new_branch.add_new.Goals as goal

pub returns-in-Tellers-clause-writes : goal.returns-in-Tellers-clause-writes
returns-in-Tellers-clause-writes g c =
    let n = c.args.number in
    let same : c.unwrap-teller.result ≡ n = search rules in
    rw c.in-Tellers.is
    (writes_add (AddsOne Tellers n) g.S.Store _ _ (insert_of Tellers) (given (entry_of Tellers n)) (with_new Tellers n)
    (refl, refl) (λ t free. lead_new Tellers n t) teller (is_taken Tellers n) _
    (rw (same, c.zero-balance.ensures) at c.add_member.ensures) (λ t free. free))

pub returns-in-Accounts-clause-writes : goal.returns-in-Accounts-clause-writes
returns-in-Accounts-clause-writes g c =
    let n = c.args.number in
    let same : c.unwrap-account.result ≡ n = search rules in
    rw c.in-Accounts.is
    (writes_add (AddsOne Accounts n) g.S.Store _ _ (insert_of Accounts) (given (entry_of Accounts n)) (with_new Accounts n)
    (refl, refl) (λ t free. lead_new Accounts n t) account (is_taken Accounts n) _
    (rw (same, c.zero-balance.ensures) at c.add_member-in-Accounts.ensures) (λ t free. free))

pub returns-in-Tellers-clause-leaves : goal.returns-in-Tellers-clause-leaves
returns-in-Tellers-clause-leaves g c =
    let n = c.args.number in
    let same : c.unwrap-teller.result ≡ n = search rules in
    rw c.in-Tellers.is
    (leaves_add g.S.Store _ _ teller (is_taken Tellers n) (with_new Tellers n) _
    (rw (same, c.zero-balance.ensures) at c.add_member.ensures))

pub returns-in-Accounts-clause-leaves : goal.returns-in-Accounts-clause-leaves
returns-in-Accounts-clause-leaves g c =
    let n = c.args.number in
    let same : c.unwrap-account.result ≡ n = search rules in
    rw c.in-Accounts.is
    (leaves_add g.S.Store _ _ account (is_taken Accounts n) (with_new Accounts n) _
    (rw (same, c.zero-balance.ensures) at c.add_member-in-Accounts.ensures))
