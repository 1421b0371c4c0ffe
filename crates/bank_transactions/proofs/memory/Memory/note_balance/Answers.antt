-- The balance that is noted lies there.
use Rattle.std.proofs.Common.{refl}
use Rattle.store_rows.specs.Lying.{BalanceLies}
use Rattle.store_rows.specs.declared.holders.Member.TheVariants.{Account, Teller}
use Rattle.bank_transactions.proofs.{Fitting.accounts_noted, Fitting.tellers_noted, KnownRows.known_put}
use Rattle.bank_transactions.proofs.memory.Memory.note_balance.Goals as goal

pub returns-in-Account-clause-fits : goal.returns-in-Account-clause-fits
returns-in-Account-clause-fits c = rw c.in-Account.is (λ was now left lies fits.
    accounts_noted c.args.self.now _ was now fits c.in-Account.account refl refl refl refl refl left (λ still.
    known_put (λ k z. BalanceLies (Account k) was z) (λ k z. BalanceLies (Account k) now z) c.in-Account.account still
    c.args.self.now.accounts c.put.new.self c.args.balance.now (rw c.get.ensures.value at c.put.ensures.true_after)
    lies fits.accounts))

pub returns-in-Teller-clause-fits : goal.returns-in-Teller-clause-fits
returns-in-Teller-clause-fits c = rw c.in-Teller.is (λ was now left lies fits.
    tellers_noted c.args.self.now _ was now fits c.in-Teller.teller refl refl refl refl refl left (λ still.
    known_put (λ k z. BalanceLies (Teller k) was z) (λ k z. BalanceLies (Teller k) now z) c.in-Teller.teller still
    c.args.self.now.tellers c.put-in-Teller.new.self c.args.balance.now (rw c.get-in-Teller.ensures.value at c.put-in-Teller.ensures.true_after)
    lies fits.tellers))
