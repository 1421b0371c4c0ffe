-- Whose balance it is.
use Rattle.bank_transactions.proofs.memory.Memory.change_balance.Goals as goal

pub returns-in-Account-clause-fits : goal.returns-in-Account-clause-fits
returns-in-Account-clause-fits c = rw c.in-Account.is c.note_balance.ensures.fits

pub returns-in-Teller-clause-fits : goal.returns-in-Teller-clause-fits
returns-in-Teller-clause-fits c = rw c.in-Teller.is c.note_balance-in-Teller.ensures.fits

pub returns-in-Branch-clause-fits : goal.returns-in-Branch-clause-fits
returns-in-Branch-clause-fits c = rw c.in-Branch.is c.change_branch.ensures.fits

pub returns-in-Account-clause-noted : goal.returns-in-Account-clause-noted
returns-in-Account-clause-noted c = rw c.in-Account.is c.note_balance.ensures.noted

pub returns-in-Teller-clause-noted : goal.returns-in-Teller-clause-noted
returns-in-Teller-clause-noted c = rw c.in-Teller.is c.note_balance-in-Teller.ensures.noted

pub returns-in-Branch-clause-noted : goal.returns-in-Branch-clause-noted
returns-in-Branch-clause-noted c = rw c.in-Branch.is c.change_branch.ensures.noted
