-- The numbers that are noted lie there.
use Rattle.bank_transactions.proofs.memory.Memory.note_closed.Goals as goal

pub returns-clause-fits : goal.returns-clause-fits
returns-clause-fits c db lies fits = record {
  decided = fits.decided;
  closed = lies;
  branches = fits.branches;
  floors = fits.floors;
  tellers = fits.tellers;
  accounts = fits.accounts;
}
