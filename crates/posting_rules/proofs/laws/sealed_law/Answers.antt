use Rattle.posting_rules.proofs.SealedBooks.{sealed_books, seals_alone}
use Rattle.posting_rules.proofs.laws.sealed_law.Goals as goal

pub returns-clause-sealed : goal.returns-clause-sealed
returns-clause-sealed c = sealed_books

pub returns-clause-alone : goal.returns-clause-alone
returns-clause-alone c = seals_alone
