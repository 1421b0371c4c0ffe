-- The row above the key before the first.
use Rattle.bank_transactions.proofs.ClosedAnswers.{before_it, looks_above}
use Rattle.bank_transactions.proofs.closings.row_met.Goals as goal

pub returns-in-Some : goal.returns-in-Some
returns-in-Some g c = looks_above g.S.Store _ _ _ _ c.next_closing.result
    (before_it _ _ c.in-Some.ensures.0 c.in-Some.ensures.1) c.next_closing.ensures.looks_up
