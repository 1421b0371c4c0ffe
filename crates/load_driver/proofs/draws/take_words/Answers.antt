use Rattle.load_driver.proofs.DrivenRecords.{four}
use Rattle.load_driver.proofs.draws.take_words.Goals as goal

pub returns : goal.returns
returns c seed n at =
    four seed n _ _ _ _ _ _ at c.next_word-teller.ensures c.next_word-choice.ensures
    c.next_word-account.ensures c.next_word-amount.ensures
