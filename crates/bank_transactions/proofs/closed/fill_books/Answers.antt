-- What is remembered, and then told.
use Rattle.bank_transactions.proofs.{Remembered.keeps_reading, ToldBooks.books_read}
use Rattle.bank_transactions.proofs.closed.fill_books.Goals as goal

pub returns-clause-says : goal.returns-clause-says
returns-clause-says g c = books_read c.args.slots.now.items c.tell_books.new.slots.items c.tell_books.result
    c.in_ok-remember_closed.ensures.says c.tell_books.ensures.says c.tell_books.ensures.closed c.tell_books.ensures.same

pub returns-clause-remembers : goal.returns-clause-remembers
returns-clause-remembers g c = keeps_reading c.remember_closed.new.memory c.tell_books.result c.tell_books.ensures.says
    c.in_ok-remember_closed.ensures.remembers
