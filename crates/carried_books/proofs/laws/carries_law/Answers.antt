-- What the tables show.
use Rattle.carried_books.proofs.Shown.{carries_shown}
use Rattle.carried_books.proofs.laws.carries_law.Goals as goal

pub returns : goal.returns
returns c = carries_shown
