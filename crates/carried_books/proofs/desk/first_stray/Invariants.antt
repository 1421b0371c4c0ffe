-- Those so far are the desk's, or of used numbers.
use Rattle.std.proofs.Common.{◌≡◌, true, take}
use Rattle.std.specs.List.{AllByRecursion}
use Rattle.carried_books.specs.Carrying.{is_of_desk}
use Rattle.carried_books.proofs.desk.first_stray.Given as goal

abbrev pub invariant-loop-row : goal.invariant-loop-row
invariant-loop-row l = AllByRecursion (λ r. is_of_desk l.desk l.used r ≡ true) (take l.row-index l.requests)
