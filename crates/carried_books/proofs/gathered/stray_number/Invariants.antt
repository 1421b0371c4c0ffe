-- Those so far are the desk's, or of used numbers.
use Rattle.std.proofs.Common.{◌≡◌, true, take}
use Rattle.std.specs.List.{AllByRecursion}
use Rattle.carried_books.specs.Gathering.{is_carried}
use Rattle.carried_books.proofs.gathered.stray_number.Given as goal

abbrev pub invariant-loop-run : goal.invariant-loop-run
invariant-loop-run l = AllByRecursion (λ run. is_carried l.desk l.used run ≡ true) (take l.run-index l.kept)
