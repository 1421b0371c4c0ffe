-- No kept request is left out. Each clause is named: a search for them takes long.
use Rattle.std.proofs.Common.{w64}
use Rattle.std.proofs.lemmas.Int.{to_z-of_z}
use Rattle.walked_rows.specs.KeptRows.{holds_kept}
use Rattle.walked_rows.proofs.Sought.{all_given}
use Rattle.walked_rows.proofs.kept.KeptRequestWalkedRow.read_some.Goals as goal

pub returns : goal.returns
returns g c =
    let same = to_z-of_z w64 c.args.from c.ranges.from in
    let read = c.read_kept.ensures in
    record {
      answers = λ clean all has. rw (all_given all) (rw same at (read.answers clean all (holds_kept has)));
      ended = read.ended;
      rises = rw same at read.rises;
      reads = read.reads;
    }
