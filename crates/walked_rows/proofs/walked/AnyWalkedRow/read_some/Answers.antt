-- What is read ahead is what the walk gives. Each clause is named: a search for them takes long.
use Rattle.std.proofs.{Common.w64, lemmas.Int.to_z-of_z}
use Rattle.walked_rows.specs.Rows.{holds_rows}
use Rattle.walked_rows.proofs.walked.AnyWalkedRow.read_some.Goals as goal

pub returns : goal.returns
returns g c =
    let same = to_z-of_z w64 c.args.from c.ranges.from in
    let read = c.read_ahead.ensures in
    record {
      answers = λ clean all has. (rw same at (read.answers clean all (holds_rows has)));
      ended = read.ended;
      rises = rw same at read.rises;
      reads = read.reads;
    }
