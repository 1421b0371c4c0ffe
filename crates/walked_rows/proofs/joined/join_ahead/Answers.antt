-- What is joined with the others that were read. Each clause is named: a search for them takes long.
use Rattle.std.proofs.{Common.subst, Common.w64, lemmas.Int.to_z-of_z}
use Rattle.walked_rows.specs.Pairs.{ComesBefore}
use Rattle.walked_rows.proofs.{Joining.decided_by, Leaving.reads_any}
use Rattle.walked_rows.proofs.joined.join_ahead.Goals as goal

pub returns-in-Ok : goal.returns-in-Ok
returns-in-Ok g c =
    let after = c.in-Ok.after in
    let start = to_z-of_z w64 c.args.start c.ranges.start in
    record {
      answers = λ clean base others rise has own_is.
          (rw (start, c.as_slice.ensures.value) at (c.join.ensures.answers base others rise)) own_is
          (rw start at (c.in-Ok.ensures.answers clean others has));
      rises = rw start at c.join.ensures.rises;
      some = λ r more is at none.
          c.join.ensures.some r more is
          (subst (ComesBefore after) at
          (decided_by after c.args.start (rw start at c.in-Ok.ensures.beyond))) none;
      reads = reads_any c.in-Ok.ensures.reads _;
      cause = λ clean. tt;
    }

pub returns-in-Err : goal.returns-in-Err
returns-in-Err g c =
    let start = to_z-of_z w64 c.args.start c.ranges.start in
    record {
      answers = λ clean base others rise has own_is. (rw start at (c.in-Err.ensures.answers clean others has));
      rises = tt;
      some = λ r more is at. tt;
      reads = c.in-Err.ensures.reads;
      cause = c.in-Err.ensures.cause;
    }
