-- Eight rows more are put in, and at the end those that are left.
use Rattle.std.proofs.Common.{◌≡◌, ◌++◌, [], refl, sym}
use Rattle.std.proofs.lemmas.List.{take-append-drop}
use Rattle.bank_transactions.proofs.Running.{writes_err, writes_for, writes_none}
use Rattle.bank_transactions.proofs.Remembered.{followed_next, followed_none, followed_then}
use Rattle.bank_transactions.proofs.Loops.{all_more, some_more, stands_more}
use Rattle.bank_transactions.proofs.Exits.{clean_at, handed_on, survives_itself}
use Rattle.bank_transactions.proofs.batch_changes.make_rows.Goals as goal

pub loop-eight-init : goal.loop-eight-init
loop-eight-init g c = record {
  puts = record {
    front = [];
    are = refl;
    so_far = writes_for (writes_none (survives_itself _)) (λ t so. (so, g.met.R.Change.in_turn.none t));
  };
  follows = λ memory. followed_none g.S.Store c.args.tx.now memory;
}

pub loop-eight-preserved : goal.loop-eight-preserved
loop-eight-preserved g c =
    let it = c.in-Some.ensures.cases in
    let parts : c.loop-eight.left.now
    ≡ c.in-Some.eight.now ++ c.in-Some.rest.now = rw (it.0, it.1) (sym (take-append-drop 8 c.loop-eight.left.now)) in
    let so_far = c.loop-eight.invariant in
    let one = c.in_ok-make_eight.ensures in
    record {
      puts = stands_more g.met.R.NewRow.in_parts g.met.R.Change.alike so_far.puts c.in-Some.eight.now c.in-Some.rest.now
          parts one.writes;
      follows = λ memory. followed_next c.make_eight.new.tx memory memory memory so_far.puts.so_far.does
          (clean_at one.writes.does.says.survives) (so_far.follows memory) (one.follows memory);
    }

pub returns-in_err-make_eight : goal.returns-in_err-make_eight
returns-in_err-make_eight g c =
    let it = c.in-Some.ensures.cases in
    let parts : c.loop-eight.left.now
    ≡ c.in-Some.eight.now ++ c.in-Some.rest.now = rw (it.0, it.1) (sym (take-append-drop 8 c.loop-eight.left.now)) in
    let same = handed_on c.from_residual.result c.from_residual.ensures.1 in
    rw same (record {
      writes = writes_err
          (some_more g.met.R.NewRow.in_parts g.met.R.Change.alike c.loop-eight.invariant.puts c.in-Some.eight.now
          c.in-Some.rest.now
          parts c.in_err-make_eight.ensures.writes) (λ t so. so);
      follows = tt;
    })

pub returns-clause-writes : goal.returns-clause-writes
returns-clause-writes g c =
    all_more g.met.R.NewRow.in_parts g.met.R.Change.alike c.loop-eight.invariant.puts c.make_all.ensures.writes

pub returns-clause-follows : goal.returns-clause-follows
returns-clause-follows g c =
    let m = c.args.memory.now in
    followed_then c.make_all.new.tx m m c.make_all.new.memory c.loop-eight.invariant.puts.so_far.does
    (clean_at c.make_all.ensures.writes.does.says.survives) (c.loop-eight.invariant.follows m)
    c.make_all.result c.make_all.ensures.follows
