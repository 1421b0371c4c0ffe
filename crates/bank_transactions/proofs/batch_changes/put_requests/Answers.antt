-- Eight requests more are put in, and at the end those that are left.
use Rattle.std.proofs.Common.{◌≡◌, ◌++◌, [], List, Ok, arith, refl, sym, subst}
use Rattle.std.proofs.lemmas.{List.take-append-drop, Result.on_ok_weaker}
use Rattle.sqlite.specs.{Held.state, State.HasCleanDisk}
use Rattle.posting_rules.specs.declared.rows.RequestRow.{RequestRow}
use Rattle.store_rows.specs.SeveralRows.{PutsNew}
use Rattle.bank_transactions.specs.{Additions.adds_each, InTurn.requests_in_parts, InTurn.requests_in_turn}
use Rattle.bank_transactions.proofs.{Chained.does_err, Chained.still_in, Running.writes_for, Running.writes_none}
use Rattle.store_rows.specs.believed.BankTables as bank
use Rattle.bank_transactions.proofs.{Fitting.requests_apart, Remembered.followed_next, Remembered.followed_none}
use Rattle.bank_transactions.proofs.Remembered.{followed_put, followed_then}
use Rattle.bank_transactions.proofs.{Loops.all_more, Loops.some_more, Loops.stands_more, Rows.requests_added}
use Rattle.bank_transactions.proofs.NewRequests.{news_none, news_then}
use Rattle.bank_transactions.proofs.Exits.{clean_at, handed_on, survives_itself}
use Rattle.bank_transactions.proofs.batch_changes.put_requests.Goals as goal

pub loop-eight-init : goal.loop-eight-init
loop-eight-init g c = record {
  puts = record {
    front = [];
    are = refl;
    so_far = writes_for (writes_none (survives_itself _)) (λ t so. (so, requests_in_turn.none t));
  };
  unknown = λ clean live. news_none _;
  follows = λ memory. followed_none g.S.Store c.args.tx.now memory;
}

pub loop-eight-preserved : goal.loop-eight-preserved
unfolding stands_more
loop-eight-preserved g c =
    let it = c.in-Some.ensures.cases in
    let eight = c.in-Some.eight.now in
    let parts : c.loop-eight.left.now ≡ eight ++ c.in-Some.rest.now =
    rw (it.0, it.1) (sym (take-append-drop 8 c.loop-eight.left.now)) in
    let so_far = c.loop-eight.invariant in
    let one = c.in_ok-add_eight_requests.ensures in
    record {
      puts = stands_more requests_in_parts (adds_each _ _) so_far.puts eight c.in-Some.rest.now parts
          (requests_added eight one.adds);
      unknown = λ clean live.
          let mid : HasCleanDisk (state g.S.Store c.loop-eight.tx.conn.now) =
          omega (arith, one.adds.survives.clean, clean) in
          let on = (so_far.puts.so_far.does.says.leaves mid live).0 in
          news_then _ _ _ so_far.puts.front eight (so_far.unknown mid live)
          (one.unknown clean (still_in _ _ on live));
      follows = λ memory. followed_next c.add_eight_requests.new.tx memory memory memory so_far.puts.so_far.does
          (λ clean. omega (arith, one.adds.survives.clean, clean)) (so_far.follows memory)
          (followed_put g.S.Store c.loop-eight.tx c.add_eight_requests.new.tx bank.request requests_apart (Ok c.in_ok-add_eight_requests.field-0) one.lies memory);
    }

pub returns-in_err-add_eight_requests : goal.returns-in_err-add_eight_requests
returns-in_err-add_eight_requests g c =
    let it = c.in-Some.ensures.cases in
    let eight = c.in-Some.eight.now in
    let parts : c.loop-eight.left.now ≡ eight ++ c.in-Some.rest.now =
    rw (it.0, it.1) (sym (take-append-drop 8 c.loop-eight.left.now)) in
    let same = handed_on c.from_residual.result c.from_residual.ensures.1 in
    rw same (record {
      puts = does_err (some_more requests_in_parts (adds_each _ _) c.loop-eight.invariant.puts eight
          c.in-Some.rest.now parts (requests_added eight c.in_err-add_eight_requests.ensures.adds)).does (λ t so. so);
      ran = tt;
      unknown = tt;
      follows = λ memory. tt;
    })

pub returns-clause-puts : goal.returns-clause-puts
returns-clause-puts g c =
    (all_more requests_in_parts (adds_each _ _) c.loop-eight.invariant.puts c.put_singly.ensures.puts).does

pub returns-clause-ran : goal.returns-clause-ran
returns-clause-ran g c =
    (all_more requests_in_parts (adds_each _ _) c.loop-eight.invariant.puts c.put_singly.ensures.puts).ran

pub returns-clause-unknown : goal.returns-clause-unknown
returns-clause-unknown g c =
    let so_far = c.loop-eight.invariant in
    on_ok_weaker c.put_singly.result (λ one clean live.
    let mid = clean_at c.put_singly.ensures.puts.does.says.survives clean in
    let on = (so_far.puts.so_far.does.says.leaves mid live).0 in
    subst (λ (rows : List RequestRow). PutsNew (state g.S.Store c.args.tx.now.conn.now).now
    (state g.S.Store c.put_singly.new.tx.conn.now).now rows) (sym so_far.puts.are)
    (news_then _ _ _ so_far.puts.front c.loop-eight.left.now (so_far.unknown mid live)
    (one clean (still_in _ _ on live)))) c.put_singly.ensures.unknown

pub returns-clause-follows : goal.returns-clause-follows
returns-clause-follows g c memory =
    let so_far = c.loop-eight.invariant in
    followed_then c.put_singly.new.tx memory memory memory so_far.puts.so_far.does
    (clean_at c.put_singly.ensures.puts.does.says.survives) (so_far.follows memory)
    c.put_singly.result (c.put_singly.ensures.follows memory)
