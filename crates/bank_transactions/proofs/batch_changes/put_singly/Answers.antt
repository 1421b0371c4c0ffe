-- One request more is put in.
use Rattle.std.proofs.Common.{◌≡◌, ◌<◌, ◌+◌, ◌++◌, [], ◌∷◌, List, Ok, take, length, arith, ◌∙◌, subst}
use Rattle.std.proofs.Common.{sym, ap}
use Rattle.std.proofs.{lemmas.List.take_more, Math.Seq.take-length}
use Rattle.sqlite.specs.{Held.state, State.HasCleanDisk}
use Rattle.posting_rules.specs.declared.rows.RequestRow.{RequestRow}
use Rattle.posting_batch.specs.Overlay.{requests_put}
use Rattle.store_rows.specs.SeveralRows.{PutsNew}
use Rattle.bank_transactions.specs.{Additions.adds_each, InTurn.requests_in_turn, Writing.MayAddRequests}
use Rattle.bank_transactions.proofs.{Chained.still_in, Running.writes_err, Running.writes_for, Running.writes_none}
use Rattle.store_rows.specs.believed.BankTables as bank
use Rattle.bank_transactions.proofs.{Fitting.requests_apart, Remembered.followed_next, Remembered.followed_none}
use Rattle.bank_transactions.proofs.Remembered.{followed_put}
use Rattle.bank_transactions.proofs.{Loops.make_more, Rows.request_added}
use Rattle.bank_transactions.proofs.NewRequests.{news_none, news_then}
use Rattle.bank_transactions.proofs.Exits.{handed_on, survives_itself}
use Rattle.bank_transactions.proofs.batch_changes.put_singly.Goals as goal

pub loop-row-init : goal.loop-row-init
loop-row-init g c = record {
  puts = writes_for (writes_none (survives_itself _)) (λ t so. (so, requests_in_turn.none t));
  unknown = λ clean live. news_none _;
  follows = λ memory. followed_none g.S.Store c.args.tx.now memory;
}

pub loop-row-preserved : goal.loop-row-preserved
loop-row-preserved g c =
    let xs = c.args.rows.now in
    let i = c.loop-row.row-index in
    let x = c.row-item.result in
    let lt : i < length xs = omega arith in
    let so_far = c.loop-row.invariant in
    let one = c.in_ok-add_request.ensures in
    let more : take (i + 1) xs ≡ take i xs ++ x ∷ [] =
    take_more xs i x lt ∙ ap (λ (r : RequestRow). take i xs ++ r ∷ []) (sym c.row-item.is) in
    record {
      puts = make_more requests_put MayAddRequests requests_in_turn (adds_each _ _) xs i x lt c.row-item.is
          so_far.puts (request_added x one.adds);
      unknown = λ clean live.
          let mid : HasCleanDisk (state g.S.Store c.loop-row.tx.conn.now) =
          omega (arith, one.adds.survives.clean, clean) in
          let on = (so_far.puts.does.says.leaves mid live).0 in
          subst (λ (rows : List RequestRow). PutsNew (state g.S.Store c.args.tx.now.conn.now).now
          (state g.S.Store c.add_request.new.tx.conn.now).now rows) (sym more)
          (news_then _ _ _ (take i xs) (x ∷ []) (so_far.unknown mid live)
          (one.unknown clean (still_in _ _ on live)));
      follows = λ memory. followed_next c.add_request.new.tx memory memory memory so_far.puts.does
          (λ clean. omega (arith, one.adds.survives.clean, clean)) (so_far.follows memory)
          (followed_put g.S.Store c.loop-row.tx c.add_request.new.tx bank.request requests_apart (Ok c.in_ok-add_request.field-0) one.lies memory);
    }

pub returns-in_err-add_request : goal.returns-in_err-add_request
returns-in_err-add_request g c =
    let same = handed_on c.from_residual.result c.from_residual.ensures.1 in
    let xs = c.args.rows.now in
    let i = c.loop-row.row-index in
    let x = c.row-item.result in
    let lt : i < length xs = omega arith in
    rw same (record {
      puts = writes_err (make_more requests_put MayAddRequests requests_in_turn (adds_each _ _) xs i x lt
          c.row-item.is c.loop-row.invariant.puts (request_added x c.in_err-add_request.ensures.adds)) (λ t so. so);
      unknown = tt;
      follows = λ memory. tt;
    })

pub returns-clause-puts : goal.returns-clause-puts
returns-clause-puts g c =
    let xs = c.args.rows.now in
    let at_end : take c.loop-row.row-index xs
    ≡ xs = (let e : c.loop-row.row-index ≡ length xs = omega arith in rw e (take-length xs)) in
    writes_for c.loop-row.invariant.puts (λ t so. (so, ap (λ ys. requests_put ys t) at_end))

pub returns-clause-unknown : goal.returns-clause-unknown
returns-clause-unknown g c clean live =
    let xs = c.args.rows.now in
    let at_end : take c.loop-row.row-index xs
    ≡ xs = (let e : c.loop-row.row-index ≡ length xs = omega arith in rw e (take-length xs)) in
    subst (λ (rows : List RequestRow). PutsNew (state g.S.Store c.args.tx.now.conn.now).now
    (state g.S.Store c.loop-row.tx.conn.now).now rows) at_end (c.loop-row.invariant.unknown clean live)

pub returns-clause-follows : goal.returns-clause-follows
returns-clause-follows g c = c.loop-row.invariant.follows
