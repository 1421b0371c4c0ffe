-- The requests of a batch are written, and then the rest.
use Rattle.posting_batch.specs.View.{view}
use Rattle.bank_transactions.proofs.{Chained.does_err, Remembered.counts_after, Remembered.followed_then}
use Rattle.bank_transactions.proofs.Together.{all_written, requests_first}
use Rattle.bank_transactions.proofs.Together.{all_ran, requests_ran}
use Rattle.bank_transactions.proofs.Exits.{clean_at, handed_on}
use Rattle.bank_transactions.proofs.batch_changes.write.Goals as goal

pub returns-in_err-put_requests : goal.returns-in_err-put_requests
returns-in_err-put_requests g c =
    let same = handed_on c.from_residual.result c.from_residual.ensures.1 in
    rw same (record {
      does = does_err
          (requests_first (view c.args.overlay.now) c.deref.ensures c.in_err-put_requests.ensures.puts) (λ t so. so);
      ran = tt;
      counts = tt;
      follows = tt;
    })

pub returns-clause-does : goal.returns-clause-does
returns-clause-does g c =
    let o = view c.args.overlay.now in
    all_written o (requests_first o c.deref.ensures c.in_ok-put_requests.ensures.puts) c.write_after.ensures.does

pub returns-clause-ran : goal.returns-clause-ran
returns-clause-ran g c =
    let o = view c.args.overlay.now in
    let puts = c.in_ok-put_requests.ensures in
    let rest = c.write_after.ensures in
    (all_ran o (requests_ran o c.deref.ensures (record { does = puts.puts; ran = puts.ran }))
    (record { does = rest.does; ran = rest.ran })).ran

pub returns-clause-counts : goal.returns-clause-counts
returns-clause-counts g c =
    counts_after c.args.overlay.now.decided (requests_first (view c.args.overlay.now) c.deref.ensures c.in_ok-put_requests.ensures.puts)
    c.write_after.ensures.does c.write_after.ensures.counts

pub returns-clause-follows : goal.returns-clause-follows
returns-clause-follows g c =
    let m = c.args.memory.now in
    followed_then c.write_after.new.tx m m c.write_after.new.memory
    (requests_first (view c.args.overlay.now) c.deref.ensures c.in_ok-put_requests.ensures.puts)
    (clean_at c.write_after.ensures.does.says.survives) (c.in_ok-put_requests.ensures.follows m)
    c.write_after.result c.write_after.ensures.follows
