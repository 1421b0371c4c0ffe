-- The transaction has one part, which reads.
use Rattle.std.proofs.Common.{◌≡◌, rules}
use Rattle.store_rows.specs.believed.Rules.{OfRows}
use Rattle.bank_transactions.specs.believed.Stored.{HoldsDecided}
use Rattle.bank_transactions.proofs.{LookUps.does_read, Transacted.commits_read, Transacted.consults, Transacted.undoes}
use Rattle.bank_store.proofs.KeptRead.{read_before, read_leaves}
use Rattle.bank_store.proofs.entries.count_decided.Goals as goal

pub begin-tx-requires : goal.begin-tx-requires
begin-tx-requires g c = c.requires

pub returns : goal.returns
returns g c =
    let old = c.args.conn.now in
    let begun = c.begin-tx.result in
    let last = c.decided-count.new.tx in
    let end = c.finish.new.tx.0 in
    let new = c.conn-1.given.0 in
    let is = c.begin-tx.ensures.begun in
    let settled = c.begin-tx.ensures.settled in
    let reads = c.decided-count.ensures.says in
    let ends = c.finish.ensures in
    let same : end ≡ new = search rules in
    record {
      says = consults g.S.Store old begun last end new is settled reads ends same;
      stored =
          read_before g.S.Store old begun last end new is ends same
          (λ n db. OfRows (λ rows. HoldsDecided rows n) db) c.decided-count.ensures.stored;
      still = read_leaves g.S.Store old begun last end new is ends same reads;
      left = commits_read g.S.Store old begun last end new is reads ends same;
      undone =
          undoes {Adds = λ text values. ⊥} g.S.Store old begun last end new is settled (does_read reads) ends same;
    }
