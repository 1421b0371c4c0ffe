-- What the row of the bank tells.
use Rattle.std.proofs.Common.{◌≡◌, true, rules}
use Rattle.sqlite.specs.Held.{state}
use Rattle.store_rows.specs.{believed.Columns.meta_in, believed.BankTables.meta, View.HoldsRows}
use Rattle.bank_transactions.specs.believed.Causes.{IsBefore}
use Rattle.bank_transactions.proofs.Blamed.{comes}
use Rattle.bank_store.specs.OpenFaults.{unread_by}
use Rattle.bank_store.proofs.Causes.{begun_after, known_within, read_failed, still_clean}
use Rattle.bank_store.proofs.MetaRow.{other_value, read_err}
use Rattle.bank_store.proofs.Settled.{begun_survives, look_kept, undone_begun}
use Rattle.bank_store.proofs.adoption.stored_meta.Goals as goal

pub returns-in-Ok : goal.returns-in-Ok
returns-in-Ok g c =
    let s = state g.S.Store in
    let old = c.args.conn.now in
    let at = c.begin-tx.result.conn.now in
    let last = c.read_meta.new.tx.conn.now in
    let new = c.drop-tx.new.self.0 in
    let is = c.begin-tx.ensures.begun in
    let same : new ≡ c.conn-1.given.0 = search rules in
    let says = c.in-Ok.ensures.says in
    let ended = c.drop-tx.ensures.survives in
    rw (← same) (record {
      reads = record {
        answers = λ clean rows has.
            let begun : HoldsRows (s at).now meta rows = rw is has in
            (says.answers (still_clean ended clean) rows begun).0;
        fault = tt;
        other = λ clean. tt;
      };
      undone = λ clean.
          undone_begun g.S.Store old at last new is c.requires c.begin-tx.ensures.settled
          (look_kept (s at) (s last) c.read_meta.result (c.read_meta.ensures.says.leaves (still_clean ended clean)))
          (c.drop-tx.ensures.undone clean);
      looks = record {
        cause = tt;
        mode = c.drop-tx.ensures.ended;
        survives =
            begun_survives g.S.Store old at last new is (λ _. ⊥) (λ _. ⊥) (λ clean left none. none) says.survives ended;
      };
    })

pub returns : goal.returns
returns g c =
    let s = state g.S.Store in
    let old = c.args.conn.now in
    let at = c.begin-tx.result.conn.now in
    let last = c.read_meta.new.tx.conn.now in
    let new = c.drop-tx-2.new.self.0 in
    let is = c.begin-tx.ensures.begun in
    let same : new ≡ c.conn-2-1.given.0 = search rules in
    let failed = c.in-Err in
    let says = failed.ensures.says in
    let ended = c.drop-tx-2.ensures.survives in
    let begun : IsBefore (s old) (s at) = rw is (begun_after g.S.Store old true) in
    rw (← same) (record {
      reads = record {
        answers = λ clean rows has.
            let begun : HoldsRows (s at).now meta rows = rw is has in
            rw c.unread.ensures.answers
            (read_err (s at) (s last) (meta_in rows) failed.fault (says.answers (still_clean ended clean) rows begun));
        fault = c.unread.ensures.fault;
        other = λ clean.
            let answers = other_value _ failed.fault (failed.ensures.other (still_clean ended clean)) in
            rw c.unread.ensures.answers (rw is at answers);
      };
      undone = λ clean.
          undone_begun g.S.Store old at last new is c.requires c.begin-tx.ensures.settled
          (look_kept (s at) (s last) c.read_meta.result (c.read_meta.ensures.says.leaves (still_clean ended clean)))
          (c.drop-tx-2.ensures.undone clean);
      looks = record {
        cause =
            rw c.unread.ensures.answers
            (known_within g.S.Store old at last new begun (still_clean ended) (comes ended) (unread_by failed.fault)
            (read_failed g.S.Store at last failed.fault (λ clean. (says.leaves clean).1)));
        mode = c.drop-tx-2.ensures.ended;
        survives =
            begun_survives g.S.Store old at last new is (λ _. ⊥) (λ _. ⊥) (λ clean left none. none) says.survives ended;
      };
    })
