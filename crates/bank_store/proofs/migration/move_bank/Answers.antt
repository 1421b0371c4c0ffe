-- Why the tables aren't changed, or not committed.
use Rattle.std.proofs.Common.{◌≡◌, Err, true, rules}
use Rattle.sqlite.specs.{Held.state, State.HasCleanDisk}
use Rattle.bank_transactions.specs.believed.Causes.{IsBefore}
use Rattle.bank_transactions.proofs.Blamed.{comes, commit_fails, failed_here, same_moment, then_moment}
use Rattle.posting_rules.specs.declared.open_fault.OpenFault.TheVariants.{Store}
use Rattle.store_rows.specs.believed.Failures.{Committing}
use Rattle.bank_store.specs.Migration.{HasMoved, IsUnmoved}
use Rattle.bank_store.proofs.Causes.{begun_after, known_within, still_clean}
use Rattle.bank_store.proofs.Moved.{bank_moved, commits_nothing, from_begun, stops}
use Rattle.bank_store.proofs.Settled.{begun_survives, live, undone_begun}
use Rattle.bank_store.proofs.migration.move_bank.Goals as goal

pub returns-in_err-change_tables : goal.returns-in_err-change_tables
returns-in_err-change_tables g c =
    let s = state g.S.Store in
    let old = c.args.conn.now in
    let at = c.begin-tx.result.conn.now in
    let last = c.change_tables.new.tx.conn.now in
    let new = c.drop-tx.new.self.0 in
    let is = c.begin-tx.ensures.begun in
    let same : new ≡ c.conn-1.given.0 = search rules in
    let e = c.in_err-change_tables in
    let answers : c.from_residual.result ≡ Err e.field-0.0 = search rules in
    let ended = c.drop-tx.ensures.survives in
    rw (answers, ← same) (record {
      moved = λ clean. tt;
      undone = λ clean.
          undone_begun g.S.Store old at last new is c.requires.mode c.begin-tx.ensures.settled
          (e.ensures.says.leaves (still_clean ended clean) (live g.S.Store old at last new is))
          (c.drop-tx.ensures.undone clean);
      why = λ clean.
          from_begun c.args.from g.S.Store old at last new is (λ db. IsUnmoved c.args.from db e.field-0.0)
          (e.ensures.says.answers (still_clean ended clean) (live g.S.Store old at last new is));
      call = record {
        cause =
            known_within g.S.Store old at last new (rw is (begun_after g.S.Store old true)) (still_clean ended)
            (comes ended) e.field-0.0 (e.ensures.cause (live g.S.Store old at last new is));
        mode = c.drop-tx.ensures.ended;
        survives =
            begun_survives g.S.Store old at last new is (λ _. ⊥) (HasMoved c.args.from (s old).now)
            (λ clean left none. absurd none) e.ensures.says.survives ended;
      };
    })

pub returns-in-Err : goal.returns-in-Err
returns-in-Err g c =
    let s = state g.S.Store in
    let old = c.args.conn.now in
    let at = c.begin-tx.result.conn.now in
    let last = c.change_tables.new.tx.conn.now in
    let new = c.commit.new.tx.0 in
    let is = c.begin-tx.ensures.begun in
    let same : new ≡ c.conn-2-1.given.0 = search rules in
    let changed = c.in_ok-change_tables.ensures.says in
    let begun : IsBefore (s old) (s at) = rw is (begun_after g.S.Store old true) in
    let goes_on = λ (clean : HasCleanDisk (s new)).
    changed.leaves (still_clean c.commit.ensures.survives clean) (live g.S.Store old at last new is) in
    let failed = λ (clean : HasCleanDisk (s new)).
    commit_fails (s last) (s new) c.in-Err.field-0 (goes_on clean).mode (c.in-Err.ensures.cause clean) in
    rw (← same) (record {
      moved = λ clean. tt;
      undone = λ clean.
          undone_begun g.S.Store old at last new is c.requires.mode c.begin-tx.ensures.settled
          (commits_nothing (s at) (s last) (goes_on clean)) (failed clean).3;
      why = λ clean. tt;
      call = record {
        cause =
            known_within g.S.Store old last new new (then_moment (s old) (s at) (s last) begun (comes changed.survives))
            (λ clean. clean) (same_moment (s new)) Store
            (λ clean. (c.in-Err.field-0, failed_here g.S.Store last new c.in-Err.field-0 (Committing (failed clean))));
        mode = c.commit.ensures.ended;
        survives =
            stops c.args.from g.S.Store old at last new is changed.survives c.in-Err.ensures.survives changed.answers;
      };
    })

pub returns-in-Ok : goal.returns-in-Ok
returns-in-Ok g c =
    let same : c.commit.new.tx.0 ≡ c.conn-2-1.given.0 = search rules in
    let changed = c.in_ok-change_tables.ensures.says in
    record {
      moved = rw (← same) (λ clean.
          bank_moved c.args.from g.S.Store c.args.conn.now c.begin-tx.result.conn.now
          c.change_tables.new.tx.conn.now c.commit.new.tx.0 c.begin-tx.ensures.begun changed.answers
          (still_clean c.commit.ensures.survives clean)
          (λ t shows. (c.in-Ok.ensures.ok clean t shows).0) (λ t shows. c.in-Ok.ensures.alone clean t shows)
          (c.in-Ok.ensures.same clean));
      undone = λ clean. tt;
      why = λ clean. tt;
      call = rw (← same) (record {
        cause = tt;
        mode = c.commit.ensures.ended;
        survives =
            stops c.args.from g.S.Store c.args.conn.now c.begin-tx.result.conn.now c.change_tables.new.tx.conn.now
            c.commit.new.tx.0 c.begin-tx.ensures.begun changed.survives c.in-Ok.ensures.survives changed.answers;
      });
    }
