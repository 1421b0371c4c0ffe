-- Why the tables aren't made.
use Rattle.std.proofs.Common.{◌≡◌, true, rules, refl, subst, inl}
use Rattle.sqlite.specs.Held.{state}
use Rattle.bank_transactions.specs.believed.Causes.{IsBefore}
use Rattle.bank_transactions.proofs.Blamed.{comes, commit_fails, same_moment, then_moment}
use Rattle.store_rows.specs.Creation.{HasNewBank}
use Rattle.bank_store.specs.{NewBank.IsRefusedOnTheWay, OpenFaults.unmade_by}
use Rattle.posting_rules.specs.declared.open_fault.OpenFault.TheVariants.{Store}
use Rattle.bank_store.proofs.Causes.{begun_after, commit_failed, making_failed, still_clean, unmade_within}
use Rattle.bank_store.proofs.{Moved.commits_nothing, NewBank.bank_made, NewBank.leaves_new, Unmade.refused_because}
use Rattle.bank_store.proofs.Settled.{begun_survives, live, undone_begun}
use Rattle.bank_store.proofs.new_bank.make_tables.Goals as goal

pub returns-in-Err : goal.returns-in-Err
returns-in-Err g c =
    let s = state g.S.Store in
    let old = c.args.conn.now in
    let at = c.begin-tx.result.conn.now in
    let last = c.create_tables.new.tx.conn.now in
    let new = c.drop-tx.new.self.0 in
    let is = c.begin-tx.ensures.begun in
    let same : new ≡ c.conn-1.given.0 = search rules in
    let goes = live g.S.Store old at last new is in
    let begun : IsBefore (s old) (s at) = rw is (begun_after g.S.Store old true) in
    let ended = c.drop-tx.ensures.survives in
    rw (← same) (record {
      made = λ clean. tt;
      undone = λ clean.
          undone_begun g.S.Store old at last new is c.requires c.begin-tx.ensures.settled
          (c.in-Err.ensures.leaves (still_clean ended clean) goes) (c.drop-tx.ensures.undone clean);
      fault = c.unmade.ensures.fault;
      refused = λ clean taken.
          subst (λ h. IsRefusedOnTheWay (s h)) is
          (refused_because (s at) (s last) c.in-Err.e c.unmade.result c.unmade.ensures.answers
          (c.in-Err.ensures.answers (still_clean ended clean) goes) taken);
      cause =
          rw c.unmade.ensures.answers
          (unmade_within g.S.Store old at last new begun (still_clean ended) (comes ended) (unmade_by c.in-Err.e)
          (making_failed g.S.Store at last c.in-Err.e (λ clean. c.in-Err.ensures.answers clean goes)));
      survives =
          begun_survives g.S.Store old at last new is (λ _. ⊥) (HasNewBank (s old).now) (λ clean left none. absurd none)
          c.in-Err.ensures.survives ended;
      mode = c.drop-tx.ensures.ended;
    })

pub returns-in-Err-commit : goal.returns-in-Err-commit
returns-in-Err-commit g c =
    let s = state g.S.Store in
    let old = c.args.conn.now in
    let at = c.begin-tx.result.conn.now in
    let last = c.create_tables.new.tx.conn.now in
    let new = c.commit.new.tx.0 in
    let is = c.begin-tx.ensures.begun in
    let same : new ≡ c.conn-2-1.given.0 = search rules in
    let goes = live g.S.Store old at last new is in
    let begun : IsBefore (s old) (s at) = rw is (begun_after g.S.Store old true) in
    let made = c.in-Ok.ensures in
    let failed = c.in-Err-commit in
    let ended = c.commit.ensures.survives in
    rw (← same) (record {
      made = λ clean. tt;
      undone = λ clean.
          let goes_on = made.leaves (still_clean ended clean) goes in
          undone_begun g.S.Store old at last new is c.requires c.begin-tx.ensures.settled
          (commits_nothing (s at) (s last) goes_on)
          (commit_fails (s last) (s new) failed.field-0 goes_on.mode (failed.ensures.cause clean)).3;
      fault = inl refl;
      refused = λ clean taken. absurd (let it = taken in cc);
      cause =
          unmade_within g.S.Store old last new new (then_moment (s old) (s at) (s last) begun (comes made.survives))
          (λ clean. clean) (same_moment (s new)) Store
          (commit_failed g.S.Store last new failed.field-0
          (λ clean. (made.leaves (still_clean ended clean) goes).mode) failed.ensures.cause);
      survives = leaves_new g.S.Store old at last new is made.answers made.survives ended;
      mode = c.commit.ensures.ended;
    })

pub returns-in-Ok-commit : goal.returns-in-Ok-commit
returns-in-Ok-commit g c =
    let old = c.args.conn.now in
    let at = c.begin-tx.result.conn.now in
    let last = c.create_tables.new.tx.conn.now in
    let new = c.commit.new.tx.0 in
    let is = c.begin-tx.ensures.begun in
    let same : new ≡ c.conn-2-1.given.0 = search rules in
    let made = c.in-Ok.ensures in
    let done = c.in-Ok-commit.ensures in
    let ended = c.commit.ensures.survives in
    rw (← same) (record {
      made = λ clean.
          bank_made g.S.Store old at last new is made.answers (still_clean ended clean)
          (λ t shows. (done.ok clean t shows).0) (λ t shows. done.alone clean t shows) (done.same clean);
      undone = λ clean. tt;
      fault = tt;
      refused = λ clean. tt;
      cause = tt;
      survives = leaves_new g.S.Store old at last new is made.answers made.survives ended;
      mode = c.commit.ensures.ended;
    })
