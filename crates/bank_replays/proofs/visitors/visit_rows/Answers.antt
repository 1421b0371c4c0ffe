-- One row more, and what ends the walk.
use Rattle.std.proofs.Common.{◌≡◌, [], Err, refl, sym, ap, subst, ◌∙◌, arith, inl}
use Rattle.bank_transactions.proofs.Blamed.{comes}
use Rattle.bank_store.specs.Failures.{HasFailedToRead}
use Rattle.bank_replays.specs.Visiting.{Bars, Why}
use Rattle.bank_replays.specs.declared.fault.ReplayFault.TheVariants.{Bank}
use Rattle.bank_replays.proofs.Visits.{visits_end, visits_more, visits_most, visits_part, visits_refused, why_refused, why_stopped}
use Rattle.bank_replays.proofs.Read.{clean_before, none_read, read_any, read_fails, read_then, step_reads}
use Rattle.bank_replays.proofs.Exits.{fails_by}
use Rattle.bank_replays.proofs.visitors.visit_rows.Goals as goal

pub rows-init : goal.rows-init
rows-init g c = record {
  reference = refl;
  bank = none_read _ _;
  fresh = c.requires.fresh;
  so_far = record {
    given = [];
    visited = g.met.P.Visitor.none_yet c.args.visitor.now c.args.target.now;
    many = refl;
    are = λ clean all has. refl;
  };
}

-- the walk failed
pub returns-in_err-row : goal.returns-in_err-row
returns-in_err-row g c =
    let it = c.rows.invariant in
    let fault = c.in_err-row.field-0.0 in
    let same : c.from_residual.result ≡ Err (Bank fault) = fails_by c.from_residual.ensures.1 in
    let step = step_reads c.next.ensures.bank in
    record {
      same_reference = c.next.ensures.bank.same_reference ∙ it.reference;
      bank = rw same (read_fails (Bank fault) (read_then it.bank step));
      visits = rw same (visits_part g.R.WalkedRow.item (g.P.Visitor.Visited c.args.visitor.now c.args.target.now c.rows.target)
          (g.P.Visitor.Part c.args.visitor.now c.args.target.now c.rows.target) (Why (Bars g.R.WalkedRow.item g.R.WalkedRow.Breaks (g.P.Visitor.Refuses c.args.visitor.now))
          (HasFailedToRead g.S.Store _ _) ⊥)
          g.R.WalkedRow.Breaks _ _ _ _ _ (λ all. []) _ (clean_before step) it.so_far c.args.most fault
          (λ is. c.in_err-row.ensures.frugal (ap Err is))
          (g.met.P.Visitor.in_part c.args.visitor.now c.args.target.now c.rows.target it.so_far.given fault
          (λ is. absurd (c.in_err-row.ensures.frugal (ap Err is))) it.so_far.visited)
          (λ clean all has.
          let there = subst (λ db. g.R.WalkedRow.HasItems db all) (sym (it.bank.still (clean_before step clean)).0) has in
          why_stopped g.R.WalkedRow.item (Bars g.R.WalkedRow.item g.R.WalkedRow.Breaks (g.P.Visitor.Refuses c.args.visitor.now))
          (HasFailedToRead g.S.Store _ _) ⊥ g.R.WalkedRow.Breaks (λ rule x breaks. inl breaks) _ _ fault
          (c.in_err-row.ensures.answers clean all there)
          (λ is. record {
            at = c.rows.walk.bank.now.conn;
            before = comes it.bank.survives;
            failed = c.in_err-row.ensures.store clean all there (ap Err is);
          })
          (λ is. it.fresh (c.next.ensures.stage.down.1 (c.in_err-row.was ∙ ap Err is)).0)));
    }

-- it ended
pub returns-in_default : goal.returns-in_default
returns-in_default g c =
    let it = c.rows.invariant in
    let step = step_reads c.in_ok-row.ensures.bank in
    record {
      same_reference = c.next.ensures.bank.same_reference ∙ it.reference;
      bank = read_any (read_then it.bank step) _;
      visits = visits_end _ (g.P.Visitor.Visited c.args.visitor.now c.args.target.now c.rows.target)
          (g.P.Visitor.Part c.args.visitor.now c.args.target.now c.rows.target) (λ coming fault. Unit {0}) g.R.WalkedRow.Breaks _ _ _ _ _ _ _
          (clean_before step) it.so_far c.args.most (omega (arith, c.rows-test.true))
          (λ clean all has. rw c.in_default.is at (c.in_ok-row.ensures.answers clean all
          (subst (λ db. g.R.WalkedRow.HasItems db all) (sym (it.bank.still (clean_before step clean)).0) has)));
    }

-- the row was refused
pub returns-in_err-visit : goal.returns-in_err-visit
returns-in_err-visit g c =
    let it = c.rows.invariant in
    let fault = c.in_err-visit.field-0.0 in
    let same : c.from_residual-in_err-visit.result ≡ Err fault = fails_by c.from_residual-in_err-visit.ensures.1 in
    let step = step_reads c.in_ok-row.ensures.bank in
    record {
      same_reference = c.next.ensures.bank.same_reference ∙ it.reference;
      bank = rw same (read_fails fault (read_any {Y = Unit {0}} (read_then it.bank step) (Err fault)));
      visits = rw same (visits_refused g.R.WalkedRow.item (g.P.Visitor.Visited c.args.visitor.now c.args.target.now c.rows.target)
          (g.P.Visitor.Part c.args.visitor.now c.args.target.now c.visit.new.target) (Why (Bars g.R.WalkedRow.item g.R.WalkedRow.Breaks (g.P.Visitor.Refuses c.args.visitor.now))
          (HasFailedToRead g.S.Store _ _) ⊥) g.R.WalkedRow.Breaks _ _ _ _ _ _ _
          (clean_before step) it.so_far c.args.most (omega (arith, c.rows-test.true)) c.in-Some.row fault
          (c.in_err-visit.ensures.part c.args.target.now it.so_far.given it.so_far.visited)
          (λ more. why_refused g.R.WalkedRow.item g.R.WalkedRow.Breaks (g.P.Visitor.Refuses c.args.visitor.now) _ _ _ fault
          c.in_err-visit.ensures.why more)
          (λ clean all has. rw c.in-Some.is at (c.in_ok-row.ensures.answers clean all
          (subst (λ db. g.R.WalkedRow.HasItems db all) (sym (it.bank.still (clean_before step clean)).0) has))));
    }

-- so many were asked for
pub returns : goal.returns
returns g c =
    let it = c.rows.invariant in
    let same : c.rows.i ≡ c.args.most = omega (arith, c.rows-test.false, c.rows.auto.i-end) in
    record {
      same_reference = it.reference;
      bank = read_any it.bank _;
      visits = rw (sym same) (visits_most _ _ (g.P.Visitor.Part c.args.visitor.now c.args.target.now c.rows.target) (λ coming fault. Unit {0})
          g.R.WalkedRow.Breaks _ _ _ _ _ (λ all. []) _ (λ clean. clean) it.so_far);
    }

pub rows-preserved : goal.rows-preserved
rows-preserved g c =
    let it = c.rows.invariant in
    let step = step_reads c.in_ok-row.ensures.bank in
    record {
      reference = c.next.ensures.bank.same_reference ∙ it.reference;
      bank = read_any (read_then it.bank step) _;
      fresh = c.in_ok-row.ensures.stage.going;
      so_far = visits_more _ _ (λ rows next fault. Unit {0}) (λ coming fault. Unit {0}) g.R.WalkedRow.Breaks _ _ _ _ _ _ _
          (clean_before step)
          it.so_far _ c.in-Some.row (c.in_ok-visit.ensures.visited c.args.target.now it.so_far.given it.so_far.visited)
          (λ clean all has. rw c.in-Some.is at (c.in_ok-row.ensures.answers clean all
          (subst (λ db. g.R.WalkedRow.HasItems db all) (sym (it.bank.still (clean_before step clean)).0) has)));
    }
