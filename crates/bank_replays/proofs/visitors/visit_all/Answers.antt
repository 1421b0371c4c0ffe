-- Fewer rows than the most are all.
use Rattle.std.proofs.Common.{◌≡◌, ◌-◌, ◌^◌, Err, refl, arith}
use Rattle.std.specs.Prelude.{⊤}
use Rattle.bank_store.specs.Failures.{HasFailedToRead}
use Rattle.bank_replays.specs.Visiting.{Bars, Why}
use Rattle.posting_rules.specs.declared.fault.Fault.TheVariants.{Memory}
use Rattle.bank_replays.specs.declared.fault.ReplayFault.TheVariants.{Bank}
use Rattle.bank_replays.proofs.{Visits.all_visited, Visits.part_visited, Visits.some_visited, Read.read_any, Read.read_fails}
use Rattle.bank_replays.proofs.Whys.{why_err, why_memory, why_none}
use Rattle.bank_replays.proofs.Exits.{fails_by}
use Rattle.bank_replays.proofs.visitors.visit_all.Goals as goal

pub returns-in_err-count : goal.returns-in_err-count
returns-in_err-count g c =
    let fault = c.in_err-count.field-0.0 in
    let same : c.from_residual.result ≡ Err fault = fails_by c.from_residual.ensures.1 in
    record {
      bank = rw same (read_fails fault c.in_err-count.ensures.bank);
      visits = rw same (some_visited g.R.WalkedRow.item (g.P.Visitor.Visited c.args.visitor.now c.args.target.now c.visit_first.new.target)
          (g.P.Visitor.Part c.args.visitor.now c.args.target.now c.visit_first.new.target) (Why (Bars g.R.WalkedRow.item g.R.WalkedRow.Breaks (g.P.Visitor.Refuses c.args.visitor.now))
          (HasFailedToRead g.S.Store _ _) _) _ _ _ fault
          c.in_err-count.ensures.visits);
      why = rw same (why_err fault fault refl c.in_err-count.ensures.why);
    }

pub returns-then-count : goal.returns-then-count
returns-then-count g c =
    let it = c.in_ok-count.ensures.visits in
    record {
      bank = read_any c.in_ok-count.ensures.bank _;
      visits = part_visited _ _ (g.P.Visitor.Part c.args.visitor.now c.args.target.now c.visit_first.new.target) (λ coming fault. ⊤) _ _
          (2 ^ 64 - 1) _ it (Bank Memory)
          (g.met.P.Visitor.in_part c.args.visitor.now c.args.target.now c.visit_first.new.target it.0 Memory
          (λ is. omega (arith, it.2, c.if-count.true)) it.1) (λ more. tt);
      why = why_memory (Bank Memory) refl;
    }

pub returns : goal.returns
returns g c = record {
  bank = read_any c.in_ok-count.ensures.bank _;
  visits = all_visited _ _ (g.P.Visitor.Part c.args.visitor.now c.args.target.now c.visit_first.new.target) (λ coming fault. ⊤) _ _ _ _
      c.in_ok-count.ensures.visits c.if-count.false;
  why = why_none tt;
}
