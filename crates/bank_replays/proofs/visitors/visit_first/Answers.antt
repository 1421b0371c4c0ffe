-- There is room for the walk, and what was told of its rows to come is told of all rows of the bank.
use Rattle.std.proofs.Common.{rules, ◌≡◌, [], Err}
use Rattle.bank_store.specs.{Failures.HasFailedToRead, believed.Seen.bank_seen}
use Rattle.bank_store.proofs.RoomForWalks.{walk_fits}
use Rattle.bank_replays.specs.declared.fault.ReplayFault.TheVariants.{Bank}
use Rattle.bank_replays.specs.Visiting.{Bars, Why}
use Rattle.bank_replays.proofs.{Begun.visits_of_all, Visits.visits_down, Visits.not_memory, Whys.visited_why}
use Rattle.bank_replays.proofs.Exits.{fails_by}
use Rattle.bank_replays.proofs.visitors.visit_first.Goals as goal

pub each_row-requires : goal.each_row-requires
each_row-requires g c = walk_fits g.row.R g.met.R.SmallRow.few_bytes

pub visit_rows-requires : goal.visit_rows-requires
visit_rows-requires g c = (walk_fits g.row.R g.met.R.SmallRow.few_bytes, c.in_ok-walk.ensures.begins.fresh)

pub drop-walk-requires : goal.drop-walk-requires
drop-walk-requires g c = walk_fits g.row.R g.met.R.SmallRow.few_bytes

pub returns-clause-visits : goal.returns-clause-visits
returns-clause-visits g c =
    visits_of_all c.in_ok-walk.ensures.begins _ (search rules)
    (g.P.Visitor.Visited c.args.visitor.now c.args.target.now c.visit_rows.new.target)
    (g.P.Visitor.Part c.args.visitor.now c.args.target.now c.visit_rows.new.target)
    (bank_seen g.S.Store c.args.bank.now).is_down c.args.most c.visit_rows.result
    c.visit_rows.ensures.visits (λ late. search rules)

pub returns-clause-why : goal.returns-clause-why
returns-clause-why g c =
    visited_why _ _ g.R.WalkedRow.item (Bars g.R.WalkedRow.item g.R.WalkedRow.Breaks (g.P.Visitor.Refuses c.args.visitor.now))
    (g.P.Visitor.Visited c.args.visitor.now c.args.target.now c.visit_rows.new.target)
    (g.P.Visitor.Part c.args.visitor.now c.args.target.now c.visit_rows.new.target) g.R.WalkedRow.HasItems
    (g.met.P.Visitor.held c.args.visitor.now) c.args.most c.visit_rows.result (returns-clause-visits g c)

-- the bank was down
pub returns-in_err-walk-clause-visits : goal.returns-in_err-walk-clause-visits
returns-in_err-walk-clause-visits g c =
    let fault = c.in_err-walk.field-0.0 in
    let same : c.from_residual.result ≡ Err (Bank fault) = fails_by c.from_residual.ensures.1 in
    let down = c.in_err-walk.ensures.begins.fault in
    rw same (visits_down g.R.WalkedRow.item (g.P.Visitor.Visited c.args.visitor.now c.args.target.now c.args.target.now)
    (g.P.Visitor.Part c.args.visitor.now c.args.target.now c.args.target.now)
    (Why (Bars g.R.WalkedRow.item g.R.WalkedRow.Breaks (g.P.Visitor.Refuses c.args.visitor.now))
    (HasFailedToRead g.S.Store _ _) (bank_seen g.S.Store c.args.bank.now).is_down) _ _ c.args.most fault down.0
    (g.met.P.Visitor.in_part c.args.visitor.now c.args.target.now c.args.target.now [] fault
    (λ is. absurd (not_memory fault down.0 is)) (g.met.P.Visitor.none_yet c.args.visitor.now c.args.target.now))
    (λ coming. down.1))

pub returns-in_err-walk-clause-why : goal.returns-in_err-walk-clause-why
returns-in_err-walk-clause-why g c =
    let same : c.from_residual.result ≡ Err (Bank c.in_err-walk.field-0.0) = fails_by c.from_residual.ensures.1 in
    let down = c.in_err-walk.ensures.begins.fault in
    record { answers = λ clean f has. rw (same, down.0) down.1 }
