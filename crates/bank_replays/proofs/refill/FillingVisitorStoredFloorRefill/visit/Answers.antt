-- The branch is planned with its floor.
use Rattle.std.proofs.Common.{rules, ◌≡◌, ◌∙◌, FitsSigned, refl, ap, w64}
use Rattle.std.proofs.lemmas.Int.{to_z-of_z}
use Rattle.message_records.specs.believed.Ranges.{cents_within}
use Rattle.message_records.specs.declared.limits.TheConstants.{MAX_BALANCE}
use Rattle.bank_replays.specs.Refilling.{planned_at, with_floor}
use Rattle.bank_replays.proofs.PlanRows.{plans_more, yet_same}
use Rattle.bank_replays.proofs.refill.FillingVisitorStoredFloorRefill.visit.Goals as goal

pub returns-clause-visited : goal.returns-clause-visited
returns-clause-visited g c first rows visited =
    let old = c.args.refill.now in
    let row = c.args.row in
    let fits : FitsSigned w64 row.lowest = search rules in
    let at : c.get-branch.result ≡ row.branch = c.get-branch.ensures.value in
    let there : c.planned_at.result ≡ planned_at old.planned.items row.branch =
    c.planned_at.ensures ∙ ap (λ items. planned_at items c.get-branch.result) c.deref.ensures.value
    ∙ ap (planned_at old.planned.items) at in
    plans_more (λ r. r.branch) with_floor first old _ rows row c.get-branch.result _ visited refl refl at
    (yet_same _ (planned_at old.planned.items row.branch).accounts _ (cents_within MAX_BALANCE row.lowest)
    (ap (λ yet. yet.accounts) there)
    (c.new.ensures ∙ ap (cents_within MAX_BALANCE) (to_z-of_z w64 row.lowest fits)))
    c.plan_at.ensures
