-- The branch is planned with its accounts.
use Rattle.std.proofs.Common.{◌≡◌, ◌∙◌, refl, ap}
use Rattle.bank_replays.specs.Refilling.{planned_at, with_accounts}
use Rattle.bank_replays.proofs.PlanRows.{plans_more, yet_same}
use Rattle.bank_replays.proofs.refill.FillingVisitorStoredBranchRefill.visit.Goals as goal

pub returns-clause-visited : goal.returns-clause-visited
returns-clause-visited g c first rows visited =
    let old = c.args.refill.now in
    let row = c.args.row in
    let at : c.get-branch.result ≡ row.branch = c.get-branch.ensures.value in
    let there : c.planned_at.result ≡ planned_at old.planned.items row.branch =
    c.planned_at.ensures ∙ ap (λ items. planned_at items c.get-branch.result) c.deref.ensures.value
    ∙ ap (planned_at old.planned.items) at in
    plans_more (λ r. r.branch) with_accounts first old _ rows row c.get-branch.result _ visited refl refl at
    (yet_same _ row.accounts _ (planned_at old.planned.items row.branch).floor c.get.ensures.value
    (ap (λ yet. yet.floor) there))
    c.plan_at.ensures
