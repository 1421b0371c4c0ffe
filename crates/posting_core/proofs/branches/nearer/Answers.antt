use Rattle.std.proofs.Common.{◌≤◌, ◌++◌, ◌∷◌, [], subst, sym}
use Rattle.posting_rules.specs.Branches.{IsNextIn}
use Rattle.posting_core.proofs.NextBranch.{lower_passed, first_found, nearer_found, farther_passed}
use Rattle.posting_core.proofs.branches.nearer.Goals as goal

pub returns-then-get-from : goal.returns-then-get-from
returns-then-get-from c rows = lower_passed rows c.args.after c.args.next c.args.row
    (rw (← c.get.ensures.value, ← c.from.ensures) c.if-get-from.true)

pub returns-in_default : goal.returns-in_default
returns-in_default c rows is = first_found rows c.args.after c.args.row
    (rw (← c.get.ensures.value, ← c.from.ensures) c.if-get-from.false)
    (subst (IsNextIn rows c.args.after) c.in_default.is is)

pub returns-then-get : goal.returns-then-get
returns-then-get c rows is = nearer_found rows c.args.after c.in-Some.found c.args.row
    (rw (← c.get.ensures.value, ← c.from.ensures) c.if-get-from.false)
    (rw (← c.get-2.ensures.value, ← c.get-3.ensures.value) c.if-get.true)
    (subst (IsNextIn rows c.args.after) c.in-Some.is is)

pub returns : goal.returns
returns c rows is =
    let far : c.in-Some.found.branch ≤ c.args.row.branch = rw (← c.get-2.ensures.value, ← c.get-3.ensures.value) c.if-get.false in
    subst (λ next. IsNextIn (rows ++ c.args.row ∷ []) c.args.after next) (sym c.in-Some.is)
    (farther_passed rows c.args.after c.in-Some.found c.args.row far (subst (IsNextIn rows c.args.after) c.in-Some.is is))
