-- An opening as the plan has it is one command more, and no entry.
use Rattle.std.proofs.Common.{rules, arith, ◌≡◌, ◌≤◌, [], ◌∷◌, ℕ, List, Err, Some, Option, true, refl, sym, ap, subst}
use Rattle.std.proofs.Common.{◌∙◌, append-nil}
use Rattle.std.specs.{List.slice_get, Prelude.Contains, Prelude.option_map}
use Rattle.posting_core.specs.believed.LogEntries.{AnsweredRequest}
use Rattle.posting_rules.specs.believed.Commands.{Open, Terms}
use Rattle.posting_rules.specs.declared.limits.TheConstants.{LAST_BRANCH}
use Rattle.posting_rules.proofs.ByCommands.{opening_taken}
use Rattle.branch_loader.specs.Following.{LooksAt, OpensFirst, needed_by, opened_by, planned, row_of}
use Rattle.branch_loader.specs.Plans.{IsRow, terms_of}
use Rattle.branch_loader.specs.believed.Plans.{Row, Rows}
use Rattle.branch_loader.specs.declared.follow_fault.FollowFault.TheVariants.{Bank}
use Rattle.branch_loader.proofs.Following.{followed_more, followed_same, looks_at, looks_past, none_is_not, refused_then, stops_same}
use Rattle.branch_loader.proofs.followers.open_planned.Goals as goal

-- its row is in range
within_so : (rows : Rows) (b : ℕ) (p : Row) → p.0 ≡ b → IsRow p → b ≤ LAST_BRANCH
within_so rows b p named is = omega (arith, named, is.1)

-- an opening for the next entry
opens_next : (rows : Rows) (opened : List ℕ) (a : AnsweredRequest) (branch b : ℕ) (terms : Terms) → b ≡ branch
    → Contains (needed_by a) branch → (Contains opened branch → ⊥)
    → OpensFirst rows opened (a ∷ []) (Open b terms ∷ [])
opens_next rows opened a branch b terms named needs new = (
  subst (λ (n : ℕ). Contains (needed_by a) n) (sym named) needs,
  λ has. new (subst (λ (n : ℕ). Contains opened n) named has),
  tt,
)

planned_so : (rows : Rows) (b : ℕ) (p : Row) → Some p ≡ row_of rows b → p.0 ≡ b → planned rows p.0 ≡ Some (terms_of p)
planned_so rows b p is named =
    ap (λ (n : ℕ). planned rows n) named
    ∙ ap (λ (x : Option Row). option_map terms_of x) (sym is)

pub returns-in_err-open_branch-clause-opens : goal.returns-in_err-open_branch-clause-opens
returns-in_err-open_branch-clause-opens g c first rows looked done a is needs new it =
    let fault = c.in_err-open_branch.field-0.0 in
    let same : c.from_residual.result ≡ Err (Bank fault) = search rules in
    rw same (stops_same g.C.Counter.seen g.C.Counter.spares g.C.Counter.reason rows first
    c.open_branch.new.self done (a ∷ []) _ (Bank fault) (append-nil done)
    (refused_then g.C.Counter.seen g.C.Counter.spares rows first c.args.counter.now c.open_branch.new.self
    (g.met.C.Counter.spares_then first c.args.counter.now c.open_branch.new.self) done [] (a ∷ []) it.followed _ (
      planned_so rows c.args.branch c.in-Some.row
          (sym c.in-Some.is ∙ c.row_of.ensures.value ∙ ap (λ (l : Rows). row_of l c.args.branch) is) c.in-Some.ensures.named,
      refl,
    ) (opens_next rows (opened_by it.followed.commands) a c.args.branch c.in-Some.row.0
    (terms_of c.in-Some.row) c.in-Some.ensures.named needs
    (λ has. new (it.looks.noted c.args.branch has)))
    g.C.Counter.contents g.C.Counter.reason fault c.in_err-open_branch.ensures.call
    c.in_err-open_branch.ensures.spares))

pub returns-clause-opens : goal.returns-clause-opens
returns-clause-opens g c first rows looked done a is needs new it looked' at marked =
    followed_same g.C.Counter.seen g.C.Counter.spares g.C.Counter.reason rows first
    c.open_branch.new.self done (a ∷ []) looked' done [] (append-nil done)
    (followed_more g.C.Counter.seen g.C.Counter.spares rows first c.args.counter.now c.open_branch.new.self
    (g.met.C.Counter.spares_then first c.args.counter.now c.open_branch.new.self) done [] (a ∷ []) it.followed _ (
      planned_so rows c.args.branch c.in-Some.row
          (sym c.in-Some.is ∙ c.row_of.ensures.value ∙ ap (λ (l : Rows). row_of l c.args.branch) is) c.in-Some.ensures.named,
      refl,
    ) (opens_next rows (opened_by it.followed.commands) a c.args.branch c.in-Some.row.0
    (terms_of c.in-Some.row) c.in-Some.ensures.named needs
    (λ has. new (it.looks.noted c.args.branch has)))
    g.C.Counter.contents g.C.Counter.reason _ c.in_ok-open_branch.ensures.call c.in_ok-open_branch.ensures.spares
    (opening_taken _ _ c.in-Some.row.0 (terms_of c.in-Some.row) _ c.in-Some.ensures.within.0 c.in-Some.ensures.within.1
    c.in-Some.ensures.within.3 c.in_ok-open_branch.ensures.by_tables) looked'
    (looks_at rows looked looked' c.in-Some.row.0 (opened_by it.followed.commands)
    (subst (LooksAt looked looked') (sym c.in-Some.ensures.named) at)
    (subst (λ (n : ℕ). slice_get looked' n ≡ Some true) (sym c.in-Some.ensures.named)
    (marked (within_so c.args.plan.now c.args.branch c.in-Some.row c.in-Some.ensures.named c.in-Some.ensures.within)))
    it.looks)
    (λ h log shows. refl) (λ h t room there. refl))

-- the plan hasn't it
pub returns-in_default-clause-opens : goal.returns-in_default-clause-opens
returns-in_default-clause-opens g c first rows looked done a is needs new it looked' at marked = record {
  followed = it.followed;
  looks = looks_past rows looked looked' c.args.branch (opened_by it.followed.commands) at
      (sym (ap (λ (l : Rows). row_of l c.args.branch) is) ∙ sym c.row_of.ensures.value ∙ c.in_default.is) it.looks;
}

pub returns-in_err-open_branch-clause-within : goal.returns-in_err-open_branch-clause-within
returns-in_err-open_branch-clause-within g c some =
    within_so c.args.plan.now c.args.branch c.in-Some.row c.in-Some.ensures.named c.in-Some.ensures.within

pub returns-clause-within : goal.returns-clause-within
returns-clause-within g c some =
    within_so c.args.plan.now c.args.branch c.in-Some.row c.in-Some.ensures.named c.in-Some.ensures.within

pub returns-in_default-clause-within : goal.returns-in_default-clause-within
returns-in_default-clause-within g c some =
    none_is_not (row_of c.args.plan.now c.args.branch) (sym c.row_of.ensures.value ∙ c.in_default.is) some
