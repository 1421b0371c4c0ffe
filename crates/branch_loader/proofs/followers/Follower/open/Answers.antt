-- What came before is posted first.
use Rattle.std.proofs.Common.{rules, ◌≡◌, ◌≤◌, ◌∙◌, [], ◌∷◌, Err, inl, refl, sym, subst}
use Rattle.std.specs.Prelude.{IsSome}
use Rattle.posting_rules.specs.declared.limits.TheConstants.{LAST_BRANCH}
use Rattle.branch_loader.specs.Following.{row_of}
use Rattle.branch_loader.specs.believed.Plans.{Rows}
use Rattle.branch_loader.proofs.Following.{following_none, looks_same, unplanned_or_within}
use Rattle.branch_loader.proofs.followers.Follower.open.Goals as goal

pub returns-then-has_looked : goal.returns-then-has_looked
returns-then-has_looked g c = record {
  follows = λ first rows given a is needs it. it;
  looked = inl (c.has_looked.ensures.yes c.if-has_looked.true);
  keeps = looks_same c.args.self.now.looked.items c.args.branch;
  plan = refl;
}

pub returns-in_err-post : goal.returns-in_err-post
returns-in_err-post g c =
    let fault = c.in_err-post.field-0.0 in
    let same : c.from_residual.result ≡ Err fault = search rules in
    record {
      follows = λ first rows given a is needs it.
          rw same (c.in_err-post.ensures.follows first rows c.args.self.now.looked.items given (a ∷ []) it);
      looked = rw same tt;
      keeps = rw same tt;
      plan = c.in_err-post.ensures.plan;
    }

pub returns-in_err-open_planned : goal.returns-in_err-open_planned
returns-in_err-open_planned g c =
    let fault = c.in_err-open_planned.field-0.0 in
    let same : c.from_residual-in_err-open_planned.result ≡ Err fault = search rules in
    let looked = c.args.self.now.looked.items in
    record {
      follows = λ first rows given a is needs it.
          let posted = c.in_ok-post.ensures.follows first rows looked given (a ∷ []) it in
          rw same (c.in_err-open_planned.ensures.opens first rows looked given a (c.in_ok-post.ensures.plan ∙ is) needs
          (c.has_looked.ensures.no c.if-has_looked.false) posted.opened);
      looked = rw same tt;
      keeps = rw same tt;
      plan = c.in_ok-post.ensures.plan;
    }

pub returns : goal.returns
returns g c =
    let looked = c.args.self.now.looked.items in
    let noted = c.note.new.self.looked.items in
    let at = rw (c.in_ok-post.ensures.looked) at c.note.ensures.looked in
    let within : IsSome (row_of c.args.self.now.plan.now c.args.branch) → c.args.branch ≤ LAST_BRANCH = λ some.
    c.in_ok-open_planned.ensures.within
    (subst (λ (l : Rows). IsSome (row_of l c.args.branch)) (sym c.in_ok-post.ensures.plan) some) in
    record {
      follows = λ first rows given a is needs it.
          let posted = c.in_ok-post.ensures.follows first rows looked given (a ∷ []) it in
          rw (c.note.ensures.waiting) (following_none g.C.Counter.seen g.C.Counter.spares g.C.Counter.reason rows first
          c.open_planned.new.counter given (a ∷ []) _ noted (record {
            opened = c.in_ok-open_planned.ensures.opens first rows looked given a (c.in_ok-post.ensures.plan ∙ is) needs
                (c.has_looked.ensures.no c.if-has_looked.false) posted.opened noted at c.note.ensures.has;
            counted = posted.counted;
          }) c.in_ok-post.ensures.empty);
      looked = unplanned_or_within c.args.self.now.plan.now noted c.args.branch within c.note.ensures.has;
      keeps = at;
      plan = c.note.ensures.plan ∙ c.in_ok-post.ensures.plan;
    }
