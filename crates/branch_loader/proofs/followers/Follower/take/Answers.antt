-- The branches are opened, there is room, and the entry waits.
use Rattle.std.proofs.Common.{rules, ◌≡◌, ◌∙◌, ℕ, List, [], ◌∷◌, Bool, Err, refl, subst, sym}
use Rattle.std.specs.List.{AllByRecursion}
use Rattle.posting_core.specs.Entries.{IsMomentOf, answered}
use Rattle.branch_loader.specs.Following.{IsLooked, needed_by}
use Rattle.branch_loader.specs.believed.Plans.{Rows}
use Rattle.branch_loader.proofs.Following.{following_more, following_next}
use Rattle.branch_loader.proofs.followers.Follower.take.Goals as goal

pub returns-in_err-open_needed : goal.returns-in_err-open_needed
returns-in_err-open_needed g c =
    let same : c.from_residual.result ≡ Err c.in_err-open_needed.field-0.0 = search rules in
    record {
      follows = λ first rows given is it.
          rw same (c.in_err-open_needed.ensures.follows first rows given is
          (following_next g.C.Counter.seen g.C.Counter.spares g.C.Counter.reason rows first c.args.counter.now given
          (answered c.args.entry.now ∷ []) c.args.self.now.waiting c.args.self.now.looked.items it));
      plan = c.in_err-open_needed.ensures.plan;
    }

pub returns-in_err-make_room : goal.returns-in_err-make_room
returns-in_err-make_room g c =
    let same : c.from_residual-in_err-make_room.result ≡ Err c.in_err-make_room.field-0.0 = search rules in
    let opened = c.in_ok-open_needed.ensures in
    record {
      follows = λ first rows given is it.
          rw same (c.in_err-make_room.ensures.follows first rows given (answered c.args.entry.now ∷ [])
          (opened.follows first rows given is
          (following_next g.C.Counter.seen g.C.Counter.spares g.C.Counter.reason rows first c.args.counter.now given
          (answered c.args.entry.now ∷ []) c.args.self.now.waiting c.args.self.now.looked.items it)));
      plan = c.in_err-make_room.ensures.plan ∙ opened.plan;
    }

pub returns : goal.returns
returns g c =
    let opened = c.in_ok-open_needed.ensures in
    let made = c.in_ok-make_room.ensures in
    let a = answered c.args.entry.now in
    record {
      follows = λ first rows given is it.
          let same : c.make_room.new.self.looked.items ≡ c.open_needed.new.self.looked.items = rw (made.looked) refl in
          let looked = subst (λ (l : List Bool). AllByRecursion (IsLooked rows l) (needed_by a)) (sym same)
          (subst (λ (r : Rows). AllByRecursion (IsLooked r c.open_needed.new.self.looked.items) (needed_by a)) is
          opened.looked) in
          following_more g.C.Counter.seen g.C.Counter.spares g.C.Counter.reason rows first c.make_room.new.counter given
          c.make_room.new.self.waiting c.push.new.self c.make_room.new.self.looked.items a
          (made.follows first rows given (a ∷ []) (opened.follows first rows given is
          (following_next g.C.Counter.seen g.C.Counter.spares g.C.Counter.reason rows first c.args.counter.now given
          (a ∷ []) c.args.self.now.waiting c.args.self.now.looked.items it)))
          (λ entries waits. c.push.ensures.waits entries waits
          (subst (λ (m : ℕ). IsMomentOf a m) (sym made.moment) c.moment_for-moment.ensures)) c.push.ensures.posted looked;
      plan = made.plan ∙ opened.plan;
    }
