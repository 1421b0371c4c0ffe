use Rattle.std.proofs.Common.{◌≡◌, [], None, refl, sym, subst, ◌∙◌, inl, inr}
use Rattle.std.proofs.lemmas.Result.{err_from_is_err_and}
use Rattle.posting_rules.specs.{Branches.IsLineAbove, Branches.IsNextBranch, believed.Counter.Refuses}
use Rattle.branch_loader.specs.believed.Plans.{Rows}
use Rattle.posting_rules.specs.declared.fault.Fault.{Fault, TheVariants.Memory}
use Rattle.posting_rules.proofs.CounterCalls.{Takes-append, call_idle_after, call_refused_after}
use Rattle.posting_core.proofs.ByTables.{stays_then}
use Rattle.load_driver.proofs.Listed.{Listing, listing_first, listing_more, listing_all}
use Rattle.load_driver.proofs.open_branches.list_branches.Goals as goal

pub loop-rows-init : goal.loop-rows-init
loop-rows-init g c = record {
  listing = subst (λ (rows : Rows). Listing g.C.Counter.seen c.args.counter.now c.args.counter.now rows 0)
      (sym c.new-rows.ensures.items) (listing_first g.C.Counter.seen c.args.counter.now);
  spares = g.met.C.Counter.spares_itself c.args.counter.now;
}

pub loop-rows-preserved : goal.loop-rows-preserved
loop-rows-preserved g c =
    let line = c.in-Some.line in
    let above : IsLineAbove c.loop-rows.after line = rw c.in-Some.is at c.in_ok-line.ensures.within in
    record {
      listing = rw (c.in_ok-push.ensures.items, c.get-after.ensures.value)
          (listing_more g.C.Counter.seen c.args.counter.now c.loop-rows.counter c.next_branch.new.self
          c.loop-rows.rows.items c.loop-rows.after line c.loop-rows.invariant.listing above
          c.in_ok-line.ensures.call.done
          (λ h log s. rw c.in-Some.is at (c.in_ok-line.ensures.answer h log s))
          (λ down. cc (c.in_ok-line.ensures.call.down down)) c.in_ok-line.ensures.call.up
          c.in_ok-line.ensures.call.honest c.in_ok-line.ensures.by_tables);
      spares = g.met.C.Counter.spares_then c.args.counter.now c.loop-rows.counter c.next_branch.new.self
          c.loop-rows.invariant.spares c.in_ok-line.ensures.spares;
    }

-- its own memory was refused: the counter stands as it stood
pub returns-in_err-push-clause-fault : goal.returns-in_err-push-clause-fault
returns-in_err-push-clause-fault g c =
    let seen = g.C.Counter.seen in
    let p = err_from_is_err_and c.from_residual-in_err-push.result c.from_residual-in_err-push.ensures.1 in
    let takes = Takes-append (seen c.args.counter.now) (seen c.loop-rows.counter)
    (seen c.next_branch.new.self) [] []
    c.loop-rows.invariant.listing.takes c.in_ok-line.ensures.call.done c.in_ok-line.ensures.call.honest in
    rw (p.1, p.2) (record {
      stood = c.next_branch.new.self;
      honest_first = λ h. c.loop-rows.invariant.listing.honest (c.in_ok-line.ensures.call.honest h);
      honest = λ h. h;
      takes = takes;
      by_tables = stays_then (seen c.args.counter.now) (seen c.loop-rows.counter) (seen c.next_branch.new.self)
          c.in_ok-line.ensures.call.honest c.loop-rows.invariant.listing.by_tables c.in_ok-line.ensures.by_tables;
      refuses = record { tables = λ t h. h; down = λ d. d; left = λ remains left. (remains, left, λ t h. h) };
      idle = call_idle_after seen c.args.counter.now c.loop-rows.counter c.loop-rows.invariant.listing.idle
          g.C.Counter.contents g.C.Counter.reason c.next_branch.new.self _ _ c.next_branch.ensures.call;
    })

pub returns-in_err-line-clause-fault : goal.returns-in_err-line-clause-fault
returns-in_err-line-clause-fault g c =
    let p = err_from_is_err_and c.from_residual.result c.from_residual.ensures.1 in
    rw (p.1, p.2) (record {
      stood = c.loop-rows.counter;
      honest_first = c.loop-rows.invariant.listing.honest;
      honest = c.in_err-line.ensures.call.honest;
      takes = c.loop-rows.invariant.listing.takes;
      by_tables = c.loop-rows.invariant.listing.by_tables;
      refuses = c.in_err-line.ensures.call.fault;
      idle = call_idle_after g.C.Counter.seen c.args.counter.now c.loop-rows.counter
          c.loop-rows.invariant.listing.idle g.C.Counter.contents g.C.Counter.reason c.next_branch.new.self _ _
          c.next_branch.ensures.call;
    })

pub returns-clause-listed : goal.returns-clause-listed
returns-clause-listed g c h log s =
    let seen = g.C.Counter.seen in
    let l = c.loop-rows.invariant.listing in
    let before = c.in_ok-line.ensures.call.honest h in
    let none : IsNextBranch log c.loop-rows.after None =
    subst (IsNextBranch log c.loop-rows.after) c.in_default.is
    (c.in_ok-line.ensures.answer h log (l.takes.shows before log s)) in
    let plan : c.loop-rows.rows.items ≡ c.unwrap.result = (let e = sym l.plan ∙ sym c.from_list.ensures
    ∙ c.unwrap.ensures in cc) in
    sym plan ∙ listing_all seen c.args.counter.now c.loop-rows.counter c.loop-rows.rows.items
    c.loop-rows.after log l none before s

pub returns-clause-done : goal.returns-clause-done
returns-clause-done g c =
    let seen = g.C.Counter.seen in
    let call = c.in_ok-line.ensures.call in
    record {
      takes = Takes-append (seen c.args.counter.now) (seen c.loop-rows.counter) (seen c.next_branch.new.self) [] []
          c.loop-rows.invariant.listing.takes call.done call.honest;
      by_tables = stays_then (seen c.args.counter.now) (seen c.loop-rows.counter) (seen c.next_branch.new.self)
          call.honest c.loop-rows.invariant.listing.by_tables c.in_ok-line.ensures.by_tables;
      up = call.up;
      honest = λ h. c.loop-rows.invariant.listing.honest (call.honest h);
    }

pub returns-in_err-push-clause-spared : goal.returns-in_err-push-clause-spared
returns-in_err-push-clause-spared g c is down = absurd (c.in_ok-line.ensures.call.up down)

pub returns-in_err-line-clause-spared : goal.returns-in_err-line-clause-spared
returns-in_err-line-clause-spared g c is down =
    let p = err_from_is_err_and c.from_residual.result c.from_residual.ensures.1 in
    let memory : c.in_err-line.field-0.0 ≡ Memory = (let e = sym p.1 ∙ is in let f = p.2 in cc) in
    c.loop-rows.invariant.listing.up
    ((subst (λ (f : Fault). Refuses f (g.C.Counter.seen c.loop-rows.counter)
    (g.C.Counter.seen c.next_branch.new.self) []) memory c.in_err-line.ensures.call.fault).down down)

-- its own memory is no call's fault
pub returns-in_err-push-clause-why : goal.returns-in_err-push-clause-why
returns-in_err-push-clause-why g c =
    let p = err_from_is_err_and c.from_residual-in_err-push.result c.from_residual-in_err-push.ensures.1 in
    rw (p.1, p.2) (inr (refl, c.in_ok-line.ensures.call.up))

pub returns-in_err-line-clause-why : goal.returns-in_err-line-clause-why
returns-in_err-line-clause-why g c =
    let p = err_from_is_err_and c.from_residual.result c.from_residual.ensures.1 in
    rw (p.1, p.2)
    (inl (call_refused_after g.C.Counter.seen g.C.Counter.reason c.args.counter.now c.loop-rows.counter
    c.next_branch.new.self [] c.loop-rows.invariant.listing.takes c.loop-rows.invariant.listing.honest
    c.loop-rows.invariant.listing.idle c.in_err-line.field-0.0 g.C.Counter.contents _ c.in_err-line.ensures.call))

-- what no call of the counter touches
pub returns-in_err-push-clause-spares : goal.returns-in_err-push-clause-spares
returns-in_err-push-clause-spares g c =
    g.met.C.Counter.spares_then c.args.counter.now c.loop-rows.counter c.next_branch.new.self
    c.loop-rows.invariant.spares c.in_ok-line.ensures.spares

pub returns-in_err-line-clause-spares : goal.returns-in_err-line-clause-spares
returns-in_err-line-clause-spares g c =
    g.met.C.Counter.spares_then c.args.counter.now c.loop-rows.counter c.next_branch.new.self
    c.loop-rows.invariant.spares c.in_err-line.ensures.spares

pub returns-clause-spares : goal.returns-clause-spares
returns-clause-spares g c =
    g.met.C.Counter.spares_then c.args.counter.now c.loop-rows.counter c.next_branch.new.self
    c.loop-rows.invariant.spares c.in_ok-line.ensures.spares
