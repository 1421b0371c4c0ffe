use Rattle.std.proofs.Common.{◌++◌, ℕ, List, [], Option, Some, Ok, Err, refl, ap, subst, ◌∙◌, inl, inr}
use Rattle.std.specs.Prelude.{IfSome}
use Rattle.std.proofs.lemmas.Result.{err_from_is_err_and}
use Rattle.posting_rules.specs.{declared.counter.BranchLine.BranchLine, Branches.IsNextBranch, Branches.IsLineAbove}
use Rattle.posting_rules.specs.Counter.{StaysByTables}
use Rattle.posting_rules.specs.believed.Counter.{IsCounterCall, Seen}
use Rattle.posting_rules.specs.declared.fault.Fault.{Fault}
use Rattle.posting_rules.specs.declared.fault.Fault.TheVariants.{Memory}
use Rattle.posting_rules.proofs.CounterCalls.{call_idle_after, call_refused_after}
use Rattle.counter_http.specs.Listing.{names_of, shown_line}
use Rattle.counter_http.specs.Turns.{IsAsked}
use Rattle.counter_http.proofs.Listed.{Asking, all_listed, asking_full, asking_more, asking_refused, line_more}
use Rattle.counter_http.proofs.lines.all_lines.Goals as goal

-- what is known where memory for what it answered was refused
full : {C K X Y : Type 0} (seen : C → Seen) (contents : C → K) (reason : Fault → C → C → Type 0) (old now new : C) (x : X)
    → Asking seen old now → IsCounterCall seen contents reason now new [] (Ok x) → StaysByTables (seen now) (seen new)
    → IsAsked {X = Y} seen reason old new (Err Memory)
full seen contents reason old now new x a call stays =
    let more = asking_more seen contents reason old now new x a call stays in record {
      done = tt;
      stays = tt;
      up = tt;
      why = inr (refl, call.up);
      fault = asking_full seen old new more;
      idle = more.idle;
      honest = more.honest;
    }

-- the bank refused a call
pub returns-in_err-line : goal.returns-in_err-line
returns-in_err-line g c =
    let a = c.loop-body.invariant.asking in
    let p = err_from_is_err_and c.from_residual.result c.from_residual.ensures.1 in
    let call = c.in_err-line.ensures.call in
    record {
      lines = rw p.1 tt;
      asked = rw (p.1, p.2) (record {
        done = tt;
        stays = tt;
        up = tt;
        why = inl (call_refused_after g.C.Counter.seen g.C.Counter.reason c.args.bank.now c.loop-body.bank
            c.next_branch.new.self [] a.takes a.honest a.idle c.in_err-line.field-0.0 g.C.Counter.contents _ call);
        fault = asking_refused g.C.Counter.seen c.args.bank.now c.loop-body.bank c.next_branch.new.self _ a call.fault
            call.honest;
        idle = call_idle_after g.C.Counter.seen c.args.bank.now c.loop-body.bank a.idle g.C.Counter.contents
            g.C.Counter.reason c.next_branch.new.self _ _ c.next_branch.ensures.call;
        honest = λ h. a.honest (call.honest h);
      });
      spares = g.met.C.Counter.spares_then c.args.bank.now c.loop-body.bank c.next_branch.new.self
          c.loop-body.invariant.spares c.in_err-line.ensures.spares;
    }

-- memory was refused
pub returns-in_err-put_line : goal.returns-in_err-put_line
returns-in_err-put_line g c =
    let p = err_from_is_err_and c.from_residual-in_err-put_line.result
    c.from_residual-in_err-put_line.ensures.1 in
    record {
      lines = rw p.1 tt;
      asked = rw (p.1, p.2) (full g.C.Counter.seen g.C.Counter.contents g.C.Counter.reason c.args.bank.now c.loop-body.bank
          c.next_branch.new.self _ c.loop-body.invariant.asking c.in_ok-line.ensures.call c.in_ok-line.ensures.by_tables);
      spares = g.met.C.Counter.spares_then c.args.bank.now c.loop-body.bank c.next_branch.new.self
          c.loop-body.invariant.spares c.in_ok-line.ensures.spares;
    }

pub returns : goal.returns
returns g c =
    let more = asking_more g.C.Counter.seen g.C.Counter.contents g.C.Counter.reason c.args.bank.now c.loop-body.bank
    c.next_branch.new.self _ c.loop-body.invariant.asking c.in_ok-line.ensures.call c.in_ok-line.ensures.by_tables in
    record {
      lines = λ h log s. let i = c.loop-body.invariant in
          let before = c.in_ok-line.ensures.call.honest h in
          c.in_ok-named.ensures
          ∙ ap (λ (t : List ℕ). names_of c.args.listing ++ t) (i.lines before log s)
          ∙ all_listed c.args.listing log c.loop-body.after
          (subst (λ (o : Option BranchLine). IsNextBranch log c.loop-body.after o) c.in_default.is
          (c.in_ok-line.ensures.answer h log (i.asking.takes.shows before log s))) i.within;
      asked = record {
        done = more.takes;
        stays = more.stays;
        up = more.up;
        why = tt;
        fault = tt;
        idle = more.idle;
        honest = more.honest;
      };
      spares = g.met.C.Counter.spares_then c.args.bank.now c.loop-body.bank c.next_branch.new.self
          c.loop-body.invariant.spares c.in_ok-line.ensures.spares;
    }

pub loop-body-preserved : goal.loop-body-preserved
loop-body-preserved g c =
    let i = c.loop-body.invariant in
    let above : IsLineAbove c.loop-body.after c.in-Some.line =
    subst (λ (o : Option BranchLine). IfSome o (IsLineAbove c.loop-body.after)) c.in-Some.is
    c.in_ok-line.ensures.within in
    rw c.get-after.ensures.value (record {
      within = above.branch;
      asking = asking_more g.C.Counter.seen g.C.Counter.contents g.C.Counter.reason c.args.bank.now
          c.loop-body.bank c.next_branch.new.self _ i.asking c.in_ok-line.ensures.call c.in_ok-line.ensures.by_tables;
      spares = g.met.C.Counter.spares_then c.args.bank.now c.loop-body.bank c.next_branch.new.self i.spares
          c.in_ok-line.ensures.spares;
      lines = λ h log s.
          let before = c.in_ok-line.ensures.call.honest h in
          let next : IsNextBranch log c.loop-body.after (Some c.in-Some.line) =
          subst (λ (o : Option BranchLine). IsNextBranch log c.loop-body.after o) c.in-Some.is
          (c.in_ok-line.ensures.answer h log (i.asking.takes.shows before log s)) in
          c.in_ok-put_line.ensures
          ∙ ap (λ (t : List ℕ). t ++ shown_line c.args.listing c.in-Some.line) (i.lines before log s)
          ∙ line_more c.args.listing log c.loop-body.after c.in-Some.line next _ refl;
    })

-- memory for the names was refused
pub returns-in_err-named : goal.returns-in_err-named
returns-in_err-named g c =
    let p = err_from_is_err_and c.from_residual-in_err-named.result
    c.from_residual-in_err-named.ensures.1 in
    record {
      lines = rw p.1 tt;
      asked = rw (p.1, p.2) (full g.C.Counter.seen g.C.Counter.contents g.C.Counter.reason c.args.bank.now c.loop-body.bank
          c.next_branch.new.self _ c.loop-body.invariant.asking c.in_ok-line.ensures.call c.in_ok-line.ensures.by_tables);
      spares = g.met.C.Counter.spares_then c.args.bank.now c.loop-body.bank c.next_branch.new.self
          c.loop-body.invariant.spares c.in_ok-line.ensures.spares;
    }
