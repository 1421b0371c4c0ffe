-- A step along the log, and its end.
use Rattle.std.proofs.Common.{rules, ◌≡◌, ◌∙◌, ◌++◌, ℕ, List, [], ap, subst, sym, arith}
use Rattle.std.proofs.lemmas.Grind.{common_steps}
use Rattle.shared_log.specs.{Joined.FirstAre, Known.Known, Known.with_more}
use Rattle.shared_log.proofs.Along.{first_more, first_none, went_more, went_none}
use Rattle.shared_log.proofs.joining.catch_up.Goals as goal

pub loop-init : goal.loop-init
loop-init g c = record {
  commands = [];
  went = went_none g.C.Counter.seen g.C.Counter.spares c.args.plan.now g.met.C.Counter.spares_then c.args.bank.now
      (g.met.C.Counter.spares_itself c.args.bank.now);
  first = first_none g.C.Counter.seen g.C.Counter.spares c.args.plan.now g.met.C.Counter.spares_then c.args.bank.now
      (g.L.SharedLog.known c.args.log.now) c.requires;
}

pub loop-preserved : goal.loop-preserved
loop-preserved g c =
    let it = c.loop.invariant in
    let took = c.in_ok-take_given.ensures.taken in
    let grown : g.L.SharedLog.known c.read_settled.new.log
    ≡ with_more (g.L.SharedLog.known c.loop.log) c.as_slice.result.now =
    c.in_ok-given.ensures.given
    ∙ ap (λ (l : List (List ℕ)). with_more (g.L.SharedLog.known c.loop.log) l) (sym c.as_slice.ensures.value) in
    record {
      commands = it.commands ++ took.commands;
      went = went_more g.C.Counter.seen g.C.Counter.spares c.args.plan.now g.met.C.Counter.spares_then c.args.bank.now
          c.loop.bank c.take_given.new.counter it.commands took.commands it.went took.went;
      first = first_more g.C.Counter.seen g.C.Counter.spares c.args.plan.now g.met.C.Counter.spares_then c.args.bank.now
          c.loop.bank c.take_given.new.counter it.commands took.commands (g.L.SharedLog.known c.loop.log)
          (g.L.SharedLog.known c.read_settled.new.log) c.count-place.result c.as_slice.result.now it.first it.went.takes
          c.count-place.ensures grown took.went.honest took.has;
    }

-- nothing more is known where none was given
pub loop-preserved-then-is_empty : goal.loop-preserved-then-is_empty
loop-preserved-then-is_empty g c =
    let it = c.loop.invariant in
    let same : g.L.SharedLog.known c.read_settled.new.log ≡ g.L.SharedLog.known c.loop.log =
    first_of (search rules, grind (arith, common_steps)) in
    record {
      commands = it.commands;
      went = it.went;
      first = subst (λ (k : Known). FirstAre (g.C.Counter.seen c.args.bank.now) (g.C.Counter.seen c.loop.bank) it.commands k)
          (sym same) it.first;
    }

pub returns-then-is_turn-clause-caught : goal.returns-then-is_turn-clause-caught
returns-then-is_turn-clause-caught g c =
    let it = c.loop.invariant in
    let same : g.L.SharedLog.known c.read_settled.new.log ≡ g.L.SharedLog.known c.loop.log =
    first_of (search rules, grind (arith, common_steps)) in
    record {
      commands = it.commands;
      went = it.went;
      first = subst (λ (k : Known). FirstAre (g.C.Counter.seen c.args.bank.now) (g.C.Counter.seen c.loop.bank) it.commands k)
          (sym same) it.first;
    }

-- no step touches what no call of the bank does
pub returns-in_err-given-clause-others : goal.returns-in_err-given-clause-others
returns-in_err-given-clause-others g c = c.loop.invariant.went.others

pub returns-in_err-take_given-clause-others : goal.returns-in_err-take_given-clause-others
returns-in_err-take_given-clause-others g c =
    g.met.C.Counter.spares_then c.args.bank.now c.loop.bank c.take_given.new.counter c.loop.invariant.went.others
    c.in_err-take_given.ensures.others

pub returns-then-is_turn-clause-others : goal.returns-then-is_turn-clause-others
returns-then-is_turn-clause-others g c = c.loop.invariant.went.others

pub returns-clause-others : goal.returns-clause-others
returns-clause-others g c = c.loop.invariant.went.others
