use Rattle.std.proofs.Common.{◌∙◌, arith, inr, refl, sym, Ok, Err}
use Rattle.std.specs.Vec.{with_items}
use Rattle.std.proofs.lemmas.List.{with_items_is}
use Rattle.std.proofs.lemmas.Bool.{eqb-true}
use Rattle.counter_http.specs.declared.listen_fault.ListenFault.TheVariants.{Network}
use Rattle.counter_http.proofs.CrowdRounds.{all_up_to_date, crowd_differs}
use Rattle.counter_http.proofs.CrowdMoves.{none_waited}
use Rattle.counter_http.proofs.Rounding.{rounding_next, rounding_none}
use Rattle.counter_http.proofs.AroundRounds.{after_round, before_round}
use Rattle.counter_http.proofs.Ended.{none_here}
use Rattle.counter_http.proofs.Rounding.{settled_round}
use Rattle.counter_http.proofs.AroundRounds.{waited_still}
use Rattle.counter_http.proofs.Ended.{rounds_broken, rounds_cut, rounds_end}
use Rattle.counter_http.proofs.Sent.{ok_is_no_error}
use Rattle.counter_http.proofs.together.serve_rounds.Goals as goal

pub rounds-init : goal.rounds-init
rounds-init g c = record {
  rounding = rounding_none g.C.Counter.seen _ _ c.args.bank.now c.args.connections c.args.here.now.items
      c.new-tally.result c.requires c.new-tally.ensures;
  spares = g.met.C.Counter.spares_itself c.args.bank.now;
}

-- all were served
pub returns-then-is_empty : goal.returns-then-is_empty
returns-then-is_empty g c =
    record {
      serves = rounds_end g.C.Counter.seen c.args.bank.now c.rounds.bank (Ok tt) (refl, refl) tt (
        c.if-came-connections.true,
        none_here c.rounds.here.items
            (sym c.rounds.here.ok.0 ∙ eqb-true c.rounds.here.len 0 (sym c.is_empty.ensures ∙ c.if-is_empty.true)),
      ) refl
          c.rounds.invariant.rounding (λ same. absurd (ok_is_no_error tt Network same));
      spares = c.rounds.invariant.spares;
    }

-- no two clients have the same number
pub answer-answered-requires : goal.answer-answered-requires
answer-answered-requires g c =
    let b = before_round c.deref.result.now c.rounds.here.items c.deref_mut.result.now c.go_on.new.here
    (with_items c.rounds.here c.go_on.new.here).items c.give_up.new.here.items c.take_in-taken_in.new.here.items
    c.wait.new.readiness.items c.deref-in-rounds-2.result.now c.deref.ensures.value c.deref_mut.ensures.value
    (with_items_is c.rounds.here c.go_on.new.here (c.go_on.auto.here ∙ c.deref_mut.ensures.len)) c.deref-in-rounds-2.ensures.value
    c.rounds.invariant.rounding c.wait.ensures c.go_on.ensures c.give_up.ensures c.take_in-taken_in.result
    c.take_in-taken_in.ensures in
    record { others = crowd_differs b.s.crowd }

-- the bank refused a call
pub returns-in-Err : goal.returns-in-Err
returns-in-Err g c =
    let b = before_round c.deref.result.now c.rounds.here.items c.deref_mut.result.now c.go_on.new.here
    (with_items c.rounds.here c.go_on.new.here).items c.give_up.new.here.items c.take_in-taken_in.new.here.items
    c.wait.new.readiness.items c.deref-in-rounds-2.result.now c.deref.ensures.value c.deref_mut.ensures.value
    (with_items_is c.rounds.here c.go_on.new.here (c.go_on.auto.here ∙ c.deref_mut.ensures.len)) c.deref-in-rounds-2.ensures.value
    c.rounds.invariant.rounding c.wait.ensures c.go_on.ensures c.give_up.ensures c.take_in-taken_in.result
    c.take_in-taken_in.ensures in
    let answered = c.answer-answered in
    let crowd = after_round g.C.Counter.seen c.args.bank.now c.rounds.bank answered.new.bank c.take_in-taken_in.new.here.items
    answered.new.here.items c.deref_mut-in-rounds.result.now c.write.new.here
    (with_items answered.new.here c.write.new.here).items c.part.new.here.items (Err c.in-Err.fault)
    c.deref_mut-in-rounds.ensures.value
    (with_items_is answered.new.here c.write.new.here (c.write.auto.here ∙ c.deref_mut-in-rounds.ensures.len))
    b.s c.in-Err.ensures.answers c.write.ensures c.part.ensures.leave in
    let moved = c.part.ensures.leave c.take_in-taken_in.new.came in
    let settled = settled_round g.C.Counter.seen c.args.bank.now c.rounds.bank answered.new.bank
    c.take_in-taken_in.new.here.items answered.new.here.items c.deref_mut-in-rounds.result.now c.write.new.here
    (with_items answered.new.here c.write.new.here).items c.part.new.here.items (Err c.in-Err.fault)
    c.deref_mut-in-rounds.ensures.value
    (with_items_is answered.new.here c.write.new.here (c.write.auto.here ∙ c.deref_mut-in-rounds.ensures.len))
    b c.in-Err.ensures.answers c.write.ensures c.part.ensures.rest moved.calls in
    record {
      serves = rounds_broken g.C.Counter.seen c.args.bank.now c.rounds.bank answered.new.bank c.in-Err.fault b
          c.in-Err.ensures.answers moved.calls (none_waited moved) settled crowd;
      spares = g.met.C.Counter.spares_then c.args.bank.now c.rounds.bank c.answer-answered.new.bank c.rounds.invariant.spares
          c.answer-answered.ensures.spares;
    }

-- an opening failed
pub returns-in-Err-taken_in : goal.returns-in-Err-taken_in
returns-in-Err-taken_in g c =
    let b = before_round c.deref.result.now c.rounds.here.items c.deref_mut.result.now c.go_on.new.here
    (with_items c.rounds.here c.go_on.new.here).items c.give_up.new.here.items c.take_in-taken_in.new.here.items
    c.wait.new.readiness.items c.deref-in-rounds-2.result.now c.deref.ensures.value c.deref_mut.ensures.value
    (with_items_is c.rounds.here c.go_on.new.here (c.go_on.auto.here ∙ c.deref_mut.ensures.len)) c.deref-in-rounds-2.ensures.value
    c.rounds.invariant.rounding c.wait.ensures c.go_on.ensures c.give_up.ensures (Err c.in-Err-taken_in.fault)
    c.in-Err-taken_in.ensures in
    let answered = c.answer-answered in
    let crowd = after_round g.C.Counter.seen c.args.bank.now c.rounds.bank answered.new.bank c.take_in-taken_in.new.here.items
    answered.new.here.items c.deref_mut-in-rounds.result.now c.write.new.here
    (with_items answered.new.here c.write.new.here).items c.part.new.here.items (Ok c.in-Ok.it)
    c.deref_mut-in-rounds.ensures.value
    (with_items_is answered.new.here c.write.new.here (c.write.auto.here ∙ c.deref_mut-in-rounds.ensures.len))
    b.s c.in-Ok.ensures.answers c.write.ensures c.part.ensures.leave in
    let moved = c.part.ensures.leave c.take_in-taken_in.new.came in
    let settled = settled_round g.C.Counter.seen c.args.bank.now c.rounds.bank answered.new.bank
    c.take_in-taken_in.new.here.items answered.new.here.items c.deref_mut-in-rounds.result.now c.write.new.here
    (with_items answered.new.here c.write.new.here).items c.part.new.here.items (Ok c.in-Ok.it)
    c.deref_mut-in-rounds.ensures.value
    (with_items_is answered.new.here c.write.new.here (c.write.auto.here ∙ c.deref_mut-in-rounds.ensures.len))
    b c.in-Ok.ensures.answers c.write.ensures c.part.ensures.rest moved.calls in
    record {
      serves = rw (c.in-Err-taken_in.ensures.fault) (rounds_cut g.C.Counter.seen c.args.bank.now c.rounds.bank answered.new.bank b c.in-Ok.ensures.answers
          moved.calls (none_waited moved) settled (waited_still c.posted.ensures crowd) refl);
      spares = g.met.C.Counter.spares_then c.args.bank.now c.rounds.bank answered.new.bank c.rounds.invariant.spares
          answered.ensures.spares;
    }

-- one round more
pub rounds-preserved : goal.rounds-preserved
rounds-preserved g c =
    let b = before_round c.deref.result.now c.rounds.here.items c.deref_mut.result.now c.go_on.new.here
    (with_items c.rounds.here c.go_on.new.here).items c.give_up.new.here.items c.take_in-taken_in.new.here.items
    c.wait.new.readiness.items c.deref-in-rounds-2.result.now c.deref.ensures.value c.deref_mut.ensures.value
    (with_items_is c.rounds.here c.go_on.new.here (c.go_on.auto.here ∙ c.deref_mut.ensures.len)) c.deref-in-rounds-2.ensures.value
    c.rounds.invariant.rounding c.wait.ensures c.go_on.ensures c.give_up.ensures c.take_in-taken_in.result
    c.take_in-taken_in.ensures in
    let answered = c.answer-answered in
    let crowd = after_round g.C.Counter.seen c.args.bank.now c.rounds.bank answered.new.bank c.take_in-taken_in.new.here.items
    answered.new.here.items c.deref_mut-in-rounds.result.now c.write.new.here
    (with_items answered.new.here c.write.new.here).items c.part.new.here.items (Ok c.in-Ok.it)
    c.deref_mut-in-rounds.ensures.value
    (with_items_is answered.new.here c.write.new.here (c.write.auto.here ∙ c.deref_mut-in-rounds.ensures.len))
    b.s c.in-Ok.ensures.answers c.write.ensures c.part.ensures.leave in
    let moved = c.part.ensures.leave c.take_in-taken_in.new.came in
    let settled = settled_round g.C.Counter.seen c.args.bank.now c.rounds.bank answered.new.bank
    c.take_in-taken_in.new.here.items answered.new.here.items c.deref_mut-in-rounds.result.now c.write.new.here
    (with_items answered.new.here c.write.new.here).items c.part.new.here.items (Ok c.in-Ok.it)
    c.deref_mut-in-rounds.ensures.value
    (with_items_is answered.new.here c.write.new.here (c.write.auto.here ∙ c.deref_mut-in-rounds.ensures.len))
    b c.in-Ok.ensures.answers c.write.ensures c.part.ensures.rest moved.calls in
    record {
      rounding = rounding_next g.C.Counter.seen c.args.bank.now c.rounds.bank answered.new.bank b c.in-Ok.ensures.answers
          moved.calls (none_waited moved) settled (waited_still c.posted.ensures crowd);
      spares = g.met.C.Counter.spares_then c.args.bank.now c.rounds.bank answered.new.bank c.rounds.invariant.spares
          answered.ensures.spares;
    }

-- there are no more rounds
pub returns : goal.returns
returns g c =
    record {
      serves = rounds_end g.C.Counter.seen c.args.bank.now c.rounds.bank (Err Network) (refl, refl) tt tt refl c.rounds.invariant.rounding
          (λ same. inr (omega (arith, c.rounds.invariant.rounding.many)));
      spares = c.rounds.invariant.spares;
    }

-- each whole message that was read is answered, where its client has no more
pub wait-requires : goal.wait-requires
wait-requires g c = rw (c.deref.ensures.value) (all_up_to_date c.rounds.invariant.rounding.crowd)
