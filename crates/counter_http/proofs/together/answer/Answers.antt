use Rattle.std.proofs.lemmas.Result.{err_from_is_err_and}
use Rattle.counter_http.proofs.Gathering.{gathers_then}
use Rattle.counter_http.proofs.Still.{all_of_none, as_many, differ_still, none_given}
use Rattle.std.proofs.Common.{◌≡◌, ◌≤◌, ◌∙◌, ℕ, arith, inr}
use Rattle.counter_http.specs.together.Order.{BreaksOff, FillsRound, HasSpared}
use Rattle.counter_http.specs.together.Submitting.{IsFrom}
use Rattle.counter_http.proofs.Moves.{all_move, fills_late}
use Rattle.counter_http.proofs.OneRound.{figured_by, round_as, round_err, round_refused, round_submitted}
use Rattle.counter_http.proofs.together.answer.Goals as goal

at_most : (count n : ℕ) → count ≡ n → n ≤ count
at_most count n same = omega arith

-- the batch is empty, and the places are those of clients
pub gather-requires : goal.gather-requires
gather-requires g c = record {
  order = omega (arith, c.min-first.ensures);
  within = omega (arith, c.len-count.ensures);
  others = c.requires.others;
  gives = none_given c.args.here.now.items c.clear.new.self c.clear.ensures.records c.clear.ensures.senders;
  beyond = all_of_none (IsFrom c.len-count.result) c.clear.new.self.senders.items c.clear.ensures.senders;
}

pub gather-requires-2 : goal.gather-requires-2
gather-requires-2 g c =
    let gathered = c.in_ok-gather.ensures in record {
      order = omega arith;
      within = omega (
        arith,
        c.min-first.ensures,
        c.len-count.ensures,
        as_many c.args.here.now.items c.gather.new.here.items gathered.gathers.beside.same,
      );
      others = differ_still c.args.here.now.items c.gather.new.here.items gathered.gathers.beside.same c.requires.others;
      gives = gathered.gathers.gives;
      beyond = gathered.places;
    }

pub submit-requires : goal.submit-requires
submit-requires g c = record {
  others = differ_still c.gather.new.here.items c.gather-2.new.here.items c.in_ok-gather-2.ensures.gathers.beside.same
      (differ_still c.args.here.now.items c.gather.new.here.items c.in_ok-gather.ensures.gathers.beside.same c.requires.others);
  gives = c.in_ok-gather-2.ensures.gathers.gives;
}

-- the bank refused a call while the first half was gathered
pub returns-in_err-gather : goal.returns-in_err-gather
returns-in_err-gather g c =
    let failed = err_from_is_err_and c.from_residual.result c.from_residual.ensures.1 in
    record {
      answers = rw (failed.1, failed.2) (round_refused g.C.Counter.seen c.args.bank.now c.gather.new.bank c.args.here.now.items
          c.gather.new.here.items c.args.tally.now c.args.seconds c.gather.new.batch _
          (figured_by c.len-count.result (c.len-count.ensures ∙ c.args.here.now.ok.0) c.in_err-gather.ensures.gathers));
      spares = c.in_err-gather.ensures.spares;
    }

-- and the second
pub returns-in_err-gather-2 : goal.returns-in_err-gather-2
returns-in_err-gather-2 g c =
    let failed = err_from_is_err_and c.from_residual-in_err-gather-2.result c.from_residual-in_err-gather-2.ensures.1 in
    record {
      answers = rw (failed.1, failed.2) (round_refused g.C.Counter.seen c.args.bank.now c.gather-2.new.bank c.args.here.now.items
          c.gather-2.new.here.items c.args.tally.now c.args.seconds c.gather-2.new.batch _
          (figured_by c.len-count.result (c.len-count.ensures ∙ c.args.here.now.ok.0) (gathers_then g.C.Counter.seen c.args.bank.now c.gather.new.bank c.gather-2.new.bank c.args.here.now.items
          c.gather.new.here.items c.gather-2.new.here.items c.gather.new.batch c.gather-2.new.batch _
          c.in_ok-gather.ensures.gathers c.in_err-gather-2.ensures.gathers)));
      spares = g.met.C.Counter.spares_then c.args.bank.now c.gather.new.bank c.gather-2.new.bank c.in_ok-gather.ensures.spares
          c.in_err-gather-2.ensures.spares;
    }

-- it refused the records
pub returns-in_err-submit : goal.returns-in_err-submit
returns-in_err-submit g c =
    let here = c.args.here.now.items in
    let gathered = figured_by c.len-count.result (c.len-count.ensures ∙ c.args.here.now.ok.0) (gathers_then g.C.Counter.seen
    c.args.bank.now c.gather.new.bank c.gather-2.new.bank here c.gather.new.here.items c.gather-2.new.here.items
    c.gather.new.batch c.gather-2.new.batch _ c.in_ok-gather.ensures.gathers c.in_ok-gather-2.ensures.gathers) in
    let did = c.in_err-submit.ensures.submits.did in
    let failed = err_from_is_err_and c.from_residual-in_err-submit.result c.from_residual-in_err-submit.ensures.1 in
    let late = BreaksOff (HasSpared g.C.Counter.reason) did.refused in
    record {
      answers = rw (failed.1, failed.2) (round_err (round_submitted g.C.Counter.seen c.args.bank.now c.gather-2.new.bank
          c.submit.new.bank here c.gather-2.new.here.items c.submit.new.here.items c.args.seconds c.gather-2.new.batch _
          gathered c.in_err-submit.ensures.submits
          (all_move late (HasSpared g.C.Counter.reason) here c.gather.new.here.items c.gather-2.new.here.items
          c.submit.new.here.items c.min-first.result c.len-count.result c.clear.new.self c.gather.new.batch
          c.gather-2.new.batch gathered.reads did.posts (at_most _ _ (c.len-count.ensures ∙ c.args.here.now.ok.0))
          gathered.beside.same c.in_ok-gather.ensures.looks c.in_ok-gather-2.ensures.looks gathered.fare did.fare
          c.in_err-submit.ensures.each (λ many. inr (fills_late c.gather-2.new.batch did.refused did.whole many))
          (λ none. inr (inr none)))));
      spares = g.met.C.Counter.spares_then c.args.bank.now c.gather-2.new.bank c.submit.new.bank
          (g.met.C.Counter.spares_then c.args.bank.now c.gather.new.bank c.gather-2.new.bank c.in_ok-gather.ensures.spares
          c.in_ok-gather-2.ensures.spares) c.in_err-submit.ensures.spares;
    }

pub returns : goal.returns
returns g c =
    let here = c.args.here.now.items in
    let gathered = figured_by c.len-count.result (c.len-count.ensures ∙ c.args.here.now.ok.0) (gathers_then g.C.Counter.seen
    c.args.bank.now c.gather.new.bank c.gather-2.new.bank here c.gather.new.here.items c.gather-2.new.here.items
    c.gather.new.batch c.gather-2.new.batch _ c.in_ok-gather.ensures.gathers c.in_ok-gather-2.ensures.gathers) in
    let did = c.in_ok-submit.ensures.submits.did in
    let late = FillsRound (HasSpared g.C.Counter.reason) did.posts in
    record {
      answers = round_as _ (round_submitted g.C.Counter.seen c.args.bank.now c.gather-2.new.bank
          c.submit.new.bank here c.gather-2.new.here.items c.submit.new.here.items c.args.seconds c.gather-2.new.batch _
          gathered c.in_ok-submit.ensures.submits
          (all_move late (HasSpared g.C.Counter.reason) here c.gather.new.here.items c.gather-2.new.here.items
          c.submit.new.here.items c.min-first.result c.len-count.result c.clear.new.self c.gather.new.batch
          c.gather-2.new.batch gathered.reads did.posts (at_most _ _ (c.len-count.ensures ∙ c.args.here.now.ok.0))
          gathered.beside.same c.in_ok-gather.ensures.looks c.in_ok-gather-2.ensures.looks gathered.fare did.fare
          c.in_ok-submit.ensures.each (fills_late c.gather-2.new.batch did.posts did.moves) (λ none. inr none)));
      spares = g.met.C.Counter.spares_then c.args.bank.now c.gather-2.new.bank c.submit.new.bank
          (g.met.C.Counter.spares_then c.args.bank.now c.gather.new.bank c.gather-2.new.bank c.in_ok-gather.ensures.spares
          c.in_ok-gather-2.ensures.spares) c.in_ok-submit.ensures.spares;
    }
