use Rattle.std.proofs.Common.{◌≡◌, ◌<◌, ◌≤◌, ◌+◌, List, [], ◌∷◌, Ok, ap, arith, drop, false, get_or, length, subst, inr}
use Rattle.std.proofs.lemmas.Result.{err_from_is_err_and}
use Rattle.counter_http.specs.together.Submitting.{ChangesAt}
use Rattle.counter_http.specs.declared.batch.Sender.{Sender}
use Rattle.counter_http.proofs.Gathering.{apart_front, given_front, given_long, given_still}
use Rattle.counter_http.proofs.Still.{differ_still}
use Rattle.counter_http.proofs.Submitted.{submitted_few, submitted_nothing, submitted_then}
use Rattle.counter_http.proofs.batch.Batch.submit_each.Goals as goal

abbrev nobody : Sender
nobody = record { place = 0; head = record { length = 0; shows_body = false; closes = false } }

pub loop-i-init : goal.loop-i-init
loop-i-init g c = record {
  did = submitted_nothing g.C.Counter.seen (c.args.moment ∷ []) c.args.bank.now c.args.here.now.items
      c.args.tally.now;
  gives = c.requires.gives.given;
  apart = c.requires.gives.apart;
  spares = g.met.C.Counter.spares_itself c.args.bank.now;
}

pub bounds-senders-i : goal.bounds-senders-i
bounds-senders-i g c =
    omega (
      arith,
      ap length c.as_slice-senders.ensures.value,
      ap length c.as_slice-bytes-items.ensures.value,
      c.loop-i-test.true,
      given_long c.args.here.now.items c.args.self.now.senders.items c.args.self.now.records.items c.requires.gives.given,
    )

pub submit_one-requires-clause-others : goal.submit_one-requires-clause-others
submit_one-requires-clause-others g c =
    differ_still c.args.here.now.items c.loop-i.here.items c.loop-i.invariant.did.beside.same c.requires.others

pub submit_one-requires-clause-gives : goal.submit_one-requires-clause-gives
submit_one-requires-clause-gives g c =
    let ss = c.args.self.now.senders.items in
    let rs = c.args.self.now.records.items in
    let i = c.loop-i.i in
    let under : i < length rs = omega (arith, ap length c.as_slice-bytes-items.ensures.value, c.loop-i-test.true) in
    let below : i < length ss = omega (arith, under, given_long c.args.here.now.items ss rs c.requires.gives.given) in
    rw (c.as_slice-senders.ensures.value, c.as_slice-bytes-items.ensures.value)
    (given_front c.loop-i.here.items ss rs i nobody [] below under c.loop-i.invariant.gives).0

-- the bank refused one
pub returns-in_err-submit_one-clause-submits : goal.returns-in_err-submit_one-clause-submits
returns-in_err-submit_one-clause-submits g c =
    let failed = err_from_is_err_and c.from_residual.result c.from_residual.ensures.1 in
    let few : c.loop-i.i + 1 ≤ length c.args.self.now.records.items =
    omega (arith, ap length c.as_slice-bytes-items.ensures.value, c.loop-i-test.true) in
    rw (failed.1, failed.2) (submitted_few (c.loop-i.i + 1) (length c.args.self.now.records.items) few c.requires.spared
    (submitted_then g.C.Counter.seen (c.args.moment ∷ []) c.args.bank.now c.loop-i.bank c.submit_one.new.bank
    c.args.here.now.items c.loop-i.here.items c.submit_one.new.here.items c.loop-i.i 1 _ c.loop-i.invariant.did
    c.in_err-submit_one.ensures.submits (λ some. omega arith) (inr c.requires.spared)))

pub loop-i-preserved : goal.loop-i-preserved
loop-i-preserved g c =
    let ss = c.args.self.now.senders.items in
    let rs = c.args.self.now.records.items in
    let i = c.loop-i.i in
    let mid = c.loop-i.here.items in
    let here' = c.submit_one.new.here.items in
    let under : i < length rs = omega (arith, ap length c.as_slice-bytes-items.ensures.value, c.loop-i-test.true) in
    let below : i < length ss = omega (arith, under, given_long c.args.here.now.items ss rs c.requires.gives.given) in
    let given = given_front mid ss rs i nobody [] below under c.loop-i.invariant.gives in
    let apart = apart_front ss i nobody below c.loop-i.invariant.apart in
    let only : ChangesAt mid here' (get_or ss i nobody).place =
    subst (λ (l : List Sender). ChangesAt mid here' (get_or l i nobody).place) c.as_slice-senders.ensures.value
    c.in_ok-submit_one.ensures.only in
    record {
      did = submitted_then g.C.Counter.seen (c.args.moment ∷ []) c.args.bank.now c.loop-i.bank c.submit_one.new.bank
          c.args.here.now.items mid here' i 1 (Ok tt) c.loop-i.invariant.did c.in_ok-submit_one.ensures.submits
          (λ some. omega arith) tt;
      gives = given_still mid here' (get_or ss i nobody).place only.client (drop (i + 1) ss) (drop (i + 1) rs) only.is
          given.1 apart.0;
      apart = apart.1;
      spares = g.met.C.Counter.spares_then c.args.bank.now c.loop-i.bank c.submit_one.new.bank
          c.loop-i.invariant.spares c.in_ok-submit_one.ensures.spares;
    }

pub returns-clause-submits : goal.returns-clause-submits
returns-clause-submits g c =
    let last : length c.args.self.now.records.items ≡ c.loop-i.i =
    omega (arith, ap length c.as_slice-bytes-items.ensures.value, c.loop-i-test.false) in
    rw last c.loop-i.invariant.did

-- ---- what no call touches

pub returns-in_err-submit_one-clause-spares : goal.returns-in_err-submit_one-clause-spares
returns-in_err-submit_one-clause-spares g c =
    g.met.C.Counter.spares_then c.args.bank.now c.loop-i.bank c.submit_one.new.bank c.loop-i.invariant.spares
    c.in_err-submit_one.ensures.spares

pub returns-clause-spares : goal.returns-clause-spares
returns-clause-spares g c = c.loop-i.invariant.spares
