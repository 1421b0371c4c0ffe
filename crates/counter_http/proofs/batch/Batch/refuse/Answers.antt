use Rattle.std.proofs.Common.{◌<◌, ◌∙◌, List, ap, arith, false, get_or, length, subst, take}
use Rattle.std.proofs.lemmas.List.{take_more}
use Rattle.counter_http.specs.together.Submitting.{RefusesAt}
use Rattle.counter_http.specs.declared.batch.Sender.{Sender}
use Rattle.counter_http.proofs.Gathering.{given_within}
use Rattle.counter_http.proofs.Posted.{refuses_long, refuses_one_more}
use Rattle.counter_http.proofs.batch.Batch.refuse.Goals as goal

abbrev nobody : Sender
nobody = record { place = 0; head = record { length = 0; shows_body = false; closes = false } }

pub refuse_at-requires : goal.refuse_at-requires
refuse_at-requires g c =
    let ss = c.args.self.now.senders.items in
    let i = c.loop-sender.sender-index in
    let below : i < length ss =
    omega (arith, ap length c.as_slice-sender-items.ensures.value, c.loop-sender-test.true) in
    let within : (get_or ss i nobody).place < length c.args.here.now.items =
    given_within c.args.here.now.items ss c.args.self.now.records.items i nobody c.requires.given below in
    rw c.as_slice-sender-items.ensures.value (omega (arith, within, c.loop-sender.invariant.long))

pub loop-sender-preserved : goal.loop-sender-preserved
loop-sender-preserved g c =
    let ss = c.args.self.now.senders.items in
    let i = c.loop-sender.sender-index in
    let mid = c.loop-sender.here.items in
    let here' = c.refuse_at.new.here.items in
    let below : i < length ss =
    omega (arith, ap length c.as_slice-sender-items.ensures.value, c.loop-sender-test.true) in
    let one : RefusesAt mid here' (get_or ss i nobody) c.args.fault =
    subst (λ (l : List Sender). RefusesAt mid here' (get_or l i nobody) c.args.fault)
    c.as_slice-sender-items.ensures.value c.refuse_at.ensures in
    record {
      done = rw (take_more ss i nobody below)
          (refuses_one_more c.args.here.now.items mid here' (take i ss) (get_or ss i nobody) c.args.fault
          c.loop-sender.invariant.done one);
      long = refuses_long mid here' (get_or ss i nobody) c.args.fault one ∙ c.loop-sender.invariant.long;
    }
