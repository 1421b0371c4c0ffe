use Rattle.std.proofs.Common.{◌≡◌, ◌<◌, ◌∙◌, ℕ, List, [], ap, arith, false, get_or, length, subst, take}
use Rattle.std.proofs.lemmas.List.{length-take, take_all, take_more}
use Rattle.counter_http.specs.together.Submitting.{AnswersAt, AnswersEach}
use Rattle.counter_http.specs.declared.batch.Sender.{Sender}
use Rattle.counter_http.proofs.Gathering.{given_long, given_within}
use Rattle.counter_http.proofs.Posted.{answers_long, answers_one_more}
use Rattle.counter_http.proofs.batch.Batch.answer.Goals as goal

abbrev nobody : Sender
nobody = record { place = 0; head = record { length = 0; shows_body = false; closes = false } }

pub bounds-senders-i : goal.bounds-senders-i
bounds-senders-i g c =
    omega (
      arith,
      ap length c.as_slice-senders.ensures.value,
      c.requires.each,
      c.loop-i-test.true,
      given_long c.args.here.now.items c.args.self.now.senders.items c.args.self.now.records.items c.requires.gives.given,
    )

pub answer_at-requires : goal.answer_at-requires
answer_at-requires g c =
    let ss = c.args.self.now.senders.items in
    let below : c.loop-i.i < length ss =
    omega (
      arith,
      c.requires.each,
      c.loop-i-test.true,
      given_long c.args.here.now.items ss c.args.self.now.records.items c.requires.gives.given,
    ) in
    let within : (get_or ss c.loop-i.i nobody).place < length c.args.here.now.items =
    given_within c.args.here.now.items ss c.args.self.now.records.items c.loop-i.i nobody c.requires.gives.given below in
    rw c.as_slice-senders.ensures.value (omega (arith, within, c.loop-i.invariant.long))

pub loop-i-preserved : goal.loop-i-preserved
loop-i-preserved g c =
    let ss = c.args.self.now.senders.items in
    let qs = c.args.replies.now in
    let i = c.loop-i.i in
    let mid = c.loop-i.here.items in
    let here' = c.answer_at.new.here.items in
    let below : i < length ss =
    omega (
      arith,
      c.requires.each,
      c.loop-i-test.true,
      given_long c.args.here.now.items ss c.args.self.now.records.items c.requires.gives.given,
    ) in
    let under : i < length qs = omega (arith, c.loop-i-test.true) in
    let one : AnswersAt mid here' (get_or ss i nobody) (get_or qs i []) =
    subst (λ (l : List Sender). AnswersAt mid here' (get_or l i nobody) (get_or qs i []))
    c.as_slice-senders.ensures.value c.answer_at.ensures in
    let long : length (take i ss) ≡ length (take i qs) =
    omega (arith, length-take i ss, length-take i qs, below, under) in
    record {
      done = rw (take_more ss i nobody below, take_more qs i [] under)
          (answers_one_more c.args.here.now.items mid here' (take i ss) (take i qs) (get_or ss i nobody) (get_or qs i [])
          c.loop-i.invariant.done long one);
      long = answers_long mid here' (get_or ss i nobody) (get_or qs i []) one ∙ c.loop-i.invariant.long;
    }

pub returns : goal.returns
returns g c =
    let here = c.args.here.now.items in
    let here' = c.loop-i.here.items in
    let ss = c.args.self.now.senders.items in
    let qs = c.args.replies.now in
    let i = c.loop-i.i in
    let all_ss : take i ss ≡ ss =
    take_all i ss (omega (
      arith,
      c.requires.each,
      c.loop-i-test.false,
      given_long here ss c.args.self.now.records.items c.requires.gives.given,
    )) in
    let all_qs : take i qs ≡ qs = take_all i qs (omega (arith, c.loop-i-test.false)) in
    subst (λ (l : List Sender). AnswersEach here here' l qs) all_ss
    (subst (λ (l : List (List ℕ)). AnswersEach here here' (take i ss) l) all_qs c.loop-i.invariant.done)
