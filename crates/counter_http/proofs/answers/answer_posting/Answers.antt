use Rattle.std.proofs.Common.{◌∙◌, ap, sym, ℕ, List}
use Rattle.message_records.specs.believed.Spelling.{reply_spelling}
use Rattle.posting_rules.specs.believed.Entries.{reply}
use Rattle.counter_http.specs.{believed.Answers.octets, Next.asked}
use Rattle.counter_http.proofs.AnsweredTurns.{told_answer, told_refused, refused_first, posting_readings}
use Rattle.counter_http.proofs.AnsweredTurns.{posting_answer, takes_posting, refuses_posting, why_first}
use Rattle.counter_http.proofs.answers.answer_posting.Goals as goal

pub returns-in-Ok-clause-answers : goal.returns-in-Ok-clause-answers
returns-in-Ok-clause-answers g c =
    let a = asked c.args.message.now in
    let m = c.now-moment.result in
    let seen = g.C.Counter.seen in
    let old = c.args.bank.now in
    let new = c.submit.new.self in
    let call = c.in-Ok.ensures.call in
    record {
      moment = m;
      clock = posting_readings _ _ a m c.requires.posting c.now-moment.ensures;
      dealt = told_answer seen old new a _ _ c.say.result
          (takes_posting (seen old) (seen new) a m _ c.requires.posting c.requires.body call.done)
          (λ d. absurd (call.up d))
          (λ h log s. ap octets (c.in-Ok.ensures.answer h log s
          ∙ ap (λ (b : List ℕ). reply_spelling (reply log b)) c.requires.body)
          ∙ sym (posting_answer log a c.requires.posting)) call.honest
          (λ down. call.untried (call.down down)) c.say.ensures;
    }

pub returns-in-Err-clause-answers : goal.returns-in-Err-clause-answers
returns-in-Err-clause-answers g c =
    let a = asked c.args.message.now in
    let m = c.now-moment.result in
    let seen = g.C.Counter.seen in
    let old = c.args.bank.now in
    let new = c.submit.new.self in
    let call = c.in-Err.ensures.call in
    record {
      moment = m;
      clock = posting_readings _ _ a m c.requires.posting c.now-moment.ensures;
      dealt = told_refused seen old new a _ c.in-Err.fault c.fail.result
          (refused_first seen old new c.in-Err.fault _
          (refuses_posting c.in-Err.fault (seen old) (seen new) a m _ c.requires.posting c.requires.body
          call.fault) call.honest)
          (why_first seen g.C.Counter.contents g.C.Counter.reason old new _ _ call)
          (λ down. call.untried (call.down down)) c.fail.ensures.written c.fail.ensures.ends;
    }
