use Rattle.std.proofs.Common.{◌≡◌, ◌≤◌, [], length, refl, ap, ◌∙◌, arith}
use Rattle.std.specs.Prelude.{count_by}
use Rattle.std.proofs.{lemmas.List.length-map, lemmas.List.Sums.count_by-le-length, lemmas.Result.err_from_is_err_and}
use Rattle.posting_rules.specs.believed.Runs.{posts}
use Rattle.posting_rules.proofs.CounterCalls.{call_refused_after, takes_none}
use Rattle.load_driver.specs.believed.Records.{is_posted}
use Rattle.load_driver.proofs.Counted.{counted}
use Rattle.load_driver.proofs.drive_batches.submit_batch.Goals as goal

pub returns-clause-answers : goal.returns-clause-answers
returns-clause-answers g c =
    let moment = c.now-moment.result in
    let records = c.draw_batch.new.batch in
    let replies = c.in_ok-replies.replies.items in
    let number : c.count_posted.result ≡ count_by is_posted replies = c.count_posted.ensures
    ∙ ap (count_by is_posted) c.deref.ensures.value in
    let few : count_by is_posted replies ≤ length replies = count_by-le-length is_posted replies in
    let long : length (posts moment records) ≡ length records = rw length-map refl in (
      moment,
      c.now-moment.ensures,
      record {
        takes = c.in_ok-replies.ensures.call.done;
        few = omega (arith, number, few, long, c.in_ok-replies.ensures.count);
        posted_is = λ h log s. number ∙ ap (count_by is_posted) (c.in_ok-replies.ensures.answer h log s)
            ∙ counted log (posts moment records);
        replies = replies;
        by_tables = c.in_ok-replies.ensures.by_tables;
        counted = number;
      },
    )

pub returns-in_err-replies-clause-answers : goal.returns-in_err-replies-clause-answers
returns-in_err-replies-clause-answers g c =
    let p = err_from_is_err_and c.from_residual.result c.from_residual.ensures.1 in
    rw (p.1, p.2) (c.now-moment.result, c.now-moment.ensures, c.in_err-replies.ensures.call.fault)

pub returns-in_err-replies-clause-why : goal.returns-in_err-replies-clause-why
returns-in_err-replies-clause-why g c =
    let seen = g.C.Counter.seen in
    let old = c.args.counter.now in
    let p = err_from_is_err_and c.from_residual.result c.from_residual.ensures.1 in
    rw (p.1, p.2)
    (call_refused_after seen g.C.Counter.reason old old c.submit_all.new.self [] (takes_none (seen old))
    (λ h. h) (λ down. refl) c.in_err-replies.field-0.0 g.C.Counter.contents _ c.in_err-replies.ensures.call)
