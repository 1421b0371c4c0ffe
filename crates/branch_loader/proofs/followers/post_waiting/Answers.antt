-- What waits is posted together.
use Rattle.std.proofs.Common.{rules, ◌≡◌, ◌++◌, ◌+◌, ◌∙◌, ℕ, List, Err, length, map, ap, sym, arith}
use Rattle.std.proofs.lemmas.List.{length-append, length-map}
use Rattle.posting_core.specs.Entries.{record_text}
use Rattle.posting_core.specs.believed.LogEntries.{AnsweredRequest}
use Rattle.branch_loader.proofs.Following.{followed_same, shown_texts, stops_same}
use Rattle.branch_loader.proofs.followers.post_waiting.Goals as goal

-- as many as were posted before, and as many records as wait
counted_all : (done left given : List AnsweredRequest) (records : List (List ℕ)) → done ++ left ≡ given
    → records ≡ map record_text left → length given ≡ length done + length records
counted_all done left given records all are =
    ap (λ (l : List AnsweredRequest). length l) (sym all) ∙ length-append done left
    ∙ ap (λ (n : ℕ). length done + n)
    (sym (ap (λ (l : List (List ℕ)). length l) are ∙ length-map left record_text))

pub returns-in_err-post_together-clause-follows : goal.returns-in_err-post_together-clause-follows
returns-in_err-post_together-clause-follows g c first rows looked given next it =
    let fault = c.in_err-post_together.field-0.0 in
    let same : c.from_residual.result ≡ Err fault = search rules in
    rw same (stops_same g.C.Counter.seen g.C.Counter.spares g.C.Counter.reason rows first c.post_together.new.counter given
    next (it.done ++ it.left) fault it.all
    (c.in_err-post_together.ensures first rows looked it.done it.left next it.posted.opened it.posted.counted
    (shown_texts _ _ _ _ _ it.left it.waits c.as_slice.ensures.value c.as_slice-2.ensures.value) it.ready))

pub returns-clause-follows : goal.returns-clause-follows
returns-clause-follows g c first rows looked given next it = record {
  opened =
      followed_same g.C.Counter.seen g.C.Counter.spares g.C.Counter.reason rows first c.post_together.new.counter given
      next looked it.done it.left it.all
      (c.in_ok-post_together.ensures first rows looked it.done it.left next it.posted.opened it.posted.counted
      (shown_texts _ _ _ _ _ it.left it.waits c.as_slice.ensures.value c.as_slice-2.ensures.value) it.ready);
  counted = λ few.
      let all = counted_all it.done it.left given _ it.all it.waits.records_are in
      let before = it.posted.counted (omega (arith, few, all)) in
      omega (arith, few, all, before, c.len.ensures.value);
}
