use Rattle.std.proofs.Common.{[], refl, ap, ◌∙◌}
use Rattle.posting_core.proofs.Telling.{more_none}
use Rattle.counter_http.specs.Telling.{said, now_of}
use Rattle.counter_http.proofs.PartsWritten.{told_none, told_as, first_is, phrase_is}
use Rattle.counter_http.proofs.telling.put_first.Goals as goal

pub returns-clause-text : goal.returns-clause-text
returns-clause-text g c =
    let w = g.W.Sink.contents c.args.writer.now in
    let a = c.put-going.ensures.text w [] (told_none w _ c.requires) in
    let b = c.put-going-2.ensures.text w _ a in
    let d = c.put-going-3.ensures.text w _ b in
    let e = c.put-going-4.ensures.text w _ d in
    let f = c.put-going-5.ensures.text w _ e in
    let h = c.put-going-6.ensures.text w _ f in
    let i = c.put.ensures.text w _ h in
    told_as _ _ (first_is (said c.args.response.now) _ _ (c.as_bytes.ensures.value ∙ c.as_str.ensures)
    (c.as_bytes-2.ensures.value ∙ ap now_of c.unwrap_or-phrase.ensures
    ∙ phrase_is now_of c.canonical_reason.result _ _ refl c.canonical_reason.ensures.value)) i

pub returns-clause-ends : goal.returns-clause-ends
returns-clause-ends g c =
    let w = g.W.Sink.calls c.args.writer.now in
    let a = c.put-going-2.ensures.ends w (c.put-going.ensures.ends w (more_none w)) in
    let b = c.put-going-4.ensures.ends w (c.put-going-3.ensures.ends w a) in
    c.put.ensures.ends w (c.put-going-6.ensures.ends w (c.put-going-5.ensures.ends w b))
