-- So many of them are alike.
use Rattle.std.proofs.Common.{◌∙◌, List, ℕ, Option, Some, ap}
use Rattle.shared_log.proofs.Along.{asked}
use Rattle.shared_log.proofs.joining.has_given.Goals as goal

pub returns-clause-asked : goal.returns-clause-asked
returns-clause-asked g c =
    let call = c.in_ok-bytes.ensures.call in
    asked g.C.Counter.seen g.C.Counter.spares c.args.counter.now c.entries_after.new.self c.args.place c.args.given.now
    c.as_slice.result.now c.as_chunks.result.0.now c.alike.result call.done call.honest call.up
    c.in_ok-bytes.ensures.spares
    (λ h log s.
    ap (λ (b : List ℕ). let one : Option (List ℕ) = Some b in one) c.as_slice.ensures.value
    ∙ (rw c.in-Some.is at (c.in_ok-bytes.ensures.answer h log s)))
    c.as_chunks.ensures.front c.alike.ensures.count c.alike.ensures.alike
