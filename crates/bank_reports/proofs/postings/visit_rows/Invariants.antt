-- The postings that the walk gave were visited.
use Rattle.std.proofs.Common.{◌≡◌, Ok}
use Rattle.sqlite.specs.{State.HasCleanDisk, Held.state}
use Rattle.posting_core.specs.EndCalls.{HasMore}
use Rattle.bank_store.specs.Walking.{HasToldFault, postings_to_come}
use Rattle.bank_reports.specs.Leaving.{ReadsPostings}
use Rattle.bank_reports.proofs.Visited.{AreVisited}
use Rattle.bank_reports.proofs.postings.visit_rows.Given as goal

abbrev pub invariant-rows : goal.invariant-rows
invariant-rows g l =
    let old = state g.S.Store l.fn.walk.bank.now.conn in
    let now = state g.S.Store l.walk.bank.now.conn in
    record {
      reference : l.walk.bank.ghost_name ≡ l.fn.walk.bank.ghost_name;
      fresh : HasToldFault l.walk → ⊥;
      reads : ReadsPostings g.S.Store g.V.Visitor.TakesMemory l.fn.walk.bank.now l.walk.bank.now (Ok tt);
      more : HasMore (g.W.Sink.calls l.fn.writer) (g.W.Sink.calls l.writer);
      visited : AreVisited g.V.Visitor.Visited l.fn.visitor (g.W.Sink.contents l.fn.writer) old.now
          (λ rows. postings_to_come rows l.fn.walk) (HasCleanDisk now) (λ rows. postings_to_come rows l.walk) l.visitor
          (g.W.Sink.contents l.writer) l.counter;
    }
