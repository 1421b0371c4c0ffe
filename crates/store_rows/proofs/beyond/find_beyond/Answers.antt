-- Whether there is a row beyond the ordinal.
use Rattle.std.proofs.Common.{Ok}
use Rattle.store_rows.proofs.Seeking.{seeks_beyond_postings, seeks_beyond_references, seeks_beyond_requests}
use Rattle.store_rows.proofs.Telling.{looks_up}
use Rattle.store_rows.proofs.beyond.find_beyond.Goals as goal

pub returns-in-Requests : goal.returns-in-Requests
returns-in-Requests g c = rw c.in-Requests.is
    (looks_up g.S.Store _ _ (λ _. Ok tt) (seeks_beyond_requests c.args.last) c.row_under.result c.found.result
    c.found.ensures c.row_under.ensures)

pub returns-in-Postings : goal.returns-in-Postings
returns-in-Postings g c = rw c.in-Postings.is
    (looks_up g.S.Store _ _ (λ _. Ok tt) (seeks_beyond_postings c.args.last) c.row_under-in-Postings.result
    c.found-in-Postings.result c.found-in-Postings.ensures c.row_under-in-Postings.ensures)

pub returns-in-References : goal.returns-in-References
returns-in-References g c = rw c.in-References.is
    (looks_up g.S.Store _ _ (λ _. Ok tt) (seeks_beyond_references c.args.last) c.row_under-in-References.result
    c.found-in-References.result c.found-in-References.ensures c.row_under-in-References.ensures)
