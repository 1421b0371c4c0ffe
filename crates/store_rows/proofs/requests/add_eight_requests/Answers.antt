-- What the eight new rows leave.
use Rattle.std.proofs.Common.{List, arith}
use Rattle.posting_rules.specs.{believed.Tables.request_key, declared.rows.RequestRow.RequestRow}
use Rattle.store_rows.specs.{Statements.PutsRow, believed.View.request_entry}
use Rattle.store_rows.specs.{declared.texts.TheConstants.ADD_EIGHT_REQUESTS}
use Rattle.store_rows.proofs.LyingRows.{requests_put}
use Rattle.store_rows.proofs.{NewRequests.eight_new, SeveralWrites.HoldsOfEight, SeveralWrites.eight_put}
use Rattle.store_rows.proofs.{SeveralWrites.of_array, requests.add_eight_requests.Given.Over}
use Rattle.store_rows.proofs.requests.add_eight_requests.Goals as goal

-- what holds of any eight rows holds of these
of_these : (g : Over) (c : goal.After-put_in g) {P : List RequestRow → Type 0}
    → HoldsOfEight request_key request_entry
    (λ values. PutsRow g.S.Store c.args.tx.now c.put_in.new.tx ADD_EIGHT_REQUESTS.now values c.put_in.result) P
    → P c.args.rows.now
of_these g c holds =
    of_array holds
    c.args.rows.now (omega arith) c.index-rows-0.result c.index-rows-1.result c.index-rows-2.result
    c.index-rows-3.result c.index-rows-4.result c.index-rows-5.result c.index-rows-6.result c.index-rows-7.result
    c.values_of.result c.values_of-2.result c.values_of-3.result c.values_of-4.result
    c.values_of-5.result c.values_of-6.result c.values_of-7.result c.values_of-8.result
    (c.values_of.ensures.values, c.values_of.ensures.low) (c.values_of-2.ensures.values, c.values_of-2.ensures.low)
    (c.values_of-3.ensures.values, c.values_of-3.ensures.low) (c.values_of-4.ensures.values, c.values_of-4.ensures.low)
    (c.values_of-5.ensures.values, c.values_of-5.ensures.low) (c.values_of-6.ensures.values, c.values_of-6.ensures.low)
    (c.values_of-7.ensures.values, c.values_of-7.ensures.low) (c.values_of-8.ensures.values, c.values_of-8.ensures.low)
    _ c.as_flattened.ensures.value c.put_in.ensures

pub returns-clause-adds : goal.returns-clause-adds
returns-clause-adds g c =
    of_these g c (eight_put.requests _ g.S.Store c.args.tx.now c.put_in.new.tx c.put_in.result)

pub returns-clause-unknown : goal.returns-clause-unknown
returns-clause-unknown g c =
    of_these g c (eight_new g.S.Store c.args.tx.now c.put_in.new.tx c.put_in.result)

pub returns-clause-lies : goal.returns-clause-lies
returns-clause-lies g c =
    of_these g c (requests_put g.S.Store c.args.tx.now c.put_in.new.tx c.put_in.result)
