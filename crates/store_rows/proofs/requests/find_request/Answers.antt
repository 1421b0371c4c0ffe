-- What there is under the two numbers.
use Rattle.store_rows.specs.believed.Readings.{request_of}
use Rattle.store_rows.proofs.{Seeking.seeks_request, Telling.looks_up}
use Rattle.store_rows.proofs.requests.find_request.Goals as goal

pub returns : goal.returns
returns g c = record {
  says = looks_up g.S.Store _ _ request_of (seeks_request c.args.teller c.args.number) c.row_under_two.result
      c.found.result c.found.ensures (rw (c.get.ensures.value, c.get-2.ensures.value) at c.row_under_two.ensures);
}
