-- What there is under the ordinal.
use Rattle.store_rows.specs.believed.Readings.{reference_of}
use Rattle.store_rows.proofs.{Seeking.seeks_reference, Telling.looks_up}
use Rattle.store_rows.proofs.references.find_reference.Goals as goal

pub returns : goal.returns
returns g c = record {
  says = looks_up g.S.Store _ _ reference_of (seeks_reference c.args.ordinal) c.row_under.result c.found.result
      c.found.ensures (rw c.get.ensures.value at c.row_under.ensures);
}
