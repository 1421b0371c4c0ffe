-- What the row means.
use Rattle.store_rows.specs.{believed.Columns.meta_in, Columns.meta_of}
use Rattle.store_rows.proofs.{FoundRows.finds_meta, LyingRows.meta_found, OtherValue.other_told, Reasons.looks}
use Rattle.store_rows.proofs.metas.read_meta.Goals as goal

pub returns-clause-says : goal.returns-clause-says
returns-clause-says g c = record {
  answers = λ clean rows has. finds_meta _ _ (meta_in rows) c.meta_row.result c.found.result c.found.ensures
      (c.meta_row.ensures.says.answers clean rows has);
  leaves = λ clean. looks _ _ meta_of c.meta_row.result c.found.result c.found.ensures
      (c.meta_row.ensures.says.leaves clean).0;
  same_reference = c.meta_row.ensures.says.same_reference;
  survives = c.meta_row.ensures.says.survives;
}

pub returns-clause-other : goal.returns-clause-other
returns-clause-other g c clean =
    other_told _ c.meta_row.result c.found.result (c.meta_row.ensures.says.leaves clean).1 c.found.ensures

pub returns-clause-lies : goal.returns-clause-lies
returns-clause-lies g c = meta_found g.S.Store c.args.tx.now c.meta_row.new.tx c.meta_row.result c.found.result c.found.ensures
    c.meta_row.ensures.asks
