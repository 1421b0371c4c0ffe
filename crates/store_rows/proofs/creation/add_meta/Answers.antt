-- What the first row of meta leaves.
use Rattle.sql_meanings.proofs.Makings.{kept_inside}
use Rattle.store_rows.proofs.AddMeta.{starts}
use Rattle.store_rows.proofs.creation.add_meta.Goals as goal

pub returns : goal.returns
returns g c = record {
  answers = λ clean live made. starts _ _ c.execute.result made
      (rw (c.params-to_sql.ensures, c.params-to_sql-2.ensures, c.params-to_sql-3.ensures) at
      (c.execute.ensures.runs clean live));
  leaves = λ clean live. kept_inside _ _ _ _ c.execute.result (c.execute.ensures.runs clean live);
  same_reference = c.execute.ensures.same_reference;
  survives = c.execute.ensures.survives;
}
