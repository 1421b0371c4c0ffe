-- The text is run with the two keys.
use Rattle.std.proofs.Common.{arith, refl}
use Rattle.sql_meanings.proofs.OnlyShowing.{kept_reading}
use Rattle.store_rows.proofs.{Lookups.as_integer, Reasons.asked}
use Rattle.store_rows.proofs.statements.row_under_two.Goals as goal

pub returns : goal.returns
returns g c = record {
  answers = λ clean. rw (
    c.params-to_sql.ensures,
    c.params-to_sql-2.ensures,
    as_integer c.args.first c.args.first refl (omega arith),
    as_integer c.args.second c.args.second refl (omega arith),
  ) at (c.query_row.ensures.row clean);
  leaves = λ clean only.
      asked _ _ _ _ c.query_row.result c.requires.ours (c.query_row.ensures.row clean)
      (kept_reading _ _ _ _ c.query_row.result only (c.query_row.ensures.row clean));
  same_reference = c.query_row.ensures.same_reference;
  survives = c.query_row.ensures.survives;
}
