-- The text is run with the key and the number.
use Rattle.std.proofs.Common.{◌≡◌, Ok, Err, rules, arith, refl, w64}
use Rattle.std.proofs.lemmas.Int.{to_z-of_z}
use Rattle.sql_meanings.proofs.Makings.{kept_inside}
use Rattle.store_rows.specs.believed.Failures.{Changing}
use Rattle.store_rows.proofs.Lookups.{as_integer}
use Rattle.store_rows.proofs.statements.write_under.Goals as goal

pub returns : goal.returns
returns g c = record {
  answers = λ clean live. (
    c.in_ok-count.count,
    rw (
      c.params-to_sql.ensures,
      c.params-to_sql-2.ensures,
      as_integer c.args.key c.args.key refl (omega arith),
      to_z-of_z w64 c.args.number c.ranges.number,
    ) at (c.in_ok-count.ensures.runs clean live),
    refl,
  );
  leaves = λ clean live.
      let ran = rw (
        c.params-to_sql.ensures,
        c.params-to_sql-2.ensures,
        as_integer c.args.key c.args.key refl (omega arith),
        to_z-of_z w64 c.args.number c.ranges.number,
      ) at (c.in_ok-count.ensures.runs clean live) in
      (kept_inside _ _ _ _ (Ok c.in_ok-count.count) ran, λ none. (c.in_ok-count.count, ran, none));
  same_reference = c.in_ok-count.ensures.same_reference;
  survives = c.in_ok-count.ensures.survives;
}

pub returns-in_err-count : goal.returns-in_err-count
returns-in_err-count g c =
    let e = c.in_err-count in
    let same : c.from_residual.result ≡ Err e.field-0.0 = search rules in
    record {
      answers = λ clean live. rw same (rw (
        c.params-to_sql.ensures,
        c.params-to_sql-2.ensures,
        as_integer c.args.key c.args.key refl (omega arith),
        to_z-of_z w64 c.args.number c.ranges.number,
      ) at (e.ensures.runs clean live));
      leaves = λ clean live. rw same (
        kept_inside _ _ _ _ (Err e.field-0.0) (e.ensures.runs clean live),
        Changing _ _ c.requires.ours (e.ensures.runs clean live),
      );
      same_reference = e.ensures.same_reference;
      survives = e.ensures.survives;
    }
