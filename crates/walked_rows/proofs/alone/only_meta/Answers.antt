-- What is read of the row, or why it isn't known.
use Rattle.std.proofs.Common.{◌≡◌, [], Err, rules}
use Rattle.sqlite.specs.Held.{state}
use Rattle.walked_rows.proofs.{OnlyMeta.tells_only, WalkTexts.walks_metas}
use Rattle.walked_rows.proofs.alone.only_meta.Goals as goal

pub rows_shown-requires-clause-only : goal.rows_shown-requires-clause-only
rows_shown-requires-clause-only g c = (walks_metas []).only

pub returns-in_err-found-clause-failed : goal.returns-in_err-found-clause-failed
returns-in_err-found-clause-failed g c =
    let e = c.in_err-found in
    let is : c.from_residual.result ≡ Err e.field-0.0 = search rules in
    rw is e.ensures.failed

pub returns-clause-answers : goal.returns-clause-answers
returns-clause-answers g c clean checks rows has =
    tells_only (state g.S.Store c.args.conn.now) (state g.S.Store c.rows_shown.new.conn) checks rows has
    c.in_ok-found.found.items c.only_row.result (rw c.params-to_sql.ensures at (c.in_ok-found.ensures.shown clean))
    (rw c.deref.ensures.value at c.only_row.ensures)
