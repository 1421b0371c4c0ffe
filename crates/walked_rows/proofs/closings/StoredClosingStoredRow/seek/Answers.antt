-- What the statement shows.
use Rattle.std.proofs.{Common.w64, lemmas.Int.to_z-of_z}
use Rattle.sqlite.specs.Held.{state}
use Rattle.walked_rows.proofs.{Sought.tells_walk, WalkTexts.walks_closings}
use Rattle.walked_rows.proofs.closings.StoredClosingStoredRow.seek.Goals as goal

pub rows_shown-requires-clause-only : goal.rows_shown-requires-clause-only
rows_shown-requires-clause-only g c = walks_closings.only

pub returns-clause-answers : goal.returns-clause-answers
returns-clause-answers g c clean rows has =
    let shown = c.rows_shown.ensures.shown clean in
    tells_walk (state g.S.Store c.args.conn.now) (state g.S.Store c.rows_shown.new.conn)
    walks_closings rows has (λ v. v.items) c.args.from c.rows_shown.result
    (rw (c.params-to_sql.ensures, to_z-of_z w64 c.args.from c.ranges.from) at shown)
