-- What the statement shows.
use Rattle.std.proofs.Common.{pos, refl, arith, w64}
use Rattle.std.proofs.lemmas.Int.{to_z-of_z}
use Rattle.sqlite.specs.Held.{state}
use Rattle.sql_meanings.proofs.Texts.{count_after_key, only_reads}
use Rattle.store_rows.proofs.Lookups.{as_integer}
use Rattle.store_rows.specs.believed.BankTables.{history}
use Rattle.store_rows.proofs.ShownValues.{all_columns}
use Rattle.walked_rows.proofs.Sought.{tells_of_from, tells_walk}
use Rattle.walked_rows.proofs.WalkTexts.{is_postings_of, reads_postings_of, walks_postings}
use Rattle.walked_rows.proofs.postings.StoredPostingStoredRow.seek.Goals as goal

pub rows_shown-requires-clause-only : goal.rows_shown-requires-clause-only
rows_shown-requires-clause-only g c = walks_postings.only

pub rows_shown-requires-in-Some-clause-only : goal.rows_shown-requires-in-Some-clause-only
rows_shown-requires-in-Some-clause-only g c = only_reads is_postings_of

pub returns-in-None-clause-answers : goal.returns-in-None-clause-answers
returns-in-None-clause-answers g c clean rows has =
    let from = c.args.from in
    rw c.in-None.is
    (tells_walk (state g.S.Store c.args.conn.now) (state g.S.Store c.rows_shown.new.conn) walks_postings rows
    has (λ v. v.items) from c.rows_shown.result
    (rw (c.params-to_sql.ensures, to_z-of_z w64 from c.ranges.from) at (c.rows_shown.ensures.shown clean)))

pub returns-in-Some-clause-answers : goal.returns-in-Some-clause-answers
returns-in-Some-clause-answers g c clean rows has =
    let one = pos c.in-Some.account in
    let from = c.args.from in
    let account = as_integer c.get-account.result c.in-Some.account c.get-account.ensures.value
    (omega arith) in
    rw c.in-Some.is
    (tells_of_from (state g.S.Store c.args.conn.now)
    (state g.S.Store c.rows_shown-in-Some.new.conn) history refl rows has _ _ (λ v. v.items) one from
    (reads_postings_of one from) (all_columns (count_after_key history) 0) c.rows_shown-in-Some.result
    (rw (
      c.params-to_sql-in-Some.ensures,
      c.params-to_sql-in-Some-2.ensures,
      account,
      to_z-of_z w64 from c.ranges.from,
    )
    at (c.rows_shown-in-Some.ensures.shown clean)))
