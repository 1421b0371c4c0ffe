-- What is gathered beside other rows. What `gather` told is named: a search for it takes long.
use Rattle.std.proofs.Common.{◌≡◌, ◌≤ℤ◌, map, take, sym, ap, subst, ◌∙◌, rules, w64, to_z, of_z}
use Rattle.std.specs.Prelude.{IsSomeAnd}
use Rattle.std.proofs.lemmas.Int.{to_z-of_z}
use Rattle.store_rows.specs.believed.SeveralRows.{given}
use Rattle.walked_rows.specs.{StepOutcomes.BreaksBy, Rows.entry_key, Rows.rows_from, declared.ahead.TheConstants.AHEAD}
use Rattle.walked_rows.proofs.Under.{beyond, broken_first, first_under, from_its_key}
use Rattle.walked_rows.proofs.beside.gather_beside.Goals as goal

pub returns-in_err-key-in-Err-Damaged-clause-answers : goal.returns-in_err-key-in-Err-Damaged-clause-answers
returns-in_err-key-in-Err-Damaged-clause-answers g c all rise wide is =
    let from = c.args.from in
    let same = to_z-of_z w64 from c.ranges.from in
    let broke = broken_first (λ _. ⊥) (BreaksBy g.O.StoredRow.kind.reading) (rows_from from all) _ _
    c.in-Err-Damaged.field-0-is ((rw same at (c.in-Err-Damaged.ensures.answers all rise wide)) is) in
    absurd (let h = c.in_err-key-in-Err-Damaged.ensures.answers broke.0 _ (is ∙ ap (λ l. map given (take AHEAD l)) broke.2) in cc)

pub returns-then-key-from-clause-answers : goal.returns-then-key-from-clause-answers
returns-then-key-from-clause-answers g c all rise wide is =
    let from = c.args.from in
    let same = to_z-of_z w64 from c.ranges.from in
    let broke = broken_first (λ _. ⊥) (BreaksBy g.O.StoredRow.kind.reading) (rows_from from all) _ _
    c.in-Err-Damaged.field-0-is ((rw same at (c.in-Err-Damaged.ensures.answers all rise wide)) is) in
    let key : c.in_ok-key-in-Err-Damaged.key ≡ broke.0.key =
    let h = c.in_ok-key-in-Err-Damaged.ensures.answers broke.0 _ (is ∙ ap (λ l. map given (take AHEAD l)) broke.2) in cc in
    let within : c.in_ok-key-in-Err-Damaged.key ≤ℤ from = search rules in
    let low = subst (λ k. k ≤ℤ from) key within in
    subst (λ o. IsSomeAnd o (BreaksBy g.O.StoredRow.kind.reading c.in-Err-Damaged.rule))
    (sym (first_under from all broke.0 broke.1 broke.2 low)) broke.3

pub returns-in-Ok-clause-beyond : goal.returns-in-Ok-clause-beyond
returns-in-Ok-clause-beyond g c =
    let same = to_z-of_z w64 c.args.from c.ranges.from in
    beyond (λ r. entry_key (g.O.StoredRow.kind.entry r)) c.args.from c.gather.new.rows.items c.in-Ok.rest
    (rw same at c.in-Ok.ensures.rises) c.in-Ok.ensures.ended

pub returns-else-key-from-clause-answers : goal.returns-else-key-from-clause-answers
returns-else-key-from-clause-answers g c all rise wide is =
    let from = c.args.from in
    let same = to_z-of_z w64 from c.ranges.from in
    let broke = broken_first (λ _. ⊥) (BreaksBy g.O.StoredRow.kind.reading) (rows_from from all) _ _
    c.in-Err-Damaged.field-0-is ((rw same at (c.in-Err-Damaged.ensures.answers all rise wide)) is) in
    let key : c.in_ok-key-in-Err-Damaged.key ≡ broke.0.key =
    let h = c.in_ok-key-in-Err-Damaged.ensures.answers broke.0 _ (is ∙ ap (λ l. map given (take AHEAD l)) broke.2) in cc in
    let it : rows_from from all ≡ rows_from c.in_ok-key-in-Err-Damaged.key all =
    subst (λ k. rows_from from all ≡ rows_from k all) (sym key)
    (from_its_key from all broke.0 broke.1 rise broke.2) in
    let whole : to_z w64 (of_z w64 c.in_ok-key-in-Err-Damaged.key) ≡ c.in_ok-key-in-Err-Damaged.key =
    search (rules, to_z-of_z) in
    rw (c.clear.ensures, whole) it

pub returns-else-key-from-clause-beyond : goal.returns-else-key-from-clause-beyond
returns-else-key-from-clause-beyond g c = search rules

pub returns-in-Ok-clause-answers : goal.returns-in-Ok-clause-answers
returns-in-Ok-clause-answers g c all rise wide is =
    let same = to_z-of_z w64 c.args.from c.ranges.from in
    (rw same at (c.in-Ok.ensures.answers all rise wide)) is

pub returns-in-Err-Sqlite-clause-answers : goal.returns-in-Err-Sqlite-clause-answers
returns-in-Err-Sqlite-clause-answers g c all rise wide is =
    let same = to_z-of_z w64 c.args.from c.ranges.from in
    (rw (same, c.in-Err-Sqlite.field-0-is) at (c.in-Err-Sqlite.ensures.answers all rise wide)) is
