-- What was read of a row, and what is reported of it.
use Rattle.std.proofs.Common.{◌≡◌, inl, inr, Option, Some, None, option_map, Result, Ok, Err, refl, sym, subst, ap}
use Rattle.std.proofs.Common.{◌∙◌}
use Rattle.sqlite.specs.{Order.Row, State.State, State.IsUnchanged, declared.error.Error.Error}
use Rattle.sqlite.specs.{declared.error.Error.TheVariants.QueryReturnedNoRows}
use Rattle.sql_meanings.specs.{believed.Entries.Entry, StatementAnswers.IsStoreError, StatementAnswers.TellsRow}
use Rattle.sql_meanings.proofs.OnlyShowing.{no_rows_error}
use Rattle.posting_rules.specs.declared.fault.Rule.{Rule}
use Rattle.store_rows.specs.{declared.fault.TableFault.TableFault, Columns.meta_of, Columns.meta_shown}
use Rattle.store_rows.specs.{declared.metas.StoredMeta.StoredMeta, Failures.ReadsAnswer, believed.Readings.Reading}
use Rattle.store_rows.specs.declared.fault.TableFault.TheVariants.{Sqlite, Damaged}
use Rattle.store_rows.specs.TableAnswers.{Finds, FindsMeta}

the_row : {a b : Row} → Some a ≡ Some b → b ≡ a
the_row e = cc

module _ {X Y : Type 0} (old new : State) (shown : Y → Row) (read : Reading X) (wanted : Option Y) where
  -- what the row of what was looked for reads as, and nothing has changed; or the store failed
  abbrev Reports : Result (Option X) TableFault → Type 0
  Reports (Ok None) = (wanted ≡ None) × IsUnchanged old new
  Reports (Ok (Some x)) = ((y : Y) × (wanted ≡ Some y) × (read (shown y) ≡ Ok x)) × IsUnchanged old new
  Reports (Err (Sqlite e)) = IsStoreError old new e
  Reports (Err (Damaged broken)) = ((y : Y) × (wanted ≡ Some y) × (read (shown y) ≡ Err broken)) × IsUnchanged old new

  -- a row is that of what was looked for
  row_of : (row : Row) (o : Option Y) → wanted ≡ o → option_map shown o ≡ Some row → (r : Result X Rule)
      → read row ≡ r → (y : Y) × (wanted ≡ Some y) × (read (shown y) ≡ r)
  row_of row None is answers r reads = absurd cc
  row_of row (Some y) is answers r reads = (y, is, ap read (sym (the_row answers)) ∙ reads)

  -- no row is reported if nothing was looked for
  none_told : (o : Option Y) → wanted ≡ o → TellsRow old new (option_map shown o) (Err QueryReturnedNoRows)
      → Reports (Ok None)
  none_told None is (inl none) = (is, none.2)
  none_told (Some y) is (inl none) = absurd (let e = none.1 in cc)
  none_told o is (inr (inl fails)) = absurd (no_rows_error fails.0 fails.1)
  none_told o is (inr (inr limit)) = absurd (let e = limit.0 in cc)

  -- what is reported of the answer of a query
  reports : (answer : Result Row Error) (result : Result (Option X) TableFault) → ReadsAnswer read answer result
      → TellsRow old new (option_map shown wanted) answer → Reports result
  reports (Ok row) (Ok (Some x)) reads answers = (row_of row wanted refl answers.0 (Ok x) reads, answers.1)
  reports (Ok row) (Ok None) reads answers = absurd reads
  reports (Ok row) (Err (Sqlite e)) reads answers = absurd reads
  reports (Ok row) (Err (Damaged broken)) reads answers = (row_of row wanted refl answers.0 (Err broken) reads, answers.1)
  reports (Err e) (Ok (Some x)) reads answers = absurd reads
  reports (Err e) (Ok None) reads answers =
      none_told wanted refl (subst (λ e. TellsRow old new (option_map shown wanted) (Err e)) reads answers)
  reports (Err e) (Err fault) reads answers = subst (λ f. Reports (Err f)) (sym reads.0) (failed answers)
    where
      failed : TellsRow old new (option_map shown wanted) (Err e) → IsStoreError old new e
      failed (inl none) = absurd (reads.1 none.0)
      failed (inr (inl fails)) = inl fails
      failed (inr (inr limit)) = inr (inr (limit.0, limit.1), limit.2)

-- of a stored row
pub finds : {X : Type 0} (old new : State) (shown : Entry → Row) (read : Reading X) (stored : Option Entry)
    (answer : Result Row Error) (result : Result (Option X) TableFault) → ReadsAnswer read answer result
    → TellsRow old new (option_map shown stored) answer → Finds old new stored (λ e. read (shown e)) result
finds {X} old new shown read stored answer result reads answers =
    go result (reports old new shown read stored answer result reads answers)
  where
    go : (r : Result (Option X) TableFault) → Reports old new shown read stored r
        → Finds old new stored (λ e. read (shown e)) r
    go (Ok None) it = it
    go (Ok (Some x)) it = it
    go (Err (Sqlite e)) it = it
    go (Err (Damaged broken)) it = it

-- of the row of the bank, which reads as its numbers
pub finds_meta : (old new : State) (wanted : Option StoredMeta) (answer : Result Row Error)
    (result : Result (Option StoredMeta) TableFault) → ReadsAnswer meta_of answer result
    → TellsRow old new (option_map meta_shown wanted) answer → FindsMeta old new wanted result
finds_meta old new wanted answer result reads answers =
    go result (reports old new meta_shown meta_of wanted answer result reads answers)
  where
    go : (r : Result (Option StoredMeta) TableFault) → Reports old new meta_shown meta_of wanted r
        → FindsMeta old new wanted r
    go (Ok None) it = (sym it.0, it.1)
    go (Ok (Some x)) it = (let is = it.0.1 in let same = it.0.2 in cc, it.1)
    go (Err (Sqlite e)) it = it
    go (Err (Damaged broken)) it = absurd (let no = it.0.2 in cc)
