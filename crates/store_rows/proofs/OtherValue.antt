-- What a text that only reads has shown, whatever the tables. A value of another type in the row of the bank.
use Rattle.std.proofs.Common.{◌≡◌, ℕ, pos, List, [], ◌∷◌, append-nil, length, inl, inr, Ok, Err, Option, Some, None}
use Rattle.std.proofs.Common.{Result, ap, subst, ◌∙◌}
use Rattle.std.specs.Prelude.{IfErr, IfOk}
use Rattle.sqlite.specs.{Clock.timed, Effect.Database, Listing.understood, Order.Row, declared.error.Error.Error}
use Rattle.sqlite.specs.State.{State, QueriesRow, QueriesRowInside, Begins}
use Rattle.sqlite.specs.State.{Shown}
use Rattle.sql_meanings.specs.StatementAnswers.{OnlyShows}
use Rattle.store_rows.specs.{Columns.meta_of, Failures.ReadsAnswer}
use Rattle.store_rows.specs.{Shown.ShowsFirst, declared.fault.TableFault.TableFault, declared.metas.StoredMeta.StoredMeta}
use Rattle.store_rows.specs.{declared.metas.TheConstants.META_ID, declared.texts.TheConstants.GET_META}
use Rattle.store_rows.specs.Statements.{TellsOther}
use Rattle.store_rows.specs.declared.fault.TableFault.TheVariants.{Sqlite, Damaged}
use Rattle.sqlite.specs.declared.types.Value.TheVariants.{Int}

untimed : (params : Row) (formats : List (List ℕ)) (now : ℕ) → formats ≡ []
    → timed params formats now ≡ params
untimed params formats now none = ap (λ fs. timed params fs now) none ∙ append-nil params

-- what a text that only shows rows reported is what it shows
pub first_told : (old new : State) (text : List ℕ) (params : Row) (r : Result Row Error)
    → OnlyShows text (length params) (understood old.now.schema text) → QueriesRowInside text params old new r
    → IfOk r (ShowsFirst text params old.now)
unfolding QueriesRow Begins Shown
first_told old new text params (Err e) only h = tt
first_told old new text params (Ok row) only (inl begun) =
    let b = begun.0 in
    let same = untimed params b.0.formats b.1.now (only b.0 b.1.is).timeless in
    (b.0, b.1.is, b.3, b.4, inl (rw same at b.5))
first_told old new text params (Ok row) only (inr whole) =
    let b = whole.1 in
    let one = only b.0 b.1.is in
    let same = untimed params b.0.formats b.1.now one.timeless in
    let it = rw one.bare at b.2 in
    (b.0, b.1.is, it.0, it.1, inr (whole.0, rw same at it.2, whole.2))

-- a row that can't be read has such a value
pub other_told : (db : Database) (answer : Result Row Error) (result : Result (Option StoredMeta) TableFault)
    → IfOk answer (ShowsFirst GET_META.now (Int (pos META_ID) ∷ []) db)
    → ReadsAnswer meta_of answer result
    → IfErr result (TellsOther db)
other_told db answer (Ok found) shows read = tt
other_told db answer (Err (Sqlite e)) shows read = tt
other_told db (Ok row) (Err (Damaged rule)) shows read =
    (row, shows, λ m is. let no = rw is at read in cc)
other_told db (Err e) (Err (Damaged rule)) shows read = absurd (let same = read.0 in cc)
