-- The row of the bank, where it is the only row of `meta`.
use Rattle.std.proofs.Common.{◌≡◌, ◌∙◌, inl, inr, ℕ, ℤ, List, [], ◌∷◌, length, map, take, filter, Option, Some, None}
use Rattle.std.proofs.Common.{Ok, true, refl, sym, ap, subst, arith}
use Rattle.sqlite.specs.Effect.{Database, RefusesToRead}
use Rattle.sqlite.specs.{Listing.understood, Order.Row, Term.Term, declared.error.Error.Error}
use Rattle.sqlite.specs.{declared.error.Error.TheVariants.QueryReturnedNoRows, declared.types.Value.TheVariants.Int}
use Rattle.sqlite.specs.State.{FailsToQuery, IsNoStatement, IsNotRun, QueriesRow, Shown, State}
use Rattle.sqlite_schema.specs.declared.command.Command.{Command}
use Rattle.sqlite_schema.specs.declared.command.Command.TheVariants as command
use Rattle.sql_meanings.specs.{believed.Entries.Entry, StatementAnswers.OnlyShows}
use Rattle.sql_meanings.proofs.OnlyShowing.{no_rows_error}
use Rattle.sqlite_rules.specs.Lists.{Has}
use Rattle.store_rows.specs.believed.Failures.{Asking, HasFailed, queries}
use Rattle.store_rows.specs.{believed.SeveralRows.given, declared.metas.StoredMeta.StoredMeta}
use Rattle.store_rows.specs.declared.texts.TheConstants.{METAS_FROM}
use Rattle.walked_rows.specs.OnlyMeta.{TakesOnly, TakesRow, TellsOnly, meta_with}
use Rattle.walked_rows.specs.Rows.{HasStoredRows, IsWide, LEAST, entry_key, holds_rows, rows_from}
use Rattle.walked_rows.specs.declared.ahead.TheConstants.{AHEAD}
use Rattle.walked_rows.proofs.{Keys.all_left, Sought.all_given, Sought.tells_walk, WalkTexts.walks_metas}

-- ---- what is told of the rows

first_is : {X : Type 0} (x y : X) → x ∷ [] ≡ y ∷ [] → x ≡ y
first_is x y same = cc

one_told : (key : ℤ) (values : List ℤ) (texts : List (List ℕ)) (m : Option StoredMeta) → length values ≡ 2
    → length texts ≡ 0 → TakesRow (given (record { key = key; values = values; texts = texts })) m
    → TellsOnly (record { key = key; values = values; texts = texts } ∷ []) m
one_told key [] texts m wide none takes = absurd (omega arith)
one_told key (a ∷ []) texts m wide none takes = absurd (omega arith)
one_told key (a ∷ b ∷ c ∷ more) texts m wide none takes = absurd (omega arith)
one_told key (a ∷ b ∷ []) (t ∷ texts) m wide none takes = absurd (omega arith)
one_told key (a ∷ b ∷ []) [] (Some m) wide none takes =
    let it = takes key a b refl in rw (it.0, it.1, it.2) refl
one_told key (a ∷ b ∷ []) [] None wide none takes =
    λ version decided same. takes version decided (ap given (first_is _ _ same))

pub only_told : (rows : List Entry) (found : List Row) (m : Option StoredMeta) → found ≡ map given (take AHEAD rows)
    → IsWide (2, 0) rows → TakesOnly found m → TellsOnly rows m
only_told [] found m is wide takes =
    subst (TellsOnly []) (sym (subst (λ l. TakesOnly l m) is takes)) (λ version decided same. cc)
only_told (e ∷ []) found m is wide takes =
    one_told e.key e.values e.texts m wide.0.0 wide.0.1 (subst (λ l. TakesOnly l m) is takes)
only_told (e ∷ f ∷ more) found m is wide takes =
    subst (TellsOnly (e ∷ f ∷ more)) (sym (subst (λ l. TakesOnly l m) is takes)) (λ version decided same. cc)

-- all rows are shown, up to as many as are read ahead
pub tells_only : (old new : State) (checks : List Term) (rows : List Entry)
    → HasStoredRows old.now (meta_with checks) rows → (found : List Row) (m : Option StoredMeta)
    → Shown METAS_FROM.now (Int LEAST ∷ []) old new found → TakesOnly found m → TellsOnly rows m
tells_only old new checks rows has found m shows takes =
    let answers = tells_walk old new (walks_metas checks) rows (holds_rows has) {V = List Row} (λ v. v) LEAST (Ok found) shows in
    let all : rows_from LEAST (filter (λ _. true) rows) ≡ rows =
    ap (rows_from LEAST) (all_given rows) ∙ all_left entry_key rows has.least in
    only_told rows found m (answers ∙ ap (λ es. map given (take AHEAD es)) all) has.holds.rows.wide takes

-- ---- why it isn't known

no_statement : (s : State) (text : List ℕ) (params : Row) → IsNoStatement s text params QueryReturnedNoRows → ⊥
no_statement s text params (inl h) = let it = h.2 in cc
no_statement s text params (inr (c, is, inl h)) = let it = h.1 in cc
no_statement s text params (inr (c, is, inr (inl h))) = let it = h.1 in cc
no_statement s text params (inr (c, is, inr (inr h))) = let it = h.1 in cc

not_refused : (limit : Option ℕ) (k : Command) (db : Database) (params : Row)
    → RefusesToRead limit k db params QueryReturnedNoRows → ⊥
not_refused limit (command.Select q names) db params (inl h) = let it = h.0 in cc
not_refused limit (command.Select q names) db params (inr (inl h)) = let it = h.0 in cc
not_refused limit (command.Select q names) db params (inr (inr h)) = let it = h.0 in cc
not_refused limit (command.Insert at from) db params h = cc
not_refused limit (command.InsertOr at how from clauses) db params h = cc
not_refused limit (command.Update at q) db params h = cc
not_refused limit (command.Delete at q) db params h = cc
not_refused limit command.CreateTable db params h = cc
not_refused limit (command.CreateIndex at) db params h = cc
not_refused limit command.CreateView db params h = cc
not_refused limit (command.DropTable at) db params h = cc
not_refused limit (command.DropIndex at) db params h = cc
not_refused limit (command.DropView at) db params h = cc
not_refused limit (command.Rows values width names) db params h = let it = h.0 in cc
not_refused limit command.Begin db params h = cc
not_refused limit command.Commit db params h = cc
not_refused limit command.Rollback db params h = cc
not_refused limit (command.Savepoint name) db params h = cc
not_refused limit (command.Release name) db params h = cc
not_refused limit (command.RollbackTo name) db params h = cc
not_refused limit command.Nothing db params h = cc

-- a query of all rows is never answered that there is none
not_none : (old new : State) (text : List ℕ) (params : Row)
    → OnlyShows text (length params) (understood old.now.schema text)
    → FailsToQuery text params old new QueryReturnedNoRows → ⊥
unfolding FailsToQuery IsNotRun
not_none old new text params only (inl (inl h)) = no_statement old text params h.0
not_none old new text params only (inl (inr fails)) = no_rows_error fails.0 fails.1
not_none old new text params only (inr shows) =
    let it = rw ((only shows.0 shows.1.is).bare) at shows.2 in
    not_refused old.step_limit shows.0.command it.0 _ it.2

-- so that it failed
pub query_failed : (old new : State) (text : List ℕ) (params : Row) (e : Error) → Has queries text
    → OnlyShows text (length params) (understood old.now.schema text) → FailsToQuery text params old new e
    → HasFailed old new e
unfolding QueriesRow
query_failed old new text params e ours only h =
    Asking text params ours (inl (inl h)) (λ is. not_none old new text params only
    (subst (FailsToQuery text params old new) is h))
