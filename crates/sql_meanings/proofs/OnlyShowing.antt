-- A SELECT shows rows and writes nothing, whatever the schema makes of it.
use Rattle.sql_meanings.specs.Names.{ℕ, List, [], length, Ok, Err, Result, Bool, true, false, cond, Schema}
use Rattle.sql_meanings.specs.Names.{Row, Command, Parsed, Compiled, CompileError, Checked, compiled, first, planned}
use Rattle.sql_meanings.specs.Names.{timed, meaning, returning, command, shows, read, understood, listing_schema}
use Rattle.sql_meanings.specs.Names.{reads_listing, if_select, is_select, NoSuchTable, State, IsUnchanged, QueriesRow}
use Rattle.sql_meanings.specs.Names.{QueriesRowInside, FailsToQuery, IsNotRun, Error, QueryReturnedNoRows}
use Rattle.sql_meanings.specs.Names.{store_error, StoreError, OutOfMemory}
use Rattle.sql_meanings.proofs.Names.{inl, inr, refl, sym, subst, ◌∙◌}
use Rattle.sqlite.specs.State.{Shown}
use Rattle.sql_meanings.proofs.Statements.{compiled_select}
use Rattle.sql_meanings.specs.StatementAnswers.{IsOne, OnlyShows, ReadKept}
use Rattle.sqlite_ast.specs.declared.Statement.TheVariants as written
use Rattle.sqlite_ast.specs.declared.Select as written_select
use Rattle.std.specs.Prelude.{◌≡◌, ◌≤◌}

module _ (text : List ℕ) (count : ℕ) (P : Parsed) (s : written_select.Select) (parsed : first text ≡ Ok P)
    (is : P.statement ≡ written.Select s) (plain : P.formats ≡ [])
    (whole : length text ≤ P.tail) (given : count ≡ length P.names) where
  same_compiled : {a b : Compiled} → ◌≡◌ {A = Checked Compiled} (Ok a) (Ok b) → a ≡ b
  same_compiled e = cc

  refused : (schema : Schema) (e : CompileError) → read schema s ≡ Err e → compiled schema text ≡ Err e
  unfolding compiled planned timed meaning returning command shows
  refused schema e made = rw (parsed, is, plain, made)

  -- what it compiles to is one statement
  pub only_shows : (schema : Schema) → OnlyShows text count (compiled schema text)
  only_shows schema = go (read schema s) refl
    where
      go : (r : Checked Command) → read schema s ≡ r → OnlyShows text count (compiled schema text)
      go (Ok k) made c same =
          subst (IsOne text count) (same_compiled
          (sym (compiled_select schema text P s k parsed is plain made) ∙ same))
          (record { bare = refl; timeless = refl; whole = whole; given = given })
      go (Err e) made c same = absurd (let it = sym same ∙ refused schema e made in cc)

  by_listing : (b : Bool) (x y : Result Compiled CompileError) → OnlyShows text count x
      → OnlyShows text count y
      → OnlyShows text count (cond b x y)
  by_listing true x y p q = p
  by_listing false x y p q = q

  if_shown : (r : Result Compiled CompileError) → OnlyShows text count r → OnlyShows text count (if_select r)
  if_shown (Err e) h = λ c same. absurd (cc)
  if_shown (Ok d) h = go (is_select d.command)
    where
      go : (b : Bool) → OnlyShows text count (cond b (Ok d) (Err NoSuchTable))
      go true = h
      go false = λ c same. absurd (cc)

  -- a SELECT is one under every schema
  pub only_understood : (schema : Schema) → OnlyShows text count (understood schema text)
  unfolding understood
  only_understood schema =
      by_listing (reads_listing schema text) (if_select (compiled listing_schema text)) (compiled schema text)
      (if_shown (compiled listing_schema text) (only_shows listing_schema)) (only_shows schema)

-- whatever a row is read of
pub kept_reading : (old new : State) (text : List ℕ) (params : Row) (r : Result Row Error)
    → OnlyShows text (length params) (understood old.now.schema text) → QueriesRowInside text params old new r
    → ReadKept old new r
unfolding QueriesRow FailsToQuery IsNotRun Shown
kept_reading old new text params (Ok row) only (inl begun) = begun.1
kept_reading old new text params (Ok row) only (inr whole) = let it = rw
    ((only whole.1.0 whole.1.1.is).bare) at whole.1.2 in it.3
kept_reading old new text params (Err e) only (inl (inl (inl (inl none)))) = inr none.1
kept_reading old new text params (Err e) only (inl (inl (inl (inr fails)))) = inl fails
kept_reading old new text params (Err e) only (inl (inl (inr shown))) = let it = rw
    ((only shown.0 shown.1.is).bare) at shown.2 in
    inr it.3
kept_reading old new text params (Err e) only (inl (inr none)) = let it = rw
    ((only none.1.0 none.1.1.is).bare) at none.1.2 in inr it.3
kept_reading old new text params (Err e) only (inr late) = absurd
    (let it = rw ((only late.0 late.1.is).bare) at late.2 in cc)

-- no fault of the store is told as no rows
pub no_rows_error : (cause : StoreError) → ¬ (QueryReturnedNoRows ≡ store_error cause)
no_rows_error OutOfMemory e = cc
no_rows_error other e = cc

-- an answer of no rows has changed nothing
pub kept_none : (old new : State) → ReadKept {X = Row} old new (Err QueryReturnedNoRows) → IsUnchanged old new
kept_none old new (inl fails) = absurd (no_rows_error fails.0 fails.1)
kept_none old new (inr same) = same
