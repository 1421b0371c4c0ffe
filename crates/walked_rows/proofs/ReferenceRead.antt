-- What the look-up of a reference tells.
use Rattle.std.proofs.Common.{◌≡◌, ℕ, ℤ, pos, List, [], ◌∷◌, map, Some, None, Option, Ok, Err, Result, codes, lit≤}
use Rattle.std.proofs.Common.{refl, sym, ap, subst, ◌∙◌}
use Rattle.std.specs.Prelude.{IsSomeAnd, MatchResult, option_map}
use Rattle.sqlite.specs.{Order.Row, Order.column, Program.overlay, Schema.Schema, Listing.understood, Term.Term}
use Rattle.sqlite.specs.{Term.col, Term.eval_all, declared.error.Error.Error}
use Rattle.sqlite.specs.State.{State, FailsToQuery, Shown}
use Rattle.sqlite.specs.declared.types.Value.TheVariants.{Null, Int, Text}
use Rattle.sqlite_tied.specs.Compute.{everything}
use Rattle.sqlite_resolve.specs.Program as program
use Rattle.sqlite_resolve.specs.Select.{ungrouped}
use Rattle.sql_meanings.specs.believed.Entries.{Entry, HasWidth, has_key, stored}
use Rattle.sql_meanings.specs.{Entries.listed, Queries.by_key, believed.Tables.tree_of}
use Rattle.sql_meanings.specs.StatementAnswers.{IsStoreError, OnlyShows, TellsRows}
use Rattle.sql_meanings.proofs.{Changes.found_all, Changes.found_key, KeyedAnswers.keyed_answer, ReadSeeks.QueriesAll}
use Rattle.sql_meanings.proofs.{ReadSeeks.reads_all, ReadTables.under_overlay, Texts.only_reads, Texts.select_of}
use Rattle.sql_meanings.proofs.Keyed.{Gets, first_key, gets_by}
use Rattle.store_rows.specs.believed.BankTables as bank
use Rattle.store_rows.specs.believed.SeveralRows.{given}
use Rattle.store_rows.specs.declared.fault.TableFault.{TableFault, TheVariants.Sqlite, TheVariants.Damaged}
use Rattle.store_rows.proofs.ShownValues.{places_are, text_shown}
use Rattle.walked_rows.specs.Pairs.{BreaksUnder, row_under}
use Rattle.walked_rows.specs.References.{BreaksReference, ReadsFirst, text_entry}
use Rattle.store_rows.specs.View.{HoldsRows}
use Rattle.store_rows.specs.declared.texts.TheConstants.{REFERENCE_UNDER}
use Rattle.walked_rows.proofs.{EntryShown.same_entry, Sought.store_error}

-- ---- the statement

abbrev project : List Term
project = col 1 2 ∷ []

gets : Gets bank.reference REFERENCE_UNDER.now (1 ∷ []) project
unfolding everything program.program ungrouped
gets = gets_by (select_of bank.reference REFERENCE_UNDER.now 1 _ _ _ _ _ _ _ _ _ refl refl refl (lit≤ tt) refl
    refl refl refl (λ _. refl) (lit≤ tt))
    _ _ _ _ _ (λ _. first_key (codes "ordinal") refl refl refl refl) refl refl refl refl refl refl
    (λ _ _ _ has. rw (has.low, has.found)) (λ _ _ _ _ has. rw (has.low, has.found))

-- under any schema it only shows rows
pub only_references : (schema : Schema)
    → OnlyShows REFERENCE_UNDER.now 1 (understood schema REFERENCE_UNDER.now)
only_references = only_reads gets.is

-- ---- a row

-- what it shows of a row
abbrev shown_of : ℤ → Entry → Row
shown_of k e = eval_all project ((Int k ∷ []) ∷ stored e ∷ [])

same_text : (text other : List ℕ) → Text text ≡ Text other → text ≡ other
same_text text other same = cc

same_number : (a b : ℤ) → Int a ≡ Int b → a ≡ b
same_number a b same = cc

-- a row is what its columns show
pub reference_is : (e : Entry) (row : Row) → row ≡ given e → HasWidth (0, 1) e → (n : ℕ) (text : List ℕ)
    → column row 0 ≡ Int (pos n) → column row 1 ≡ Text text → text_entry n text ≡ e
reference_is e row is wide n text key shows =
    same_entry (pos n) e.key [] e.values (text ∷ []) e.texts (same_number _ _ (sym key ∙ ap (λ (r : Row). column r 0) is))
    (places_are (pos 0) 0 e.values wide.0)
    (ap (λ t. t ∷ []) (same_text _ _ (sym shows ∙ ap (λ (r : Row). column r 1) is ∙ text_shown e wide))
    ∙ places_are [] 1 e.texts wide.1)

-- ---- what is read of it

module _ (Because : Error → Type 0) (n : ℕ) where
  -- so it is told, where the row is this one, or none
  abbrev Tells : Option Entry → Result (Option (List ℕ)) TableFault → Type 0
  Tells under (Ok found) = option_map (text_entry n) found ≡ under
  Tells under (Err (Sqlite e)) = Because e
  Tells under (Err (Damaged broken)) = IsSomeAnd under (BreaksReference broken)

  reads_row : (e : Entry) → HasWidth (0, 1) e → e.key ≡ pos n → (r : Result (Option (List ℕ)) TableFault)
      → ReadsFirst (shown_of (pos n) e ∷ []) r → Tells (Some e) r
  reads_row e wide at (Ok (Some text)) read =
      ap Some (reference_is e (given e) refl wide n text (ap (λ z. Int z) at) read)
  reads_row e wide at (Ok None) read = absurd read
  reads_row e wide at (Err (Sqlite x)) read = absurd read
  reads_row e wide at (Err (Damaged broken)) read = read

  reads_none : (r : Result (Option (List ℕ)) TableFault) → r ≡ Ok None → Tells None r
  reads_none r is = rw is refl

  reads_of : (under : Option Entry) → ((e : Entry) → under ≡ Some e → HasWidth (0, 1) e × (e.key ≡ pos n))
      → (found : List Row) → found ≡ map (shown_of (pos n)) (listed under)
      → (r : Result (Option (List ℕ)) TableFault) → ReadsFirst found r → Tells under r
  reads_of None is found are r read = reads_none r (subst (λ l. ReadsFirst l r) are read)
  reads_of (Some e) is found are r read =
      let both = is e refl in reads_row e both.0 both.1 r (subst (λ l. ReadsFirst l r) are read)

  in_words : (all : List Entry) (r : Result (Option (List ℕ)) TableFault) → Tells (row_under all (pos n)) r
      → MatchResult r (λ found. option_map (text_entry n) found ≡ row_under all (pos n))
      (BreaksUnder Because BreaksReference (pos n) all)
  in_words all (Ok found) h = h
  in_words all (Err (Sqlite e)) h = h
  in_words all (Err (Damaged broken)) h = h

-- ---- what is reported

module _ (old new : State) (all : List Entry) (has : HoldsRows old.now bank.reference all) (n : ℕ) where
  abbrev Asked : Result (List Row) Error → Type 0
  Asked = QueriesAll REFERENCE_UNDER.now (Int (pos n) ∷ []) old new

  answers : (r : Result (List Row) Error) → Asked r
      → TellsRows old new (map (shown_of (pos n)) (listed (row_under all (pos n)))) r
  answers = reads_all old new bank.reference refl has.sound REFERENCE_UNDER.now (Int (pos n) ∷ [])
      (λ tree. by_key tree project) (gets.reads (pos n)) has.holds.defined _
      (λ low rows sure. keyed_answer Null (tree_of old.now.schema bank.reference.name) project
      (overlay old.now.trees []) (pos n) [] rows all (under_overlay old.now.trees _ low has.holds.rows)
      (sure Null))

  -- the reference under the ordinal, of what was found
  pub tells_reference : (found : List Row) → Shown REFERENCE_UNDER.now (Int (pos n) ∷ []) old new found
      → (r : Result (Option (List ℕ)) TableFault) → ReadsFirst found r
      → MatchResult r (λ found. option_map (text_entry n) found ≡ row_under all (pos n))
      (BreaksUnder (IsStoreError old new) BreaksReference (pos n) all)
  tells_reference found shown r read =
      in_words (IsStoreError old new) n all r
      (reads_of (IsStoreError old new) n (row_under all (pos n))
      (λ e is. (
        found_all (λ x. HasWidth (0, 1) x) (has_key (pos n)) all e has.holds.rows.wide is,
        found_key (pos n) all e is,
      ))
      found (answers (Ok found) shown).0 r read)

  -- or why it wasn't found
  pub tells_failure : (e : Error) → FailsToQuery REFERENCE_UNDER.now (Int (pos n) ∷ []) old new e
      → IsStoreError old new e
  tells_failure e fails = store_error old new e (answers (Err e) fails)
