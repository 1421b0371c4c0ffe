-- What the statement of a walk reports, and what it leaves.
use Rattle.std.proofs.Common.{◌≡◌, inl, inr, zero, suc, ℕ, ℤ, List, [], ◌∷◌, map, filter, take, cond, Bool, true}
use Rattle.std.proofs.Common.{false, length, Ok, Err, Result, refl, sym, ap, ◌∙◌}
use Rattle.std.specs.Prelude.{MatchResult}
use Rattle.std.proofs.lemmas.Bool.{cases_Bool}
use Rattle.sqlite.specs.{Order.Row, Schema.Schema, Table.Table, Term.Term, Term.eval_all, Listing.understood}
use Rattle.sqlite.specs.{declared.error.Error.Error, declared.types.Value.TheVariants.Int}
use Rattle.sqlite.specs.State.{State, FailsToQuery, IsUnchanged, Shown}
use Rattle.sql_meanings.specs.believed.Entries.{Entry, HasWidth, stored}
use Rattle.sql_meanings.specs.StatementAnswers.{IsStoreError, OnlyShows, ReadFails, WriteFails}
use Rattle.sql_meanings.specs.Seeks.{begins, is_from, is_of_from, next_from, next_of_from}
use Rattle.sql_meanings.specs.believed.Tables.{width_of}
use Rattle.sql_meanings.proofs.{ReadSeeks.kept_all, ReadSeeks.reads_from, ReadSeeks.reads_of_from, ReadTables.ReadsAs}
use Rattle.posting_rules.specs.declared.fault.Rule.{Rule}
use Rattle.store_rows.specs.believed.SeveralRows.{given}
use Rattle.store_rows.specs.declared.fault.TableFault.{TableFault, TheVariants.Sqlite, TheVariants.Damaged}
use Rattle.store_rows.specs.View.{HoldsRows}
use Rattle.walked_rows.specs.{Rows.IsWide, Rows.rows_from, StepOutcomes.BreaksFirst}
use Rattle.walked_rows.specs.declared.ahead.TheConstants.{AHEAD}

-- ---- lists

-- rows that pass a test are as wide
pub wide_filter : (width : ℕ × ℕ) (p : Entry → Bool) (es : List Entry) → IsWide width es
    → IsWide width (filter p es)
wide_filter width p [] all = all
wide_filter width p (e ∷ es) all = go (p e) (wide_filter width p es all.1)
  where
    go : (b : Bool) → IsWide width (filter p es) → IsWide width (cond b (e ∷ filter p es) (filter p es))
    go true more = (all.0, more)
    go false more = more

-- each passes
pub all_pass : {X : Type 0} (p : X → Bool) → ((x : X) → p x ≡ true) → (xs : List X) → filter p xs ≡ xs
all_pass p each [] = refl
all_pass p each (x ∷ xs) = rw (each x) (ap (λ l. x ∷ l) (all_pass p each xs))

-- any row passes
pub all_given : {X : Type 0} (xs : List X) → filter (λ _. true) xs ≡ xs
all_given = all_pass (λ _. true) (λ _. refl)

-- two tests, one after the other
both_given : (one k : ℤ) (es : List Entry)
    → filter (is_of_from one k) es ≡ filter (is_from k) (filter (λ e. begins one e.values) es)
both_given one k [] = refl
both_given one k (e ∷ es) = elim (cases_Bool (begins one e.values)) [
  | inl is ↦ rw (is) (first (is_from k e) (both_given one k es))
  | inr away ↦ rw (away) (both_given one k es)
]
  where
    first : (b : Bool) → filter (is_of_from one k) es
        ≡ filter (is_from k) (filter (λ e. begins one e.values) es)
        → cond b (e ∷ filter (is_of_from one k) es) (filter (is_of_from one k) es)
        ≡ cond b (e ∷ filter (is_from k) (filter (λ e. begins one e.values) es))
        (filter (is_from k) (filter (λ e. begins one e.values) es))
    first true more = ap (λ l. e ∷ l) more
    first false more = more

taken : {X Y : Type 0} (f : X → Y) (n : ℕ) (xs : List X) → take n (map f xs) ≡ map f (take n xs)
taken f zero xs = refl
taken f (suc n) [] = refl
taken f (suc n) (x ∷ xs) = ap (λ l. f x ∷ l) (taken f n xs)

same_shown : (width : ℕ × ℕ) (f : Entry → Row) → ((e : Entry) → HasWidth width e → f e ≡ given e)
    → (es : List Entry) → IsWide width es → map f es ≡ map given es
same_shown width f same [] all = refl
same_shown width f same (e ∷ es) all =
    rw (same e all.0) (ap (λ l. given e ∷ l) (same_shown width f same es all.1))

-- ---- what is reported

-- why a seek fails is an error of the store
pub store_error : (old new : State) (e : Error) → ReadFails old new e → IsStoreError old new e
store_error old new e (inl fails) = inl fails
store_error old new e (inr limit) = inr (inr (limit.0, limit.1), limit.2)

module _ (old new : State) (table : Table) (free : table.references ≡ []) (rows : List Entry)
    (has : HoldsRows old.now table rows)
    (text : List ℕ) (project : List Term) {V : Type 0} (items : V → List Row) where
  -- the rows from a number on
  pub tells_from : (k : ℤ)
      → ReadsAs table text (Int k ∷ []) (λ t. next_from AHEAD t project)
      → ((e : Entry) → HasWidth (width_of table) e
      → eval_all project ((Int k ∷ []) ∷ stored e ∷ []) ≡ given e)
      → (r : Result V Error) → MatchResult r (λ v. Shown text (Int k ∷ []) old new (items v))
      (FailsToQuery text (Int k ∷ []) old new)
      → MatchResult r (λ v. items v ≡ map given (take AHEAD (rows_from k (filter (λ _. true) rows))))
      (IsStoreError old new)
  tells_from k reads whole (Ok v) ok =
      let answers = reads_from old new table free has.sound rows has.holds text AHEAD project k reads
      (Ok (items v)) ok in
      answers.0 ∙ ap (take AHEAD)
      (same_shown (width_of table) _ whole (filter (is_from k) rows)
      (wide_filter _ (is_from k) rows has.holds.rows.wide))
      ∙ taken given AHEAD (filter (is_from k) rows)
      ∙ ap (λ es. map given (take AHEAD (rows_from k es))) (sym (all_given rows))
  tells_from k reads whole (Err e) err =
      store_error old new e (reads_from old new table free has.sound rows has.holds text AHEAD project k reads
      (Err e) err)

  -- the same of those with a number after their keys
  pub tells_of_from : (one k : ℤ)
      → ReadsAs table text (Int one ∷ Int k ∷ []) (λ t. next_of_from AHEAD t project)
      → ((e : Entry) → HasWidth (width_of table) e
      → eval_all project ((Int one ∷ Int k ∷ []) ∷ stored e ∷ []) ≡ given e)
      → (r : Result V Error)
      → MatchResult r (λ v. Shown text (Int one ∷ Int k ∷ []) old new (items v))
      (FailsToQuery text (Int one ∷ Int k ∷ []) old new)
      → MatchResult r (λ v. items v
      ≡ map given (take AHEAD (rows_from k (filter (λ e. begins one e.values) rows)))) (IsStoreError old new)
  tells_of_from one k reads whole (Ok v) ok =
      let answers = reads_of_from old new table free has.sound rows has.holds text AHEAD project one k reads
      (Ok (items v)) ok in
      answers.0 ∙ ap (take AHEAD)
      (same_shown (width_of table) _ whole (filter (is_of_from one k) rows)
      (wide_filter _ (is_of_from one k) rows has.holds.rows.wide))
      ∙ taken given AHEAD (filter (is_of_from one k) rows)
      ∙ ap (λ es. map given (take AHEAD es)) (both_given one k rows)
  tells_of_from one k reads whole (Err e) err =
      store_error old new e (reads_of_from old new table free has.sound rows has.holds text AHEAD project one
      k reads (Err e) err)

-- What is known of the statement of a walk: it only shows rows, and these are shown so, from a number on.
pub record Walks (table : Table) (text : List ℕ) : Type 0 where
  pub project : List Term
  pub free : table.references ≡ []
  pub only : (schema : Schema) → OnlyShows text 1 (understood schema text)
  pub reads : (k : ℤ) → ReadsAs table text (Int k ∷ []) (λ t. next_from AHEAD t project)
  pub whole : (k : ℤ) (e : Entry) → HasWidth (width_of table) e
      → eval_all project ((Int k ∷ []) ∷ stored e ∷ []) ≡ given e

-- so it tells them
pub tells_walk : (old new : State) {table : Table} {text : List ℕ}
    (walk : Walks table text)
    (rows : List Entry) (has : HoldsRows old.now table rows) {V : Type 0} (items : V → List Row) (k : ℤ)
    (r : Result V Error) → MatchResult r (λ v. Shown text (Int k ∷ []) old new (items v))
    (FailsToQuery text (Int k ∷ []) old new)
    → MatchResult r (λ v. items v ≡ map given (take AHEAD (rows_from k (filter (λ _. true) rows))))
    (IsStoreError old new)
tells_walk old new {table} {text} walk rows has items k =
    tells_from old new table walk.free rows has text walk.project items k (walk.reads k)
    (walk.whole k)

module _ (old new : State) (text : List ℕ) (params : Row)
    (only : OnlyShows text (length params) (understood old.now.schema text)) where
  -- an answer has changed nothing
  pub same_after : (found : List Row) → Shown text params old new found → IsUnchanged old new
  same_after found h = kept_all old new text params (Ok found) only h

  -- nor has an error, unless the store failed
  pub fails_after : (e : Error) → FailsToQuery text params old new e → WriteFails old new
  fails_after e h = elim (kept_all old new text params (Err e) only h)
      [ inl fails ↦ inr fails.3 | inr same ↦ inl same ]

-- ---- answers

-- an answer with a fault in other words
pub match_err : {X E : Type 0} (P : X → Type 0) (Q T : E → Type 0) (r : Result X E) → ((e : E) → Q e → T e)
    → MatchResult r P Q → MatchResult r P T
match_err P Q T (Ok x) f h = h
match_err P Q T (Err e) f h = f e h

-- where the store can't have failed
pub never_first : (Failed : Error → Type 0) (Breaks : Rule → Entry → Type 0) (rows : List Entry) (fault : TableFault)
    → BreaksFirst (λ _. ⊥) Breaks rows fault → BreaksFirst Failed Breaks rows fault
never_first Failed Breaks rows (Sqlite e) never = absurd never
never_first Failed Breaks rows (Damaged broken) broke = broke
