-- What a refusal of rows says of the tables of a bank.
use Rattle.std.proofs.Common.{◌≡◌, ℕ, ◌≤◌, ◌==◌, pos, List, [], ◌∷◌, map, is_some, nat_lt, inl, inr, Bool, true}
use Rattle.std.proofs.Common.{false, Some, None, Option, Less, int_cmp, refl, subst, ◌∙◌, sym, arith, ◌⊎◌, ℤ, Result}
use Rattle.std.proofs.Common.{Ok, Err, cond}
use Rattle.std.specs.List.{AllByRecursion}
use Rattle.std.proofs.{lemmas.Bool.cases_Bool, lemmas.Bool.false_from_ne_true, lemmas.Int.ints, Math.Logic.∥∥₁_elim}
use Rattle.sqlite.specs.{Schema.Schema, Table.Table, Effect.Database, Order.Row, State.State, State.ExecutesInside}
use Rattle.sqlite.specs.{State.IsUnchanged, declared.error.Error.Error, declared.types.Value.TheVariants.Int}
use Rattle.sqlite_rules.specs.Lists.{Has}
use Rattle.sqlite_sql.specs.Ops.{fits_i64}
use Rattle.posting_rules.specs.believed.{Tables.Tables, Tables.row_at, Changes.row_put}
use Rattle.sql_meanings.specs.believed.{Entries.Entry, Entries.Rise, StatementAnswers.is_taken_key, Tables.Holds}
use Rattle.sql_meanings.specs.Entries.{put}
use Rattle.sql_meanings.specs.StatementAnswers.{Forbids, PutFails, WriteFails}
use Rattle.sql_meanings.proofs.{Changes.found_all, Changes.found_passes, Makings.kept_inside, PuttingIn.key_taken}
use Rattle.sql_meanings.proofs.Failures.{other_error, put_fails_as}
use Rattle.posting_rules.specs.declared.fault.Rule.TheVariants.{Key}
use Rattle.store_rows.specs.declared.fault.TableFault.TheVariants.{Sqlite, Damaged}
use Rattle.store_rows.specs.believed.Failures.{Putting, inserts}
use Rattle.store_rows.specs.{Failures.Puts, TableAnswers.PutsOneRow, TableAnswers.IsForbidden, Faults.added}
use Rattle.store_rows.specs.{believed.View.Shows, declared.statements.TheConstants.MAX_KEY}
use Rattle.store_rows.proofs.RowLists.{put_rows}

-- a number of at most twelve digits is a key that a file can hold
pub key_fits : (k : ℕ) → k ≤ MAX_KEY → fits_i64 (pos k) ≡ true
key_fits k low = grind arith

-- where a table can't have its rows no file shows the tables
pub forbidden : (schema : Schema) (t : Tables) (table : Table) (entries : List Entry)
    → ((db : Database) → Shows db t → Holds db table entries)
    → Forbids schema table entries → IsForbidden schema table t
forbidden schema t table entries held none = (
  none.0,
  λ trees shows. ∥∥₁_elim shows.sound (λ x y. absurd x)
      (λ it. none.1 trees it (held _ shows).rows.are),
)

not_above : (a b c : ℕ) → nat_lt a b ≡ false → int_cmp (pos b) (pos a) ≡ Less → int_cmp (pos a) (pos c) ≡ Less
    → (c == b) ≡ true → ⊥
not_above a b c high less more same = grind (arith, ints)

not_itself : (a b : ℕ) → nat_lt a b ≡ true → (a == b) ≡ true → ⊥
not_itself a b low same = grind arith

not_first : (a b : ℕ) → int_cmp (pos b) (pos a) ≡ Less → (a == b) ≡ true → ⊥
not_first a b less same = grind (arith, ints)

module _ {R : Type 0} (key : R → ℕ) (entry : R → Entry) (keyed : (r : R) → (entry r).key ≡ pos (key r)) where
  order : (a b : R) → int_cmp (entry a).key (entry b).key ≡ Less → int_cmp (pos (key a)) (pos (key b)) ≡ Less
  order a b h = subst (λ z. int_cmp (pos (key a)) z ≡ Less) (keyed b)
      (subst (λ z. int_cmp z (entry b).key ≡ Less) (keyed a) h)

  -- the row with the key is among the rest
  later : (k : ℕ) (r : R) (rows : List R) → (key r == k) ≡ false → is_some (row_at key (r ∷ rows) k) ≡ true
      → is_some (row_at key rows k) ≡ true
  later k r rows other h = rw other at h

  each_row : (P : Entry → Type 0) (rows : List R) → AllByRecursion P (map entry rows)
      → AllByRecursion (λ r. P (entry r)) rows
  each_row P [] all = tt
  each_row P (r ∷ rows) all = (all.0, each_row P rows all.1)

  -- no row has a key that is below them all
  none_below : (new r : R) (rows : List R) → nat_lt (key r) (key new) ≡ false
      → int_cmp (entry new).key (entry r).key ≡ Less
      → AllByRecursion (λ x. int_cmp (entry r).key x.key ≡ Less) (map entry rows) → (o : Option R)
      → row_at key rows (key new) ≡ o
      → is_some o ≡ true → ⊥
  none_below new r rows high less above None is taken = absurd cc
  none_below new r rows high less above (Some x) is taken =
      let more = found_all (λ y. int_cmp (entry r).key (entry y).key ≡ Less) (λ y. key y == key new) rows x
      (each_row (λ y. int_cmp (entry r).key y.key ≡ Less) rows above) is in
      not_above (key r) (key new) (key x) high (order new r less) (order r x more)
      (found_passes (λ y. key y == key new) rows x is)

  -- a row that is put in where its key is taken leaves keys that don't rise
  pub taken_falls : (new : R) (rows : List R) → is_some (row_at key rows (key new)) ≡ true
      → Rise (map entry rows)
      → ¬ Rise (map entry (row_put key new rows))
  taken_falls new [] taken rise h = absurd cc
  taken_falls new (r ∷ rows) taken rise h = elim (cases_Bool (nat_lt (key r) (key new))) [
    | inl low ↦ taken_falls new rows (later (key new) r rows
        (false_from_ne_true _ (λ same. not_itself (key r) (key new) low same)) taken)
        rise.1 (rw low at h).1
    | inr high ↦ let falls = rw high at h in
        none_below new r rows high falls.0.0 rise.0 (row_at key rows (key new)) refl
        (later (key new) r rows (false_from_ne_true _
        (λ same. not_first (key r) (key new) (order new r falls.0.0) same)) taken)
  ]

  -- where the table can't have the row more no file shows the tables with it
  pub forbidden_put : (schema : Schema) (after : Tables) (table : Table) (new : R) (rows : List R)
      → Rise (map entry rows)
      → ((db : Database) → Shows db after → Holds db table (map entry (row_put key new rows)))
      → Forbids schema table (put (entry new) (map entry rows)) → IsForbidden schema table after
  forbidden_put schema after table new rows rise held none = elim
      (cases_Bool (is_some (row_at key rows (key new)))) [
        | inl taken ↦ (none.0, λ trees shows. taken_falls new rows taken rise (held _ shows).rows.rise)
        | inr free ↦ forbidden schema after table (map entry (row_put key new rows)) held
            (subst (Forbids schema table) (put_rows key entry keyed new rows free) none)
      ]

-- ---- what an error of an INSERT is reported as

-- a key was taken, or why else the row wasn't put in
pub adds_err : (old new : State) (table : Table) (there taken : Bool) (P : Type 0) (after : Tables)
    (e : Error) → there ≡ taken
    → (P → IsForbidden old.now.schema table after)
    → ((e ≡ key_taken) × (there ≡ true) × IsUnchanged old new) ⊎ PutFails old new table P e
    → PutsOneRow old new table taken after (added (Err e))
adds_err old new table there taken P after e same then (inl (is, found, kept)) =
    subst (λ x. PutsOneRow old new table taken after (added (Err x))) (sym is) (refl, sym same ∙ found, kept)
adds_err old new table there taken P after e same then (inr fails) =
    rw (other_error old new table P e fails)
    (put_fails_as old new table P e (IsForbidden old.now.schema table after) then fails)

-- whatever the rows, what an INSERT leaves
pub puts_added : (old new : State) (text : List ℕ) (params : Row) (answer : Result ℕ Error)
    → ExecutesInside 0 text params old new answer → (key : ℤ) (rest : Row) → params ≡ Int key ∷ rest
    → Has inserts text → Puts text params old new (added answer)
puts_added old new text params (Ok count) h key rest is among = h.1
puts_added old new text params (Err e) h key rest is among = go (is_taken_key e) refl
  where
    fails : WriteFails old new
    fails = kept_inside old new text params (Err e) h

    go : (b : Bool) → is_taken_key e ≡ b
        → Puts {X = Unit {0}} text params old new (cond b (Err (Damaged Key)) (Err (Sqlite e)))
    go true taken = (fails, (refl, (key, rest, e, among, is, h, taken)))
    go false free = (fails, Putting text params among h free)
