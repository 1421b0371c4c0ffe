-- Where its name is free, a CREATE TABLE is understood, and only a full file refuses it.
use Rattle.sql_meanings.specs.Names.{ℕ, not, List, [], length, Bool, true, false, Ok, None, Some, Option, is_some}
use Rattle.sql_meanings.specs.Names.{codes, slice_get, option_and_then, position_from, created, is_used, next_tree}
use Rattle.sql_meanings.specs.Names.{lacks_sequence, understood, sequence, Schema, Table, Error, SqliteFailure}
use Rattle.sql_meanings.specs.Names.{SchemaTooBig, index_named, same_name, table_named, Parsed, compiled, first}
use Rattle.sql_meanings.specs.Names.{planned, timed, meaning, returning, command, create_table, creates, is_attached}
use Rattle.sql_meanings.specs.Names.{is_reserved, with_command}
use Rattle.sql_meanings.proofs.Names.{refl, sym, ap, ◌∙◌, inl, inr, append-nil, suc, zero, and_right, cases_Bool}
use Rattle.sql_meanings.proofs.Names.{or_parts, not-false}
use Rattle.sqlite.specs.Command.TheVariants.{CreateTable as MakeTable}
use Rattle.sqlite_ast.specs.declared.CreateTable.{CreateTable}
use Rattle.sqlite_catalog.proofs.StepLemmas.{no_table, no_index, no_view}
use Rattle.sql_meanings.specs.{Making.NotMade, Making.counts_rows, StatementAnswers.IsUnderstood}
use Rattle.sql_meanings.proofs.TableStands.{counts_created}
use Rattle.sqlite_ast.specs.declared.Statement.TheVariants as written
use Rattle.sqlite_resolve.specs.Define as define
use Rattle.std.specs.Prelude.{◌≡◌, ◌+◌, ◌++◌, ◌==◌, ◌&&◌, ◌∷◌}

module _ (schema : Schema) (def : CreateTable) (t : Table) (defined : define.table [] def ≡ Ok t)
    (stamped : (length t.computed == length t.stamps.places && not def.resolves) ≡ true)
    (own : is_reserved def.name ≡ false) (free : is_used schema def.name ≡ false) where
  unattached : is_attached schema def.name ≡ false
  unfolding is_attached
  unattached = rw (no_view schema def.name free) refl

  -- the definition is taken
  taken : create_table schema [] def ≡ Ok MakeTable
  unfolding create_table creates define.table define.unchecked
  taken = rw (
    unattached,
    own,
    no_index schema def.name free,
    no_table schema def.name free,
    no_view schema def.name free,
    defined,
    stamped,
  ) refl

  -- the text is understood
  pub free_understood : (text : List ℕ) (P : Parsed) → first text ≡ Ok P → P.statement ≡ written.CreateTable def
      → P.formats ≡ [] → IsUnderstood schema text
  unfolding understood compiled planned timed meaning returning command
  free_understood text P parsed is plain =
      (with_command P ([], (MakeTable, None)), rw (parsed, is, plain, taken) refl)

-- ---- the table that counts for AUTOINCREMENT

placed_more : {X : Type 0} (p : X → Bool) (xs ys : List X) (from at : ℕ) → position_from p from xs ≡ Some at
    → position_from p from (xs ++ ys) ≡ Some at
placed_more p [] ys from at h = absurd (cc)
placed_more p (x ∷ xs) ys from at h = elim (cases_Bool (p x)) [
  | inl here ↦ rw here (rw here at h)
  | inr not_here ↦ rw not_here (placed_more p xs ys (from + 1) at (rw not_here at h))
]

there_still : {X : Type 0} (xs ys : List X) (at : ℕ) (x : X) → slice_get xs at ≡ Some x
    → slice_get (xs ++ ys) at ≡ Some x
there_still [] ys at x h = absurd (cc)
there_still (y ∷ xs) ys zero x h = h
there_still (y ∷ xs) ys (suc at) x h = there_still xs ys at x h

abbrev counting : List Table → Option Table
counting tables =
    option_and_then (slice_get tables) (position_from (λ t. same_name t.name (codes "sqlite_sequence")) 0 tables)

counting_still : (xs ys : List Table) → is_some (counting xs) ≡ true → is_some (counting (xs ++ ys)) ≡ true
counting_still xs ys h = at_place (position_from test 0 xs) refl h
  where
    test : Table → Bool
    test t = same_name t.name (codes "sqlite_sequence")

    at_place : (o : Option ℕ) → position_from test 0 xs ≡ o → is_some (option_and_then (slice_get xs) o) ≡ true
        → is_some (counting (xs ++ ys)) ≡ true
    at_place None is h = absurd (cc)
    at_place (Some at) is h = there (slice_get xs at) refl h
      where
        there : (o : Option Table) → slice_get xs at ≡ o → is_some o ≡ true
            → is_some (counting (xs ++ ys)) ≡ true
        there None found h = absurd (cc)
        there (Some t) found h = rw (placed_more test xs ys 0 at is, there_still xs ys at t found) refl

-- a table that counts no rows needs none
pub needs_none : (schema : Schema) (t : Table) → t.is_counted ≡ false → lacks_sequence schema ≡ false
    → lacks_sequence (created schema t) ≡ false
needs_none schema t uncounted has = elim (cases_Bool (counts_rows schema)) [
  | inl some ↦
      let there : not (is_some (sequence schema)) ≡ false = rw some at has in
      let still = counting_still schema.tables (record t { tree = next_tree schema } ∷ []) (not-false _ there) in
      ap (λ b. counts_rows (created schema t) && not b) still ∙ and_right (counts_rows (created schema t)) false refl
  | inr none ↦
      ap (λ b. b && not (is_some (sequence (created schema t)))) (counts_created schema t uncounted none)
]

-- ---- a name that is free

none_more : {X : Type 0} (p : X → Bool) (xs : List X) (x : X) (from : ℕ)
    → is_some (position_from p from xs) ≡ false → p x ≡ false → is_some (position_from p from (xs ++ x ∷ [])) ≡ false
none_more p [] x from none other = rw other refl
none_more p (y ∷ xs) x from none other = elim (cases_Bool (p y)) [
  | inl here ↦ absurd (let some = rw here at none in cc)
  | inr not_here ↦ rw not_here (none_more p xs x (from + 1) (rw not_here at none) other)
]

-- it is free beside a table more, which has another name and no UNIQUE
pub free_beside : (schema : Schema) (t : Table) (name : List ℕ) → t.uniques ≡ [] → same_name t.name name ≡ false
    → is_used schema name ≡ false → is_used (created schema t) name ≡ false
free_beside schema t name plain other free =
    let views = or_parts _ _ free in
    let both = or_parts _ _ views.0 in
    let tables : is_some (table_named (created schema t) name) ≡ false =
    none_more (λ (u : Table). same_name u.name name) schema.tables (record t { tree = next_tree schema }) 0 both.0
    other in
    let indexes : is_some (index_named (created schema t) name) ≡ false =
    rw (plain, append-nil schema.indexes) both.1 in
    rw (tables, indexes, views.1) refl

-- ---- what refuses a table

-- only a full file refuses a table without UNIQUE that is understood and whose name is free
pub only_full : (schema : Schema) (text : List ℕ) (t : Table) → t.uniques ≡ [] → t.is_counted ≡ false
    → IsUnderstood schema text → is_used schema t.name ≡ false → lacks_sequence schema ≡ false
    → (e : Error) → NotMade schema text t e → e ≡ SqliteFailure SchemaTooBig
only_full schema text t plain uncounted known free counted e (inl (fault, is, tells)) =
    absurd (let both = sym is ∙ known.1 in cc)
only_full schema text t plain uncounted known free counted e (inr (inl (inl (tells, inl used)))) =
    absurd (let both = sym used ∙ free in cc)
only_full schema text t plain uncounted known free counted e (inr (inl (inl (tells, inr (i, has, used))))) =
    absurd (rw plain at has)
only_full schema text t plain uncounted known free counted e (inr (inl (inr full))) = full.0
only_full schema text t plain uncounted known free counted e (inr (inr lacks)) =
    absurd (let none = needs_none schema t uncounted counted in let some = lacks.0 in cc)
