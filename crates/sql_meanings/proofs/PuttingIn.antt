-- Rows that are only put in set nothing off; and in which of its parts a statement stops.
use Rattle.sql_meanings.specs.Names.{ℕ, List, [], length, false, Some, None}
use Rattle.sql_meanings.specs.Names.{Option, Ok, Err, Result, flat_map, filter_map, Row, Table, Schema, Trees, Edit}
use Rattle.sql_meanings.specs.Names.{Part, Then, Error, SqliteFailure, Keys, PrimaryKey, Reference, ParentKey}
use Rattle.sql_meanings.specs.Names.{parent_key, Deed, Refusal, work_by, work_for, deed_for, Leads, Writes}
use Rattle.sql_meanings.proofs.Names.{inl, inr, zero, suc, length-append, refl, sym, ap, subst, arith, one_step}
use Rattle.sql_meanings.proofs.Names.{and_right}
use Rattle.sqlite.specs.Edit.{Applies}
use Rattle.sqlite.specs.declared.error.ErrorCode.TheVariants as code
use Rattle.std.specs.Prelude.{◌≡◌, ◌⊎◌, ◌==◌, ◌∷◌}

-- the error that names the primary key
abbrev pub key_taken : Error
key_taken = SqliteFailure (code.ConstraintViolation PrimaryKey)

-- with nothing set off nothing is refused
pub no_end : (schema : Schema) (keys : Keys) (n : ℕ) (db : Trees) (why : Option Refusal)
    → ¬ Leads schema keys n db [] (Err why)
no_end schema keys zero db why h = let e = h.1 in cc
no_end schema keys (suc n) db why h = absurd (omega (arith, ap length h.2, length-append h.0 (h.1 ∷ [])))

-- rows that are only put in set nothing off, whatever refers to the table
no_work : (depth tree : ℕ) (child : Table) (ref : Reference) (deed : Option Deed) (key : Option ParentKey)
    → work_by depth tree [] child ref deed key ≡ None
no_work depth tree child ref None key = refl
no_work depth tree child ref (Some deed) None = refl
no_work depth tree child ref (Some deed) (Some key) = rw (and_right (key.0 == tree) false refl)

none_for : (schema : Schema) (keys : Keys) (tree : ℕ) (news : List Row) (child : Table)
    (refs : List Reference)
    → filter_map (work_for schema keys 0 tree [] news child) refs ≡ []
none_for schema keys tree news child [] = refl
none_for schema keys tree news child (ref ∷ refs) =
    rw (no_work 0 tree child ref (deed_for keys (length news == 0) ref) (parent_key schema.tables ref))
    (none_for schema keys tree news child refs)

-- nothing is set off by them
pub none_in : (schema : Schema) (keys : Keys) (tree : ℕ) (news : List Row) (tables : List Table)
    → flat_map (λ child. filter_map (work_for schema keys 0 tree [] news child) child.references) tables ≡ []
none_in schema keys tree news [] = refl
none_in schema keys tree news (t ∷ tables) = rw (none_for schema keys tree news t t.references)
    (none_in schema keys tree news tables)

-- rows that are only put in are one step
pub put_in_applies : (schema : Schema) (keys : Keys) (db next : Trees) (edit : Edit) → edit.gone ≡ []
    → Writes schema keys db edit (Ok next) → Applies schema keys db edit next
put_in_applies schema keys db next edit gone writes =
    one_step schema keys db next edit
    (rw (gone, none_in schema keys edit.table.tree edit.news schema.tables) refl) writes

-- a statement that stops stops in one of its parts
pub stopped : {A B : Type 0} (First : Part A) (Next : A → Part B) (e : Option Error) → Then First Next (Err e)
    → First (Err e) ⊎ ((a : A) × First (Ok a) × Next a (Err e))
stopped {A} {B} First Next e (inl h) = inl (subst (λ x. First (Err x)) (sym (same_error h.2)) h.1)
  where
    same_error : {x y : Option Error} → ◌≡◌ {A = Result B (Option Error)} (Err x) (Err y) → x ≡ y
    same_error e = cc
stopped First Next e (inr h) = inr h

-- a part that gives a value doesn't stop
pub never : {B : Type 0} {e : Option Error} {b : B} → ¬ ◌≡◌ {A = Result B (Option Error)} (Err e) (Ok b)
never h = cc
