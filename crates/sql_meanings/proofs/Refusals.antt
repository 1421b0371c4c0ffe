-- Why a write of rows of whole numbers is refused, or can't be stored.
use Rattle.sql_meanings.specs.Names.{ℕ, not, List, [], map, length, Bool, true, false, Some, None, Option, option_map}
use Rattle.sql_meanings.specs.Names.{Err, AllByRecursion, list_all, list_any, Row, Schema, Table, Trees, Edit, edited}
use Rattle.sql_meanings.specs.Names.{IsDatabase, edit_error, Edited, Error, SqliteFailure, fits_i64, entry_of}
use Rattle.sql_meanings.specs.Names.{IsStorable, IsStorableRow, clashes, index_reals, passes_checks, table_reals}
use Rattle.sql_meanings.specs.Names.{Index, PrimaryKey, Unique, ForeignKey, Enforced, Refusal, Violates, Has, Writes}
use Rattle.sql_meanings.specs.Names.{works, are_fresh, is_referred, left_by, taken_by}
use Rattle.sql_meanings.proofs.Names.{inl, inr, refl, sym, ap, subst, ◌∙◌, arith, cases_Bool, ∥∥₁_elim, eqb-true}
use Rattle.std.proofs.lemmas.Bool.{cases_lt}
use Rattle.sqlite.specs.Edit.{IsRefused}
use Rattle.sqlite_trees.specs.Tree.{rowid, with_tree}
use Rattle.sqlite_schema.specs.Rules.{Keeps, guards, passes}
use Rattle.sqlite_schema.specs.declared.schema.Constraint.TheVariants.{Datatype, NotNull, Check}
use Rattle.sqlite_rules.specs.declared.error.Refusal.TheVariants.{Mismatch, NoRowid, BadReference, TooDeep}
use Rattle.sqlite_rules.specs.Edit.{IsOversized, have_rowids, id_in}
use Rattle.sqlite_rules.proofs.RuleLemmas.{keeps_at, keeps_from}
use Rattle.sql_meanings.specs.believed.Entries.{HasWidth, Entry, stored}
use Rattle.sql_meanings.specs.{Entries.AreShort, believed.Tables.tree_of, believed.Tables.width_of}
use Rattle.sql_meanings.specs.StatementAnswers.{Forbids, HasWideIndex, has_unique}
use Rattle.sql_meanings.proofs.NumberRows.{entry_fits, entry_present, entry_typed, none_indexed, none_real, row_fits}
use Rattle.sql_meanings.proofs.{TableWrites.fits_columns, TableWrites.IsPlain, PuttingIn.key_taken, PuttingIn.no_end}
use Rattle.sqlite.specs.declared.error.ErrorCode.TheVariants as code
use Rattle.std.specs.Prelude.{◌≡◌, ◌⊎◌, ◌==◌, ◌&&◌, ◌∷◌}

-- the row has as many numbers as the table, its key is one that a file can hold, and it passes the CHECKs
pub record IsFit (table : Table) (x : Entry) : Type 0 where
  pub wide : HasWidth (width_of table) x
  pub short : AreShort x.texts
  pub low : fits_i64 x.key ≡ true
  pub checked : passes_checks table (stored x) ≡ true

-- the new rows keep each rule that stands for a row alone
record Regular (schema : Schema) (db : Trees) (edit : Edit) : Type 0 where
  pub typed : list_all (passes Datatype schema db edit.table) edit.news ≡ true
  pub present : list_all (passes NotNull schema db edit.table) edit.news ≡ true
  pub checked : list_all (passes Check schema db edit.table) edit.news ≡ true
  pub keyed : have_rowids edit.news ≡ true
  pub low : list_all (λ r. fits_i64 (id_in (rowid r))) edit.news ≡ true

all_stored : (table : Table) (p : Row → Bool) → ((x : Entry) → IsFit table x → p (stored x) ≡ true)
    → (xs : List Entry)
    → AllByRecursion (IsFit table) xs → list_all p (map stored xs) ≡ true
all_stored table p each [] fits = refl
all_stored table p each (x ∷ xs) fits = rw (each x fits.0) (all_stored table p each xs fits.1)

module _ (schema : Schema) (db : Trees) (edit : Edit) (is : IsPlain edit.table) (xs : List Entry)
    (news : edit.news ≡ map stored xs)
    (fits : AllByRecursion (IsFit edit.table) xs) where
  regular : Regular schema db edit
  regular = record {
    typed = ap (list_all (passes Datatype schema db edit.table)) news ∙ all_stored edit.table
        (passes Datatype schema db edit.table)
        (λ x h. rw (
          is.keyed,
          is.columns,
          is.uncomputed,
          entry_typed is.key _ x (fits_columns edit.table is x h.wide h.short),
        ) refl) xs fits;
    present = ap (list_all (passes NotNull schema db edit.table)) news ∙ all_stored edit.table
        (passes NotNull schema db edit.table)
        (λ x h. rw (is.keyed, is.columns) (entry_present is.key _ x
        (fits_columns edit.table is x h.wide h.short))) xs fits;
    checked = ap (list_all (passes Check schema db edit.table)) news ∙ all_stored edit.table
        (passes Check schema db edit.table) (λ x h. h.checked) xs fits;
    keyed = ap have_rowids news ∙ all_stored edit.table _ (λ x h. refl) xs fits;
    low = ap (list_all (λ r. fits_i64 (id_in (rowid r)))) news ∙ all_stored edit.table _
        (λ x h. h.low) xs fits;
  }

  -- the three rules that such rows may break
  refused : (why : Refusal) → IsRefused schema Enforced db edit why
      → ((why ≡ Violates PrimaryKey) × (are_fresh (left_by db edit) edit.news ≡ false))
      ⊎ (((why ≡ Violates Unique) × ¬ Keeps Unique schema (with_tree db edit.table.tree (edited db edit)))
      ⊎ ((why ≡ BadReference) × (is_referred schema Enforced edit ≡ false)))
  refused (Violates Datatype) h = absurd (let e = regular.typed in cc)
  refused (Violates NotNull) h = absurd (let e = regular.present in cc)
  refused (Violates Check) h = absurd (let e = regular.checked in cc)
  refused (Violates PrimaryKey) h = inl (refl, h)
  refused (Violates Unique) h = inr (inl (refl, h))
  refused (Violates ForeignKey) h = absurd h
  refused Mismatch h = absurd (let e = regular.keyed in cc)
  refused NoRowid h = absurd (let e = regular.low in cc)
  refused BadReference h = inr (inr (refl, h))
  refused TooDeep h = absurd h

  one_stored : (ys : List Entry) → AllByRecursion (IsFit edit.table) ys → (row : Row)
      → Has (map stored ys) row
      → (x : Entry) × (row ≡ stored x) × IsFit edit.table x
  one_stored [] all row h = absurd h
  one_stored (y ∷ ys) all row (inl e) = (y, e, all.0)
  one_stored (y ∷ ys) all row (inr h) = one_stored ys all.1 row h

  -- only an index can be too wide for such a row
  oversized : tree_of schema edit.table.name ≡ edit.table.tree → (row : Row) → Has edit.news row
      → IsOversized schema edit.table row
      → HasWideIndex schema edit.table
  oversized at row there h =
      let x = one_stored xs fits row (subst (λ rows. Has rows row) news there) in
      let none =
      none_real edit.table is.key _ _ is.columns (fits_columns edit.table is x.0 x.2.wide x.2.short) in
      elim h [
        | inl big ↦ absurd (big (subst (IsStorableRow (table_reals edit.table)) (sym x.1)
            (subst (λ n. IsStorableRow n (stored x.0)) (sym none)
            (row_fits x.0 x.2.short (let wide = x.2.wide.0 ∙ ap (λ w. w.0) is.width in
            let also = x.2.wide.1 ∙ ap (λ w. w.1) is.width in let narrow = is.narrow in omega arith)))))
        | inr (i, listed, of, big) ↦ elim (cases_lt 2000 (length i.columns)) [
          | inl wide ↦ (i, listed, of ∙ sym at, wide)
          | inr few ↦ absurd (big (subst (IsStorable (index_reals (table_reals edit.table) i.columns))
              (ap (entry_of i.columns) (sym x.1))
              (subst (λ n. IsStorable n (entry_of i.columns (stored x.0)))
              (sym (ap (λ n. index_reals n i.columns) none ∙ none_indexed i.columns))
              (entry_fits x.0 i.columns x.2.short few))))
        ]
      ]

  -- ---- how the edit may stop

  module _ (Acts : Type 0) (acts : (works schema Enforced 0 edit.table.tree (taken_by db edit) edit.news ≡
      []) ⊎ Acts)
      (asks : is_referred schema Enforced edit ≡ false → Acts)
      (at : tree_of schema edit.table.name ≡ edit.table.tree) where
    -- why the edit stops: it can't be stored, or the error of a rule
    abbrev pub EditStops : Option Error → Type 0
    EditStops None = HasWideIndex schema edit.table ⊎ Acts
    EditStops (Some e) =
        ((e ≡ key_taken) × (are_fresh (left_by db edit) edit.news ≡ false))
        ⊎ (((e ≡ SqliteFailure (code.ConstraintViolation Unique))
        × ¬ Keeps Unique schema (with_tree db edit.table.tree (edited db edit)))
        ⊎ (Acts × (why : Refusal) × (e ≡ edit_error why)))

    by_refusal : (why : Refusal) → IsRefused schema Enforced db edit why → EditStops (Some (edit_error why))
    by_refusal why h = elim (refused why h) [
      | inl taken ↦ inl (ap edit_error taken.0, taken.1)
      | inr (inl unique) ↦ inr (inl (ap edit_error unique.0, unique.1))
      | inr (inr bad) ↦ inr (inr (asks bad.1, why, refl))
    ]

    -- each way
    pub edit_stops : (stop : Option Error) → Edited schema Enforced db edit (Err stop) → EditStops stop
    edit_stops stop (why, writes, is_error) = subst EditStops (sym is_error) (go why writes)
      where
        acted : Acts → (why : Option Refusal) → EditStops (option_map edit_error why)
        acted a None = inr a
        acted a (Some why) = inr (inr (a, why, refl))

        go : (why : Option Refusal) → Writes schema Enforced db edit (Err why)
            → EditStops (option_map edit_error why)
        go None (inl refusal) = absurd (let e = refusal.2 in cc)
        go (Some why) (inl refusal) =
            let same : refusal.0 ≡ why = let e = refusal.2 in cc in
            by_refusal why (subst (IsRefused schema Enforced db edit) same refusal.1)
        go None (inr (inl big)) = inl (oversized at big.0 big.1 big.2)
        go (Some why) (inr (inl big)) = absurd (let e = big.3 in cc)
        go why (inr (inr went)) = elim acts [
          | inl none ↦ absurd (no_end schema Enforced went.2.0 went.0 why (rw none at went.2.1))
          | inr a ↦ acted a why
        ]

-- ---- what a UNIQUE forbids

held_at : (schema : Schema) (one two : Trees) (t : Table) (row : Row) → Has schema.tables t
    → two t.tree ≡ one t.tree
    → Has (two t.tree) row → Keeps Unique schema one → passes Unique schema two t row ≡ true
held_at schema one two t row listed same there keeps =
    rw same (keeps_at Unique schema one t row keeps listed (subst (λ rows. Has rows row) same there))

all_pass : {A : Type 0} (p q : A → Bool) → ((x : A) → p x ≡ false → q x ≡ true) → (xs : List A)
    → list_any p xs ≡ false
    → list_all q xs ≡ true
all_pass p q each [] none = refl
all_pass p q each (x ∷ xs) none = elim (cases_Bool (p x)) [
  | inl passed ↦ absurd (let bad = rw passed at none in cc)
  | inr not_passed ↦ rw (each x not_passed) (all_pass p q each xs (rw not_passed at none))
]

unclashed : (b c : Bool) → b ≡ false → not (b && c) ≡ true
unclashed b c h = rw h refl

-- a table without a UNIQUE breaks none, whatever its rows
breaks_none : (schema : Schema) (db : Trees) (tree : ℕ) (rows : List Row)
    → list_any (λ (i : Index). i.is_unique && (i.table == tree)) schema.indexes ≡ false
    → Keeps Unique schema db → Keeps Unique schema (with_tree db tree rows)
breaks_none schema db tree rows none keeps = keeps_from Unique schema (with_tree db tree rows)
    (λ t row listed there.
    elim (cases_Bool (t.tree == tree)) [
      | inl here ↦ all_pass (λ (i : Index). i.is_unique && (i.table == tree))
          (λ (i : Index). not (guards i t && clashes i.order i.columns (with_tree db tree rows t.tree) row))
          (λ i free. unclashed (guards i t) _
          (subst (λ n. (i.is_unique && (i.table == n)) ≡ false) (sym (eqb-true t.tree tree here)) free))
          schema.indexes none
      | inr away ↦ held_at schema db (with_tree db tree rows) t row listed (rw away refl) there keeps
    ])

-- where the rows would break a UNIQUE no sound database has them
pub forbids : (schema : Schema) (db : Trees) (table : Table) (entries : List Entry) (rows : List Row)
    → ∥ IsDatabase (record { schema = schema; trees = db }) ∥₁ → rows ≡ map stored entries
    → ¬ Keeps Unique schema (with_tree db (tree_of schema table.name) rows) → Forbids schema table entries
forbids schema db table entries rows sound are broken = (
  elim (cases_Bool (has_unique schema table)) [
    | inl there ↦ there
    | inr none ↦ absurd (∥∥₁_elim sound (λ x y. absurd x)
        (λ it. broken (breaks_none schema db (tree_of schema table.name) rows none (it.obeys.rules Unique))))
  ],
  λ trees other same. ∥∥₁_elim sound (λ x y. absurd x) (λ it. broken
      (keeps_from Unique schema (with_tree db (tree_of schema table.name) rows) (λ t row listed there.
      elim (cases_Bool (t.tree == tree_of schema table.name)) [
        | inl here ↦ held_at schema trees (with_tree db (tree_of schema table.name) rows) t row listed
            (rw here (are ∙ sym same ∙ ap trees (sym (eqb-true t.tree (tree_of schema table.name) here)))) there
            (other.obeys.rules Unique)
        | inr away ↦ held_at schema db (with_tree db (tree_of schema table.name) rows) t row listed
            (rw away refl) there
            (it.obeys.rules Unique)
      ]))),
)
