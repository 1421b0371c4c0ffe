-- A foreign key that names no table's row is set off by no edit of it, and is kept by it.
use Rattle.sql_meanings.specs.Names.{ℕ, List, [], not, Bool, true, false, Some, None, Option, length}
use Rattle.sql_meanings.specs.Names.{filter_map, flat_map, list_all, Schema, Table, Trees, Row, All}
use Rattle.sql_meanings.specs.Names.{Keys, Enforced, Reference, same_name, ParentKey, Refers, parent_key, Deed, Has}
use Rattle.sql_meanings.specs.Names.{is_referred, deed_for, pairs, work_by, work_for, works}
use Rattle.sql_meanings.proofs.Names.{inl, inr, nat_lt, refl, sym, ap, subst, ◌∙◌, arith, cases_Bool, or_parts}
use Rattle.sql_meanings.proofs.Names.{eqb-true}
use Rattle.std.proofs.lemmas.Bool.{not-false}
use Rattle.sqlite_schema.specs.Rules.{has_null, has_parent, is_held, is_key_if_to}
use Rattle.sqlite_rules.specs.Edit.{Edit}
use Rattle.sqlite_rules.proofs.ListLemmas.{fails_has, some_from, some_has}
use Rattle.sqlite_rules.proofs.PlaceLemmas.{named_parent}
use Rattle.sqlite_rules.proofs.RuleLemmas.{parent_is_table, refers_at, refers_from}
use Rattle.sql_meanings.specs.{believed.Making.Stands, StatementAnswers.is_parent}
use Rattle.std.specs.Prelude.{◌≡◌, ◌≢◌, ◌⊎◌, ◌==◌, ◌∷◌, ◌||◌, ◌&&◌}

-- a reference that names the table makes it a parent
makes_parent : (schema : Schema) (table child : Table) (ref : Reference) → Has schema.tables child
    → Has child.references ref
    → same_name table.name ref.parent ≡ true → is_parent schema table ≡ true
makes_parent schema table child ref listed known same =
    some_from _ schema.tables child listed
    (some_from (λ (r : Reference). same_name table.name r.parent) child.references ref known same)

-- nothing is set off where each reference sets nothing off
none_for : (schema : Schema) (keys : Keys) (tree : ℕ) (olds news : List Row) (child : Table)
    (refs : List Reference)
    → ((ref : Reference) → Has refs ref → work_for schema keys 0 tree olds news child ref ≡ None)
    → filter_map (work_for schema keys 0 tree olds news child) refs ≡ []
none_for schema keys tree olds news child [] each = refl
none_for schema keys tree olds news child (ref ∷ refs) each =
    rw (each ref (inl refl)) (none_for schema keys tree olds news child refs (λ r h. each r (inr h)))

none_in : (schema : Schema) (keys : Keys) (tree : ℕ) (olds news : List Row) (tables : List Table)
    → ((child : Table) → Has tables child → (ref : Reference) → Has child.references ref
    → work_for schema keys 0 tree olds news child ref ≡ None)
    → flat_map (λ child. filter_map (work_for schema keys 0 tree olds news child) child.references) tables
    ≡ []
none_in schema keys tree olds news [] each = refl
none_in schema keys tree olds news (t ∷ tables) each =
    rw (none_for schema keys tree olds news t t.references (each t (inl refl)))
    (none_in schema keys tree olds news tables (λ u h. each u (inr h)))

module _ (schema : Schema) (table : Table) (stands : Stands schema table) where
  -- a key that lies in the table's tree is named for it
  in_tree : (child : Table) (ref : Reference) (key : ParentKey) → Has schema.tables child
      → Has child.references ref
      → parent_key schema.tables ref ≡ Some key → key.0 ≡ table.tree → is_parent schema table ≡ true
  in_tree child ref key listed known is same =
      let found = named_parent schema.tables ref key is in
      let it : found.0 ≡ table = stands.apart found.0 found.1 (found.2 ∙ same) in
      makes_parent schema table child ref listed known
      (subst (λ (t : Table). same_name t.name ref.parent ≡ true) it found.3)

  no_work : (moves : List (Row × Row)) (child : Table) (ref : Reference) → Has schema.tables child
      → Has child.references ref
      → is_parent schema table ≡ false → (deed : Option Deed) (key : Option ParentKey)
      → parent_key schema.tables ref ≡ key
      → work_by 0 table.tree moves child ref deed key ≡ None
  no_work moves child ref listed known none None key is = refl
  no_work moves child ref listed known none (Some deed) None is = refl
  no_work moves child ref listed known none (Some deed) (Some key) is =
      elim (cases_Bool (key.0 == table.tree)) [
        | inl same ↦ absurd (let parent = in_tree child ref key listed known is (eqb-true _ _ same) in cc)
        | inr other ↦ rw other
      ]

  -- where no foreign key names the table, nothing is set off
  pub nothing_set_off : (olds news : List Row) → is_parent schema table ≡ false
      → works schema Enforced 0 table.tree olds news ≡ []
  nothing_set_off olds news none = none_in schema Enforced table.tree olds news schema.tables
      (λ child listed ref known.
      no_work (pairs olds news) child ref listed known none (deed_for Enforced (length news == 0) ref)
      (parent_key schema.tables ref) refl)

  -- ---- what each row refers to is there afterwards

  module _ (db next : Trees) (others : (t : Table) → Has schema.tables t → t.tree ≢ table.tree
      → next t.tree ≡ db t.tree)
      (grows : (is_parent schema table ≡ false)
      ⊎ ((r : Row) → Has (db table.tree) r → Has (next table.tree) r)) where
    stays : (child : Table) (ref : Reference) (key : ParentKey) → Has schema.tables child
        → Has child.references ref
        → parent_key schema.tables ref ≡ Some key → (r : Row) → Has (db key.0) r → Has (next key.0) r
    stays child ref key listed known is r there = elim (cases_Bool (key.0 == table.tree)) [
      | inl same ↦ elim grows [
        | inl none ↦ absurd (let parent = in_tree child ref key listed known is (eqb-true _ _ same) in cc)
        | inr more ↦ subst (λ n. Has (next n) r) (sym (eqb-true _ _ same))
            (more r (subst (λ n. Has (db n) r) (eqb-true _ _ same) there))
      ]
      | inr other ↦
          let t = parent_is_table schema.tables ref key is in
          let away : next t.0.tree ≡ db t.0.tree = others t.0 t.1 (λ e. let k = sym t.2 ∙ e in grind arith) in
          subst (λ rows. Has rows r) (ap db (sym t.2) ∙ sym away ∙ ap next t.2) there
    ]

    held : (child : Table) (ref : Reference) (row : Row) → Has schema.tables child → Has child.references ref
        → (key : Option ParentKey) → parent_key schema.tables ref ≡ key
        → is_held db ref.columns row key ≡ true
        → is_held next ref.columns row key ≡ true
    held child ref row listed known None is h = absurd cc
    held child ref row listed known (Some key) is h =
        let parent = some_has _ (db key.0) h in
        some_from _ (next key.0) parent.0 (stays child ref key listed known is parent.0 parent.1) parent.2

    refers_on : (child : Table) (ref : Reference) (row : Row) → Has schema.tables child
        → Has child.references ref
        → has_parent schema.tables db row ref ≡ true → has_parent schema.tables next row ref ≡ true
    refers_on child ref row listed known h = elim (cases_Bool (has_null ref.columns row)) [
      | inl null ↦ rw null
      | inr whole ↦ rw whole (held child ref row listed known (parent_key schema.tables ref) refl
          (rw whole at h))
    ]

    -- each foreign key is kept
    pub refers_after : Refers All schema db → Refers All schema next
    refers_after refers = refers_from All schema next (λ t ref row listed known is there.
        let away : next t.tree ≡ db t.tree = others t listed (λ same. let it = stands.apart t listed same in
        absurd (subst (λ refs. Has refs ref) (ap (λ (u : Table). u.references) it ∙ stands.free) known)) in
        refers_on t ref row listed known
        (refers_at All schema db t row ref refers listed (subst (λ rows. Has rows row) away there) known is))

-- ---- the foreign keys that an edit asks for

asks_rest : (b c : Bool) → ((not b || true) && c) ≡ false → c ≡ false
asks_rest true c h = h
asks_rest false c h = h

module _ (schema : Schema) (edit : Edit) (free : edit.table.references ≡ []) where
  -- rows that are only put in ask for none
  pub asks_none : edit.gone ≡ [] → ¬ (is_referred schema Enforced edit ≡ false)
  asks_none gone h = let e = asks_rest (nat_lt 0 (length edit.news)) true (rw (gone, free) at h) in cc

  -- a foreign key that points to no key of the table names it
  pub asks_parent : is_referred schema Enforced edit ≡ false → is_parent schema edit.table ≡ true
  asks_parent h =
      let removes = nat_lt 0 (length edit.gone) in
      let all = list_all (λ t. list_all (is_key_if_to schema edit.table) t.references) schema.tables in
      let bad = (or_parts (not removes) all
      (asks_rest (nat_lt 0 (length edit.news)) (not removes || all) (rw free at h))).1 in
      let child = fails_has _ _ bad in
      let ref = fails_has _ _ child.2 in
      let named = (or_parts (not (same_name edit.table.name ref.0.parent)) _ ref.2).0 in
      makes_parent schema edit.table child.0 ref.0 child.1 ref.1 (not-false _ named)
