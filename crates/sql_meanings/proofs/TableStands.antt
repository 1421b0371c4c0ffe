-- A table that stands in any schema, and what a CREATE TABLE keeps and adds.
use Rattle.sql_meanings.specs.Names.{ℕ, List, [], find, slice_get, true, false, Some, None, Option, Ok}
use Rattle.sql_meanings.specs.Names.{position_from, Table, Schema, Trees, Database, Tally, Does, MakesTable}
use Rattle.sql_meanings.specs.Names.{MakesSequence, lacks_sequence, no_rows, sequence_text, Then, Gives, CreateTable}
use Rattle.sql_meanings.specs.Names.{table_defined_by, Mode, same_name, Has, IsSound}
use Rattle.sql_meanings.proofs.Names.{inl, inr, suc, refl, sym, ap, subst, ◌∙◌, nat_le, arith, cases_Bool, through}
use Rattle.sql_meanings.proofs.Names.{all_has, has_either, has_left, has_right, same_value, eqb-true}
use Rattle.std.proofs.lemmas.List.Folds.{list_any-append}
use Rattle.sqlite_catalog.specs.{Calls.CreatesTable, Change.created, Change.next_tree}
use Rattle.sqlite_value.specs.Order.{Row}
use Rattle.sqlite_trees.specs.Tree.{IsAscending}
use Rattle.sqlite_catalog.proofs.StepLemmas.{table_below, same_itself}
use Rattle.sql_meanings.proofs.{Statements.HasTable, Growing.low_tree, Growing.sequenced}
use Rattle.sql_meanings.specs.believed.Making.{Stands}
use Rattle.sql_meanings.specs.Making.{AddsTable, IsGrown, KeepsWhatStood, counts_rows}
use Rattle.std.specs.Prelude.{◌≡◌, ◌+◌, ◌^◌, ◌<◌, ◌==◌, ◌∷◌}

-- a table stands on as another is made
pub stands_after : (schema : Schema) (new table : Table) → Stands schema table
    → Stands (created schema new) table
stands_after schema new table stands = record {
  listed = has_left schema.tables _ table stands.listed;
  apart = λ t h same. elim (has_either schema.tables (record new { tree = next_tree schema } ∷ []) t h) [
    | inl old ↦ stands.apart t old same
    | inr (inl is) ↦ absurd (let low = table_below schema table stands.listed in
        let e : next_tree schema ≡ table.tree =
        sym (ap (λ (u : Table). u.tree) is) ∙ same in omega arith)
    | inr (inr none) ↦ absurd none
  ];
  free = stands.free;
}

-- the new table stands
pub stands_new : (schema : Schema) (table : Table) → table.references ≡ []
    → Stands (created schema table) (record table { tree = next_tree schema })
stands_new schema table free = record {
  listed = has_right schema.tables _ _ (inl refl);
  apart = λ t h same. elim (has_either schema.tables (record table { tree = next_tree schema } ∷ []) t h) [
    | inl old ↦ absurd (let low = table_below schema t old in omega arith)
    | inr (inl is) ↦ is
    | inr (inr none) ↦ absurd none
  ];
  free = free;
}

-- ---- what a statement takes of a table, from these

eqb_itself : (n : ℕ) → (n == n) ≡ true
eqb_itself n = grind arith

-- a low number is below those of a statement's own trees
pub high_not : (n : ℕ) → n < 65536 → nat_le (2 ^ 31) n ≡ false
high_not n low = grind arith

-- a table that has its tree to itself is found by it
pub found_apart : (tables : List Table) (table : Table) → Has tables table
    → ((t : Table) → Has tables t → t.tree ≡ table.tree → t ≡ table)
    → find (λ t. t.tree == table.tree) tables ≡ Some table
found_apart [] table h apart = absurd h
found_apart (u ∷ tables) table h apart = elim (cases_Bool (u.tree == table.tree)) [
  | inl same ↦ rw same (ap Some (apart u (inl refl) (eqb-true _ _ same)))
  | inr other ↦ rw other (elim h [
    | inl is ↦ absurd (let e = eqb_itself table.tree in let f =
        subst (λ (t : Table). (t.tree == table.tree) ≡ false) (sym is) other in
        cc)
    | inr later ↦ found_apart tables table later (λ t k. apart t (inr k))
  ])
]

-- the first of its name
pub record Placed (tables : List Table) (i : ℕ) (table : Table) : Type 0 where
  pub at : ℕ
  pub named : position_from (λ t. same_name t.name table.name) i tables ≡ Some (i + at)
  pub listed : slice_get tables at ≡ Some table

placed : (tables : List Table) (i : ℕ) (table : Table)
    → IsAscending (λ s t. same_name s.name t.name ≡ false) tables → Has tables table
    → Placed tables i table
placed [] i table named h = absurd h
placed (u ∷ tables) i table named (inl is) = record {
  at = 0;
  named = rw (← is, same_itself table.name) (ap Some (omega arith));
  listed =
      ap Some (sym is);
}
placed (u ∷ tables) i table named (inr h) =
    let more = placed tables (i + 1) table named.1 h in
    let other : same_name u.name table.name ≡ false = all_has _ tables table named.0 h in
    record { at = suc more.at; named = rw other (more.named ∙ ap Some (omega arith)); listed = more.listed }

-- a table that stands in a sound schema is found by its name
pub has_table : (schema : Schema) (db : Trees) (table : Table) → IsSound schema db → Stands schema table
    → (p : ℕ) × HasTable schema table.name p table
has_table schema db table sound stands =
    let it = placed schema.tables 0 table sound.lists.listed.named stands.listed in (
      it.at,
      record {
        named = it.named ∙ ap Some (omega arith);
        listed = it.listed;
        found = found_apart schema.tables table stands.listed stands.apart;
        low = high_not table.tree (low_tree schema db table sound stands.listed);
      },
    )

-- ---- what stands on

-- what stood twice stands
pub then_keeps : (a b c : Database) → KeepsWhatStood a b → KeepsWhatStood b c → KeepsWhatStood a c
then_keeps a b c p q = record {
  stands = λ t h. q.stands t (p.stands t h);
  has = λ t h. q.has t (p.has t h);
  rows =
      λ t h. q.rows t (p.has t h) ∙ p.rows t h;
}

keeps_itself : (a : Database) → KeepsWhatStood a a
keeps_itself a = record { stands = λ t h. h; has = λ t h. h; rows = λ t h. refl }

keeps_made : (old after : Database) (text : List ℕ) → MakesTable text old (Ok after)
    → KeepsWhatStood old after
keeps_made old after text made = record {
  stands = λ t h. subst (λ s. Stands s t) (sym made.is) (stands_after old.schema made.table t h);
  has = λ t h. subst (λ (s : Schema). Has s.tables t) (sym made.is) (has_left old.schema.tables _ t h);
  rows = λ t h. all_has _ old.schema.tables t made.others h;
}

keeps_sequence : (old after : Database) → MakesSequence old (Ok after) → KeepsWhatStood old after
keeps_sequence old after h = elim (sequenced old after h) [
  | inl same ↦ subst (KeepsWhatStood old) same
      (keeps_itself old)
  | inr made ↦ keeps_made old after sequence_text made
]

-- a table more that doesn't count its rows
pub counts_created : (schema : Schema) (t : Table) → t.is_counted ≡ false → counts_rows schema ≡ false
    → counts_rows (created schema t) ≡ false
counts_created schema t last none =
    list_any-append (λ (u : Table). u.is_counted) schema.tables (record t { tree = next_tree schema } ∷ [])
    ∙ rw (none, last) refl

-- what is new once the table that counts is made, where it has to be
grown : (old : Schema) (t : Table) (mid after : Database) → mid.schema ≡ created old t
    → MakesSequence mid (Ok after) → IsGrown old t after.schema
grown old t mid after is h = elim (cases_Bool (lacks_sequence mid.schema)) [
  | inl lacks ↦
      let made : MakesTable sequence_text mid (Ok after) = rw lacks at h in
      inr (
        subst (λ s. lacks_sequence s ≡ true) is lacks,
        made.table,
        made.defined,
        made.is ∙ ap (λ s. created s made.table) is,
      )
  | inr has ↦ inl (
    subst (λ s. lacks_sequence s ≡ false) is has,
    ap (λ (db : Database). db.schema) (none_made mid after has h) ∙ is,
  )
]
  where
    none_made : (mid after : Database) → lacks_sequence mid.schema ≡ false → MakesSequence mid (Ok after) → after ≡ mid
    none_made mid after has h = let same = rw has at h in cc

-- CREATE TABLE of a table with no foreign key, done
pub adds : (limit : Option ℕ) (mode : Mode) (params : Row) (old after : Database) (text : List ℕ)
    (tally : Tally) (t : Table)
    → table_defined_by text ≡ Ok t → t.references ≡ []
    → Does limit mode params old text None CreateTable (Ok (tally, after)) → AddsTable old after t
adds limit mode params old after text tally t defined free h =
    let all = through (Then (MakesTable text old) MakesSequence)
    (λ (db : Database). Gives (no_rows mode.in_doubt, db))
    (tally, after) h in
    let both = through (MakesTable text old) MakesSequence all.0 all.1 in
    let mid = both.0 in
    let made : CreatesTable old.schema text old.trees mid.schema mid.trees = both.1 in
    let last : all.0 ≡ after = ap (λ (p : Tally × Database). p.1) (sym (same_value all.2)) in
    let is : made.table ≡ t = same_value (sym made.defined ∙ defined) in
    let new : Table = record t { tree = next_tree old.schema } in
    let second : KeepsWhatStood mid after =
    subst (KeepsWhatStood mid) last (keeps_sequence mid all.0 both.2) in
    let there : Stands mid.schema new = subst (λ s. Stands s new) (sym made.is)
    (subst (λ (u : Table). Stands (created old.schema u) new) (sym is) (stands_new old.schema t free)) in
    record {
      keeps = then_keeps old mid after (keeps_made old mid text made) second;
      stands = second.stands new there;
      empty = second.rows new there.listed ∙ made.empty;
      grown = grown old.schema t mid after (made.is ∙ ap (created old.schema) is)
          (subst (λ (db : Database). MakesSequence mid (Ok db)) last both.2);
    }
