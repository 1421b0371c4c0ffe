-- Tables that are held stay held while others are made.
use Rattle.sql_meanings.specs.Names.{List, [], true, Table, Database, IsDatabase}
use Rattle.sql_meanings.proofs.Names.{sym, ap, subst, ◌∙◌}
use Rattle.sql_meanings.specs.believed.Contents.{HoldsEach}
use Rattle.sql_meanings.specs.Contents.{has_other_names, is_free, stand_apart}
use Rattle.sql_meanings.specs.{believed.Entries.Entry, believed.Entries.IsTree, Making.KeepsWhatStood}
use Rattle.sql_meanings.specs.believed.Tables.{Holds, placed_at, tree_of, width_of}
use Rattle.sql_meanings.proofs.{Contents.no_references, Names.and_parts}
use Rattle.sql_meanings.proofs.Defining.{defined_stands, stands_defined}
use Rattle.std.specs.Prelude.{◌≡◌, ◌++◌, ◌&&◌, ◌∷◌}

module _ (old new : Database) (sound : IsDatabase new) (keeps : KeepsWhatStood old new) where
  -- a table with no foreign key
  pub still_held : (t : Table) (es : List Entry) → t.references ≡ [] → Holds old t es → Holds new t es
  still_held t es free holds =
      let stood = defined_stands old.schema t free holds.defined in
      let found = stands_defined new.schema new.trees (placed_at t (tree_of old.schema t.name)) sound
      (keeps.stands _ stood) in
      record {
        defined = record { found = found.1.found; apart = found.1.apart };
        rows = subst (λ rows. IsTree (width_of t) rows es)
            (sym (ap (λ n. new.trees n) found.0 ∙ keeps.rows _ stood.listed)) holds.rows;
      }

  -- and in the same tree
  pub same_place : (t : Table) (es : List Entry) → t.references ≡ [] → Holds old t es
      → tree_of new.schema t.name ≡ tree_of old.schema t.name
  same_place t es free holds =
      (stands_defined new.schema new.trees (placed_at t (tree_of old.schema t.name)) sound
      (keeps.stands _ (defined_stands old.schema t free holds.defined))).0

  -- each of several
  pub still_hold : (tables : List Table) (contents : List (List Entry)) → stand_apart tables ≡ true
      → HoldsEach old tables contents → HoldsEach new tables contents
  still_hold [] [] apart each = tt
  still_hold [] (es ∷ contents) apart each = absurd each
  still_hold (t ∷ tables) [] apart each = absurd each
  still_hold (t ∷ tables) (es ∷ contents) apart each =
      let s = and_parts (is_free t && has_other_names t tables) (stand_apart tables) apart in
      let f = and_parts (is_free t) (has_other_names t tables) s.0 in
      (still_held t es (no_references t f.0) each.0, still_hold tables contents s.1 each.1)

-- some tables, and more after them
pub held_after : (db : Database) (tables more : List Table) (contents rows : List (List Entry))
    → HoldsEach db tables contents → HoldsEach db more rows → HoldsEach db (tables ++ more) (contents ++ rows)
held_after db [] more [] rows each then = then
held_after db [] more (es ∷ contents) rows each then = absurd each
held_after db (t ∷ tables) more [] rows each then = absurd each
held_after db (t ∷ tables) more (es ∷ contents) rows each then =
    (each.0, held_after db tables more contents rows each.1 then)
