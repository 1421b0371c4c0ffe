-- Tables side by side: what is held of each, and what a write of one leaves.
use Rattle.sql_meanings.specs.Names.{not, ℕ, List, [], length, slice_get, Some, true, bytes_eq, State, Table}
use Rattle.sql_meanings.specs.Names.{Database, Has}
use Rattle.sql_meanings.proofs.Names.{inl, inr, zero, suc, refl, sym, subst, arith}
use Rattle.std.proofs.{Common.slice_set, lemmas.Slice.Eq.bytes_eq-Decides}
use Rattle.sql_meanings.specs.believed.{Contents.HoldsEach, Entries.Entry, Tables.Defines, Tables.Holds}
use Rattle.sql_meanings.specs.Contents.{has_other_names, is_free, stand_apart}
use Rattle.sql_meanings.proofs.TablesBeside.{stayed, stepped}
use Rattle.sql_meanings.proofs.{Names.and_parts, TableWrites.Leaves, Trees.Holds-prop}
use Rattle.std.specs.Prelude.{◌≡◌, ◌≢◌, ◌==◌, ◌&&◌, ◌∷◌}

-- ---- what the tests say

pub no_references : (t : Table) → is_free t ≡ true → t.references ≡ []
no_references t h = go t.references h
  where
    go : {X : Type 0} → (xs : List X) → (length xs == 0) ≡ true → xs ≡ []
    go [] h = refl
    go (x ∷ xs) h = absurd (grind arith)

other_name : (a b : List ℕ) → not (bytes_eq a b) ≡ true → a ≢ b
other_name a b h same = let is = (bytes_eq-Decides a b).1 same in let bad = rw is at h in cc

-- ---- what is held of each

-- of the table at a place
pub held : (db : Database) (tables : List Table) (contents : List (List Entry)) → HoldsEach db tables contents
    → (at : ℕ) (t : Table) (es : List Entry)
    → slice_get tables at ≡ Some t → slice_get contents at ≡ Some es → Holds db t es
held db [] contents each at t es is has = absurd cc
held db (x ∷ tables) [] each at t es is has = absurd each
held db (x ∷ tables) (ys ∷ contents) each zero t es is has =
    let one : x ≡ t = cc in let all : ys ≡ es = cc in subst (λ u. Holds db u es) one
    (subst (Holds db x) all each.0)
held db (x ∷ tables) (ys ∷ contents) each (suc at) t es is has = held db tables contents each.1 at t es is has

-- each table of the list is defined
pub each_defined : (db : Database) (tables : List Table) (contents : List (List Entry))
    → HoldsEach db tables contents → (t : Table) → Has tables t
    → Defines db.schema t
each_defined db [] contents each t has = absurd has
each_defined db (x ∷ tables) [] each t has = absurd each
each_defined db (x ∷ tables) (es ∷ contents) each t (inl is) = subst (Defines db.schema)
    (sym is) each.0.defined
each_defined db (x ∷ tables) (es ∷ contents) each t (inr more) = each_defined db tables contents each.1 t more

-- that they are held is a proposition
pub HoldsEach-prop : (db : Database) (tables : List Table) (contents : List (List Entry))
    → IsProp (HoldsEach db tables contents)
HoldsEach-prop db [] [] = hlevel
HoldsEach-prop db [] (es ∷ contents) = hlevel
HoldsEach-prop db (t ∷ tables) [] = hlevel
HoldsEach-prop db (t ∷ tables) (es ∷ contents) =
    let one = Holds-prop db t es in let rest = HoldsEach-prop db tables contents in hlevel (one, rest)

-- ---- one table is written

module _ (old new : State) (table : Table) (free : table.references ≡ []) (before after : List Entry)
    (holds : Holds old.now table before)
    (left : Leaves old new table after) where
  -- each table of another name holds what it held
  others_stay : (tables : List Table) (contents : List (List Entry)) → has_other_names table tables ≡ true
      → stand_apart tables ≡ true
      → HoldsEach old.now tables contents → HoldsEach new.now tables contents
  others_stay [] [] names apart each = tt
  others_stay [] (es ∷ contents) names apart each = absurd each
  others_stay (t ∷ tables) [] names apart each = absurd each
  others_stay (t ∷ tables) (es ∷ contents) names apart each =
      let n = and_parts (not (bytes_eq table.name t.name)) (has_other_names table tables) names in
      let s = and_parts (is_free t && has_other_names t tables) (stand_apart tables) apart in
      let f = and_parts (is_free t) (has_other_names t tables) s.0 in (
        stayed old.now new.now table left.rows left.steps free t es (no_references t f.0)
            (λ same. other_name table.name t.name n.0 (sym same))
            holds.defined each.0,
        others_stay tables contents n.1 s.1 each.1,
      )

  one_stays : (t : Table) (es : List Entry) → is_free t ≡ true → t.name ≢ table.name → Holds old.now t es
      → Holds new.now t es
  one_stays t es f apart there = stayed old.now new.now table left.rows left.steps free t es
      (no_references t f) apart holds.defined there

  named_otherwise : (t : Table) (tables : List Table) → has_other_names t tables ≡ true → (at : ℕ)
      → slice_get tables at ≡ Some table
      → t.name ≢ table.name
  named_otherwise t [] names at is = absurd cc
  named_otherwise t (u ∷ tables) names zero is =
      let n = and_parts (not (bytes_eq t.name u.name)) (has_other_names t tables) names in
      let same : u ≡ table = cc in subst (λ (v : Table). t.name ≢ v.name) same (other_name t.name u.name n.0)
  named_otherwise t (u ∷ tables) names (suc at) is =
      let n = and_parts (not (bytes_eq t.name u.name))
      (has_other_names t tables) names in named_otherwise t tables n.1 at is

  -- the database holds the same, but for the rows of the table at its place
  pub one_written : (tables : List Table) (contents : List (List Entry)) → stand_apart tables ≡ true
      → HoldsEach old.now tables contents
      → (at : ℕ) → slice_get tables at ≡ Some table → HoldsEach new.now tables (slice_set contents at after)
  one_written [] contents apart each at is = absurd cc
  one_written (t ∷ tables) [] apart each at is = absurd each
  one_written (t ∷ tables) (es ∷ contents) apart each zero is =
      let s = and_parts (is_free t && has_other_names t tables) (stand_apart tables) apart in
      let f = and_parts (is_free t) (has_other_names t tables) s.0 in
      let same : t ≡ table = cc in (
        subst (λ u. Holds new.now u after) (sym same)
            (stepped old.now new.now table left.rows left.steps free after holds.defined left.tree),
        others_stay tables contents (subst (λ u. has_other_names u tables ≡ true) same f.1) s.1 each.1,
      )
  one_written (t ∷ tables) (es ∷ contents) apart each (suc at) is =
      let s = and_parts (is_free t && has_other_names t tables) (stand_apart tables) apart in
      let f = and_parts (is_free t) (has_other_names t tables) s.0 in (
        one_stays t es f.0 (named_otherwise t tables f.1 at is) each.0,
        one_written tables contents s.1 each.1 at is,
      )
