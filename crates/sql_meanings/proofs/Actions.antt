-- Whatever refers to a table with no foreign key of its own, an edit leaves in it what the edit says.
use Rattle.sql_meanings.specs.Names.{ℕ, List, [], length, Ok, Some, None, Option, ℤ, filter_map, flat_map}
use Rattle.sql_meanings.specs.Names.{list_any, Schema, Table, Trees, Keys, Reference, ParentKey, parent_key, Deed}
use Rattle.sql_meanings.specs.Names.{Has, taken_by, work_by, work_for, works, pairs, deed_for, Leads, Writes}
use Rattle.sql_meanings.proofs.Names.{suc, zero, refl, nat_lt, ap, sym, subst, ◌∙◌, inl, inr, cases_Bool, all_has}
use Rattle.sql_meanings.proofs.Names.{has_either, has_left, has_right, same_value}
use Rattle.std.specs.List.{cons_option}
use Rattle.sqlite_value.specs.Order.{Row}
use Rattle.sqlite_rules.specs.Edit.{Edit, Applies, edited}
use Rattle.sqlite_rules.specs.Action.{Work, loses, Acts, ActsOn, Goes, refuses, max_depth, action_edit, End}
use Rattle.sql_meanings.specs.believed.Making.{Stands}
use Rattle.std.specs.Prelude.{◌≡◌, ◌≢◌, ◌+◌, ◌==◌, ◌∷◌, ◌&&◌, ◌⊎◌}

abbrev Good : Schema → Work → Type 0
Good schema w = Has schema.tables w.child × Has w.child.references w.ref

module _ (schema : Schema) (keys : Keys) where
  good_by : (depth tree : ℕ) (moves : List (Row × Row)) (child : Table) (ref : Reference) (deed : Option Deed)
      (key : Option ParentKey)
      (w : Work)
      → work_by depth tree moves child ref deed key ≡ Some w → (w.child ≡ child) × (w.ref ≡ ref)
  good_by depth tree moves child ref None key w h = absurd (cc)
  good_by depth tree moves child ref (Some deed) None w h = absurd (cc)
  good_by depth tree moves child ref (Some deed) (Some key) w h =
      elim (cases_Bool ((key.0 == tree) && list_any (loses key.2 key.1) moves)) [
        | inl acts ↦ let e = rw acts at h in (
          ap (λ (x : Work). x.child) (sym (some_same e)),
          ap (λ (x : Work). x.ref) (sym (some_same e)),
        )
        | inr none ↦ absurd (let e = rw none at h in cc)
      ]
    where
      some_same : {a b : Work} → ◌≡◌ {A = Option Work} (Some a) (Some b) → a ≡ b
      some_same e = cc

  cons_has : {X : Type 0} (o : Option X) (xs : List X) (x : X) → Has (cons_option o xs) x
      → (o ≡ Some x) ⊎ Has xs x
  cons_has None xs x h = inr h
  cons_has (Some y) xs x (inl e) = inl (ap Some (sym e))
  cons_has (Some y) xs x (inr h) = inr h

  good_of : (depth tree : ℕ) (olds news : List Row) (child : Table) (refs : List Reference) (w : Work)
      → Has (filter_map (work_for schema keys depth tree olds news child) refs) w
      → (w.child ≡ child) × Has refs w.ref
  good_of depth tree olds news child [] w h = absurd h
  good_of depth tree olds news child (ref ∷ refs) w h =
      elim (cons_has (work_for schema keys depth tree olds news child ref) _ w h) [
        | inl is ↦ let g = good_by depth tree (pairs olds news) child ref
            (deed_for keys (length news == 0) ref)
            (parent_key schema.tables ref) w is in (g.0, inl g.1)
        | inr more ↦ let g = good_of depth tree olds news child refs w more in (g.0, inr g.1)
      ]

  good_in : (depth tree : ℕ) (olds news : List Row) (tables : List Table)
      → ((t : Table) → Has tables t → Has schema.tables t)
      → (w : Work)
      → Has (flat_map (λ child. filter_map (work_for schema keys depth tree olds news child)
      child.references) tables) w → Good schema w
  good_in depth tree olds news [] within w h = absurd h
  good_in depth tree olds news (t ∷ tables) within w h =
      elim (has_either (filter_map (work_for schema keys depth tree olds news t) t.references) _ w h) [
        | inl here ↦ let g = good_of depth tree olds news t t.references w here in (
          subst (Has schema.tables) (sym g.0) (within t (inl refl)),
          subst (λ (u : Table). Has u.references w.ref) (sym g.0) g.1,
        )
        | inr later ↦ good_in depth tree olds news tables (λ u k. within u (inr k)) w later
      ]

  -- what is set off is a foreign key of a table of the schema
  pub good_works : (depth tree : ℕ) (olds news : List Row) (w : Work)
      → Has (works schema keys depth tree olds news) w → Good schema w
  good_works depth tree olds news w h = good_in depth tree olds news schema.tables (λ t k. k) w h

  module _ (table : Table) (stands : Stands schema table) where
    other_tree : (w : Work) → Good schema w → table.tree ≢ w.child.tree
    other_tree w good same = let is = stands.apart w.child good.0 (sym same) in
        absurd (subst (λ refs. Has refs w.ref) (ap (λ (t : Table). t.references) is ∙ stands.free) good.1)

    -- an edit of another tree leaves the table
    pub apart_from : (db next : Trees) (edit : Edit) → table.tree ≢ edit.table.tree
        → Applies schema keys db edit next
        → next table.tree ≡ db table.tree
    apart_from db next edit other applies = all_has _ schema.tables table applies.tables stands.listed other

    -- the rest of the actions leaves the table
    abbrev Rests : (Trees → List Work → End → Type 0) → Trees → Type 0
    Rests Then next = (mid : Trees) (stack : List Work) → ((w : Work) → Has stack w → Good schema w)
        → Then mid stack (Ok next)
        → next table.tree ≡ mid table.tree

    module _ (Then : Trees → List Work → End → Type 0) (db next : Trees) (rests : Rests Then next)
        (below : List Work) (w : Work)
        (here : Good schema w) (under : (x : Work) → Has below x → Good schema x) where
      goes_on : (ids : List ℤ) → Goes schema keys Then db (action_edit db w ids) (w.depth + 1) below (Ok next)
          → next table.tree ≡ db table.tree
      goes_on ids (inl refused) = absurd (let e = refused.2 in cc)
      goes_on ids (inr (inl big)) = absurd (let e = big.3 in cc)
      goes_on ids (inr (inr on)) =
          rests on.0 _ (λ x h. elim (has_either below
          (works schema keys (w.depth + 1) w.child.tree (taken_by db (action_edit db w ids))
          (action_edit db w ids).news) x h) [
            | inl old ↦ under x old
            | inr new ↦ good_works (w.depth + 1) w.child.tree
                (taken_by db (action_edit db w ids)) (action_edit db w ids).news x new
          ]) on.2
          ∙ apart_from db on.0 (action_edit db w ids) (other_tree w here) on.1

      acts_on : (ids : List ℤ) → ActsOn schema keys Then db w below (Ok next) ids
          → next table.tree ≡ db table.tree
      acts_on [] h = rests db below under h
      acts_on (id ∷ ids) h = elim (cases_Bool (refuses w.deed)) [
        | inl refused ↦ absurd (let e = rw refused at h in cc)
        | inr goes ↦ goes_on (id ∷ ids) (rw goes at h)
      ]

      acts_now : Acts schema keys Then db w below (Ok next) → next table.tree ≡ db table.tree
      acts_now h = elim (cases_Bool (nat_lt w.depth max_depth)) [
        | inl low ↦ let went = rw low at h in acts_on went.0 went.2
        | inr high ↦ absurd (let e = rw high at h in cc)
      ]

    -- all that is set off leaves a table with no foreign key
    pub settles : (n : ℕ) (next : Trees) → Rests (Leads schema keys n) next
    settles zero next db stack good h = ap (λ (t : Trees). t table.tree) (same_value h.1)
    settles (suc n) next db stack good (below, w, is, acts) =
        acts_now (Leads schema keys n) db next (settles n next) below w
        (good w (subst (λ l. Has l w) (sym is) (has_right below (w ∷ []) w (inl refl))))
        (λ x h. good x (subst (λ l. Has l x) (sym is) (has_left below (w ∷ []) x h))) acts

-- what a write leaves in the tables that stand alone, whatever else the schema has
pub record Leaves (schema : Schema) (db : Trees) (edit : Edit) (next : Trees) : Type 0 where
  pub rows : next edit.table.tree ≡ edited db edit
  pub others : (t : Table) → Stands schema t → t.tree ≢ edit.table.tree → next t.tree ≡ db t.tree

-- a write that is done leaves its table as the edit says, and every other table that stands
pub writes_leave : (schema : Schema) (keys : Keys) (db next : Trees) (edit : Edit) → Stands schema edit.table
    → Writes schema keys db edit (Ok next) → Leaves schema db edit next
writes_leave schema keys db next edit stands (inl refused) = absurd (let e = refused.2 in cc)
writes_leave schema keys db next edit stands (inr (inl big)) = absurd (let e = big.3 in cc)
writes_leave schema keys db next edit stands (inr (inr went)) = record {
  rows = settles schema keys edit.table stands went.2.0 next went.0 _
      (good_works schema keys 0 edit.table.tree (taken_by db edit) edit.news) went.2.1 ∙ went.1.rows;
  others = λ t other apart. settles schema keys t other went.2.0 next went.0 _
      (good_works schema keys 0 edit.table.tree (taken_by db edit) edit.news) went.2.1
      ∙ apart_from schema keys t other db went.0 edit apart went.1;
}
