-- What is there of tables that are being made, each by its text: so many of them so far.
use Rattle.std.proofs.Common.{◌≡◌, ◌≢◌, ◌⊎◌, ℕ, zero, suc, ◌≤◌, List, [], ◌∷◌, take, slice_get, Some, IsTrue, refl}
use Rattle.std.proofs.Common.{ap, ◌∙◌, arith, true, false, inl, inr}
use Rattle.std.specs.{List.AllByRecursion, Prelude.fold}
use Rattle.sqlite.specs.{Schema.Schema, Table.Table, Change.created, Change.next_tree, Does.lacks_sequence, Held.Held}
use Rattle.sqlite.specs.{Held.state, declared.transaction.Transaction.Transaction}
use Rattle.sqlite.specs.Effect.{Database, IsDatabase}
use Rattle.sqlite_catalog.proofs.StepLemmas.{table_below}
use Rattle.sqlite_trees.specs.declared.store.Store.{Ghosts}
use Rattle.sqlite.specs.State.{State, HasCleanDisk, Survives, KeepsCounts, Shows as StateShows}
use Rattle.sqlite_rules.specs.Lists.{Has}
use Rattle.sql_meanings.specs.believed.{Making.Stands, Tables.placed_at}
use Rattle.sql_meanings.specs.Making.{AddsTable, IsGrown, KeepsWhatStood, counts_rows}
use Rattle.sql_meanings.proofs.TableStands.{counts_created}
use Rattle.store_rows.specs.Creation.{AreGrown}

-- the table is new, and has no rows
pub record IsNew (old now : Database) (t : Table) : Type 0 where
  pub tree : ℕ
  pub stands : Stands now.schema (placed_at t tree)
  pub empty : now.trees tree ≡ []
  pub apart : (u : Table) → Has old.schema.tables u → u.tree ≢ tree

stays_new : (old mid new : Database) (t : Table) → KeepsWhatStood mid new → IsNew old mid t → IsNew old new t
stays_new old mid new t since is = record {
  tree = is.tree;
  stands = since.stands _ is.stands;
  empty = since.rows _ is.stands.listed ∙ is.empty;
  apart = is.apart;
}

pub stay_new : (old mid new : Database) (ts : List (List ℕ × Table)) → KeepsWhatStood mid new
    → AllByRecursion (λ it. IsNew old mid it.1) ts
    → AllByRecursion (λ it. IsNew old new it.1) ts
stay_new old mid new [] since all = tt
stay_new old mid new (it ∷ ts) since all =
    (stays_new old mid new it.1 since all.0, stay_new old mid new ts since all.1)

pub made_new : (old mid new : Database) (t : Table) → KeepsWhatStood old mid → AddsTable mid new t
    → IsNew old new t
made_new old mid new t before made = record {
  tree = next_tree mid.schema;
  stands = made.stands;
  empty = made.empty;
  apart = λ u h same. let low = table_below mid.schema u (before.has u h) in absurd (omega arith);
}

-- the first so many tables were made so far
pub record Reached (texts : List (List ℕ × Table)) (old mid : State) (made : ℕ) : Type 0 where
  pub shows : StateShows old mid mid.now old.committed true
  pub marks : mid.marks ≡ old.marks
  pub counts : KeepsCounts old mid
  pub keeps : KeepsWhatStood old.now mid.now
  pub faults : old.faults ≤ mid.faults
  pub sound : IsDatabase mid.now
  pub new : AllByRecursion (λ it. IsNew old.now mid.now it.1) (take made texts)
  pub grown : AreGrown (take made texts) old.now.schema mid.now.schema

-- the same, or none was made and nothing has changed
abbrev pub Begun : List (List ℕ × Table) → {S : Type 0} → Ghosts S → Held S → Held S → ℕ → Type 0
Begun texts g old mid made = ((made ≡ 0) × (mid ≡ old)) ⊎ Reached texts (state g old) (state g mid) made

-- what the loop keeps
pub record Going (texts : List (List ℕ × Table)) {S : Type 0} (g : Ghosts S) (old mid : Transaction S)
    (made : ℕ) : Type 0 where
  pub same_reference : mid.conn.ghost_name ≡ old.conn.ghost_name
  pub begun : HasCleanDisk (state g mid.conn.now) → IsTrue old.conn.now.in_transaction
      → Begun texts g old.conn.now mid.conn.now made
  pub survives : Survives (state g old.conn.now) (state g mid.conn.now) (λ _. ⊥)

-- ---- the schema

-- it grows by one more
pub grows_more : (texts : List (List ℕ × Table)) (n : ℕ) (it : List ℕ × Table) → slice_get texts n ≡ Some it
    → (old mid new : Schema) → AreGrown (take n texts) old mid → IsGrown mid it.1 new
    → AreGrown (take (suc n) texts) old new
grows_more [] n it is old mid new first then = absurd cc
grows_more (x ∷ texts) zero it is old mid new first then =
    let same : x ≡ it = cc in
    (new, rw (same, ← first) then, refl)
grows_more (x ∷ texts) (suc n) it is old mid new first then =
    (first.0, first.1, grows_more texts n it is first.0 mid new first.2 then)

-- it has the one table more, where none has to be made that counts
pub grows_plainly : (old new : Schema) (t : Table) → IsGrown old t new → lacks_sequence (created old t) ≡ false
    → new ≡ created old t
grows_plainly old new t (inl plainly) has = plainly.1
grows_plainly old new t (inr lacks) has = absurd (let some = lacks.0 in cc)

-- or these, where no table counts its rows
pub grows_alone : (texts : List (List ℕ × Table)) → AllByRecursion (λ it. it.1.is_counted ≡ false) texts
    → (old new : Schema) → AreGrown texts old new → counts_rows old ≡ false
    → new ≡ fold (λ s it. created s it.1) old texts
grows_alone [] all old new grown none = grown
grows_alone (it ∷ texts) all old new (mid, first, then) none =
    let more = counts_created old it.1 all.0 none in
    let has : lacks_sequence (created old it.1) ≡ false = rw more refl in
    let is = grows_plainly old mid it.1 first has in
    grows_alone texts all.1 mid new then (ap counts_rows is ∙ more)
    ∙ ap (λ s. fold (λ s it. created s it.1) s texts) is

pub keeps_itself : (a : Database) → KeepsWhatStood a a
keeps_itself a = record { stands = λ t h. h; has = λ t h. h; rows = λ t h. refl }
