-- What the changed tables show, why they aren't changed, and what a transaction leaves that changes them.
use Rattle.std.proofs.Common.{◌≡◌, ◌≢◌, ℕ, zero, suc, pos, arith, map, take, [], ◌∷◌, true, false, None, Some, Option}
use Rattle.std.proofs.Common.{is_some, Ok, Err, refl, ap, ◌∙◌, subst, sym, inl, inr}
use Rattle.std.specs.Prelude.{IsTrue}
use Rattle.std.proofs.lemmas.Bool.{cases_Bool}
use Rattle.sqlite.specs.{Effect.Database, Effect.IsDatabase, Held.Held, Held.state, Tree.Trees, declared.error.Error.Error}
use Rattle.sqlite.specs.State.{State, HasCleanDisk, KeepsCommit, Survives, Shows as StateShows}
use Rattle.sqlite_trees.specs.declared.store.Store.{Ghosts}
use Rattle.posting_rules.specs.believed.Tables.{Tables}
use Rattle.posting_rules.specs.declared.{open_fault.OpenFault.TheVariants.Damaged, fault.Rule.TheVariants.Meta}
use Rattle.sql_meanings.specs.{Making.SparesStanding, believed.Making.Stands, believed.Sparing.SparesAllBut}
use Rattle.sql_meanings.specs.believed.Tables.{Defines, Holds, placed_at, tree_of, width_of}
use Rattle.sql_meanings.specs.believed.{Contents.HoldsEach, Entries.IsTree}
use Rattle.sql_meanings.proofs.{Contents.held, Defining.defined_stands, TablesBeside.trees_apart}
use Rattle.sqlite.specs.Table.{Table}
use Rattle.sqlite_rules.specs.Lists.{Has}
use Rattle.store_rows.specs.believed.BankTables.{HasBankTables, closing, floor, meta, reference}
use Rattle.store_rows.specs.{believed.Columns.meta_in, Creation.no_rows, Definitions.AreMade, Failures.HasFailedAtLast}
use Rattle.store_rows.specs.{Lying.IsBankFile, Lying.SetsItsVersion, Probes.all_tables}
use Rattle.store_rows.proofs.BankTables.{completed, is_file, lie_still}
use Rattle.store_rows.specs.{declared.metas.StoredMeta.StoredMeta, declared.metas.TheConstants.VERSION}
use Rattle.store_rows.specs.Migration.{IsEarlier, LackingAreMade, MakesLacking, SetsVersion, ShowsLess, lacking}
use Rattle.store_rows.specs.believed.View.{Shows, ShowsTrees, contents_of, meta_entry, tables_of}
use Rattle.bank_transactions.proofs.Blamed.{comes, same_moment}
use Rattle.bank_store.specs.Migration.{BankIsMoved, ChangesTables, Completes, HasMoved, IsUnmoved, KeepsRows}
use Rattle.bank_store.specs.{OpenFaults.of_the_store, OpenFaults.unmoved_by, StoreFaults.KnowsCause}
use Rattle.bank_store.proofs.{FoundEarlier.meta_there, FoundEarlier.one_and, Settled.begun_survives, Settled.live, Unmade.own_error}

-- ---- a table isn't made

pub refused_unmoved : (from : ℕ) (old new : State) (e : Error) → MakesLacking from old new (Err e)
    → IsUnmoved from old.now (unmoved_by e)
refused_unmoved from old new e why = elim (cases_Bool (of_the_store e)) [
  | inl own ↦ rw own tt
  | inr other ↦ elim why [
    | inl fails ↦ absurd (let own : of_the_store e ≡ true = ap of_the_store fails.1 ∙ own_error fails.0 in cc)
    | inr refused ↦ rw other (e, other, (new.now.schema, refused.0))
  ]
]

pub unmoved_known : {S : Type 0} (g : Ghosts S) (old new : Held S) (e : Error)
    → (HasCleanDisk (state g new) → HasFailedAtLast g old new e) → KnowsCause g old new (unmoved_by e)
unmoved_known g old new e why = elim (cases_Bool (of_the_store e)) [
  | inl own ↦ rw own (λ clean.
      let last = why clean in (
        e,
        record {
          at = last.at;
          then = new;
          before = comes last.before;
          failed = last.failed;
          after = same_moment (state g new);
        },
      ))
  | inr other ↦ rw other tt
]

-- ---- the version is written

module _ (from : ℕ) (earlier : IsEarlier from) (old mid new : State) (made : LackingAreMade from old.now mid.now)
  where
    moved_tables : SetsVersion VERSION mid new (Ok true) → (t : Tables) → ShowsLess from old.now t
        → Shows new.now t × SparesStanding old.now new.now meta.name
    moved_tables set t was =
        let done = set.1 (pos from) t (made.tables t was) in
        let holds = held old.now (tables_of from) (contents_of from t) was.shows.each 0 meta
        (meta_entry (pos from) t.decided ∷ []) (meta_there from) refl in
        let place = made.places meta refl holds.defined in (
          record { sound = done.0.sound; each = done.0.each; early = λ low. absurd (omega (arith, low)) },
          λ u stands apart.
              let then = done.2 u (made.keeps.stands u stands) (λ same. apart (same ∙ place)) in
              (then.0, then.1 ∙ made.keeps.rows u stands.listed),
        )

    -- whatever the rows
    moved_rows : SparesAllBut (meta.name ∷ []) mid.now new.now → KeepsRows old.now new.now
    moved_rows spares u stands apart =
        let stood = made.keeps.stands u stands in (
          subst (λ s. Stands s u) (sym spares.schema) stood,
          spares.rows u stood ((λ same. apart (same ∙ ap (λ s. tree_of s meta.name) (sym spares.schema))), tt)
              ∙ made.keeps.rows u stands.listed,
        )

    -- a new table has no row still
    still_empty : SparesAllBut (meta.name ∷ []) mid.now new.now → Defines mid.now.schema meta → (t : Table)
        → t.references ≡ [] → t.name ≢ meta.name → Holds mid.now t [] → Holds new.now t []
    still_empty spares is t free other holds =
        let same = ap (λ s. new.now.trees (tree_of s t.name)) spares.schema
        ∙ spares.rows (placed_at t (tree_of mid.now.schema t.name)) (defined_stands mid.now.schema t free holds.defined)
        (trees_apart mid.now.schema t meta free refl holds.defined is other, tt) in
        record {
          defined = subst (λ s. Defines s t) (sym spares.schema) holds.defined;
          rows = subst (λ rows. IsTree (width_of t) rows []) (sym same) holds.rows;
        }

    all_empty : (n : ℕ) → IsEarlier n → SparesAllBut (meta.name ∷ []) mid.now new.now → Defines mid.now.schema meta
        → HoldsEach mid.now (map (λ it. it.1) (lacking n)) (no_rows (lacking n))
        → HoldsEach new.now (map (λ it. it.1) (lacking n)) (no_rows (lacking n))
    all_empty zero is spares its each = absurd (omega (arith, is.0))
    all_empty (suc zero) is spares its each = (
      still_empty spares its floor refl (λ same. cc) each.0,
      (
        still_empty spares its reference refl (λ same. cc) each.1.0,
        (still_empty spares its closing refl (λ same. cc) each.1.1.0, tt),
      ),
    )
    all_empty (suc (suc zero)) is spares its each = (
      still_empty spares its reference refl (λ same. cc) each.0,
      (still_empty spares its closing refl (λ same. cc) each.1.0, tt),
    )
    all_empty (suc (suc (suc zero))) is spares its each = (still_empty spares its closing refl (λ same. cc) each.0, tt)
    all_empty (suc (suc (suc (suc n)))) is spares its each = absurd (omega (arith, is.1))

    completes : SparesAllBut (meta.name ∷ []) mid.now new.now × ∥ IsDatabase new.now ∥₁
        → (IsBankFile mid.now → SetsItsVersion VERSION mid.now new.now) → Completes from old.now new.now
    completes (spares, sound) lies all =
        let here = completed from old.now mid.now earlier all made in
        let first = subst (λ n. AreMade old.now.schema (take n all_tables)) (sym (one_and from)) all in
        let same = lie_still from old.now mid.now made meta refl first.0 (pos 1) in
        record {
          sound = sound;
          tables = subst HasBankTables (sym spares.schema) here;
          empty = all_empty from earlier spares here.0 made.empty.each;
          meta = λ row it. lies (is_file mid.now made.empty.sound here) row
              (it.0, subst (λ rows. Has rows it.0) (sym same) it.1, it.2);
        }

    pub moved : SetsVersion VERSION mid new (Ok true)
        → SparesAllBut (meta.name ∷ []) mid.now new.now × ∥ IsDatabase new.now ∥₁
        → (IsBankFile mid.now → SetsItsVersion VERSION mid.now new.now) → ChangesTables from old.now new.now (Ok tt)
    moved set spares lies = (moved_tables set, moved_rows spares.0, completes spares lies)

    none_there : (o : Option StoredMeta) → false ≡ is_some o → o ≡ None
    none_there None h = refl
    none_there (Some x) h = absurd (cc)

    pub not_there : SetsVersion VERSION mid new (Ok false) → IsUnmoved from old.now (Damaged Meta)
    not_there set rows has = none_there (meta_in rows)
        (set.0 rows (record { sound = made.empty.sound; holds = made.holds meta rows refl has.holds }))

-- ---- what is kept

module _ (old mid new : State) (first : StateShows old mid mid.now old.committed true) where
  pub goes_on : StateShows mid new new.now mid.committed true → StateShows old new new.now old.committed true
  goes_on then = record {
    was_open = first.was_open;
    is_open = then.is_open;
    now_is = refl;
    committed_is = then.committed_is ∙ first.committed_is;
    mode = then.mode;
  }

pub commits_nothing : (old new : State) → StateShows old new new.now old.committed true → KeepsCommit old new
commits_nothing old new shows = record { was_open = λ _. shows.was_open; committed = λ _. shows.committed_is }

-- ---- the transaction

-- what a commit may leave of these tables
abbrev pub MayLeave : Database → Trees → Type 0
MayLeave last left = (left ≡ last.trees) × ((t : Tables) → Shows last t → ShowsTrees left t)

-- the connection, the transaction as it begins and after the changes, the connection after it
module _ {S : Type 0} (from : ℕ) (g : Ghosts S) (old begun last new : Held S)
    (is : begun ≡ record old { in_transaction = true }) where
  pub from_begun : (P : Database → Type 0) → P (state g begun).now → P (state g old).now
  from_begun P = subst (λ (h : Held S). P (state g h).now) is

  changed_at : (HasCleanDisk (state g last) → IsTrue (state g begun).in_transaction
      → ChangesTables from (state g begun).now (state g last).now (Ok tt)) → HasCleanDisk (state g last)
      → ChangesTables from (state g old).now (state g last).now (Ok tt)
  changed_at changed clean =
      from_begun (λ (db : Database). ChangesTables from db (state g last).now (Ok tt)) (changed clean (live g old begun last new is))

  -- a crash leaves what it could leave before, or the moved bank
  pub stops : Survives (state g begun) (state g last) (λ _. ⊥)
      → Survives (state g last) (state g new) (MayLeave (state g last).now)
      → (HasCleanDisk (state g last) → IsTrue (state g begun).in_transaction
      → ChangesTables from (state g begun).now (state g last).now (Ok tt))
      → Survives (state g old) (state g new) (HasMoved from (state g old).now)
  stops first then changed =
      begun_survives g old begun last new is (MayLeave (state g last).now) (HasMoved from (state g old).now)
      (λ clean left made.
      let it = changed_at changed clean in
      ((λ t was. made.1 t (it.0 t was).0), ((state g last).now, made.0, it.1, it.2)))
      first then

  -- the bank is moved once it is committed
  pub bank_moved : (HasCleanDisk (state g last) → IsTrue (state g begun).in_transaction
      → ChangesTables from (state g begun).now (state g last).now (Ok tt)) → HasCleanDisk (state g last)
      → ((t : Tables) → Shows (state g last).now t → Shows (state g new).now t)
      → ((t : Tables) → Shows (state g last).now t → (left : Trees) → (state g new).may_leave left → ShowsTrees left t)
      → (state g new).now ≡ (state g last).now → BankIsMoved from (state g old).now (state g new)
  bank_moved changed clean shown left same =
      let it = changed_at changed clean in (
        λ t was. record {
          shows = shown t (it.0 t was).0;
          left = left t (it.0 t was).0;
          spares = subst (λ (db : Database). SparesStanding (state g old).now db meta.name) (sym same) (it.0 t was).1;
        },
        subst (KeepsRows (state g old).now) (sym same) it.1,
        subst (Completes from (state g old).now) (sym same) it.2,
      )
