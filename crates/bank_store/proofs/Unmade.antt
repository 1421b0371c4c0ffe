-- Why no bank can be made.
use Rattle.std.proofs.Common.{◌≡◌, ℕ, List, true, Ok, Err, Result, refl, ap, subst, ◌∙◌, inl, inr}
use Rattle.std.specs.Prelude.{IfErr, IsSome}
use Rattle.sqlite.specs.{Table.Table, Effect.Database, State.State, State.store_error, declared.error.Error.Error}
use Rattle.sqlite_trees.specs.declared.error.StoreError.{StoreError}
use Rattle.sqlite_trees.specs.declared.error.StoreError.TheVariants.{OutOfMemory}
use Rattle.sqlite_schema.specs.Names.{table_named, view_named}
use Rattle.posting_rules.proofs.Keyed.{by_test}
use Rattle.sql_meanings.specs.Making.{KeepsTables}
use Rattle.store_rows.specs.Creation.{CreatesBank, IsEmpty, TablesAreMade, RefusesNext, all_texts}
use Rattle.store_rows.specs.Probes.{all_probes, probe_of}
use Rattle.posting_rules.specs.declared.open_fault.BankTable.TheVariants as table
use Rattle.store_rows.proofs.EmptyFile.{refused_on_nothing}
use Rattle.bank_store.specs.{NewBank.IsRefusedOnTheWay, NewBank.IsTaken, declared.presence.Presence.Presence}
use Rattle.bank_store.specs.OpenFaults.{of_the_store, unmade_by}
use Rattle.bank_store.specs.TablePresence.{IsReadable, OneOf, IsPresent}
use Rattle.bank_store.specs.declared.presence.Presence.TheVariants.{Absent, Partial, Whole}
use Rattle.posting_rules.specs.declared.open_fault.OpenFault.{OpenFault, TheVariants.NotBlank}

-- what the store names is its own
pub own_error : (cause : StoreError) → of_the_store (store_error cause) ≡ true
own_error OutOfMemory = refl
own_error other = refl

pub refused_because : (old new : State) (e : Error) (fault : OpenFault) → fault ≡ unmade_by e
    → CreatesBank old new (Err e) → fault ≡ NotBlank → IsRefusedOnTheWay old
refused_because old new e fault is (inl fails) taken =
    absurd (let own : of_the_store e ≡ true = ap of_the_store fails.1
    ∙ own_error fails.0 in let h = rw own at is in cc)
refused_because old new e fault is (inr refused) taken =
    elim (by_test (of_the_store e)) [
      | inl own ↦ absurd (let h = rw own at is in cc)
      | inr other ↦ (e, new.now, other, refused.0)
    ]

-- what is refused where nothing was changed is refused before
pub refused_before : (old mid : State) → mid.now ≡ old.now → mid.step_limit ≡ old.step_limit
    → IsRefusedOnTheWay mid
    → IsRefusedOnTheWay old
refused_before old mid now limit (e, db, other, inl one) = (
  e,
  db,
  other,
  inl (subst (λ (it : Database). RefusesNext all_texts it.schema db.schema e
      × KeepsTables it db) now one),
)
refused_before old mid now limit (e, db, other, inr first) = (
  e,
  db,
  other,
  inr (
    elim first.0 [
      | inl met ↦ inl (met.0, subst (λ o. IsSome o) limit met.1)
      | inr none ↦ inr none
    ],
    subst (λ (it : Database). TablesAreMade all_texts it db) now first.1,
  ),
)

pub if_err : {X E : Type 0} (P Q : E → Type 0) → ((e : E) → P e → Q e) → (r : Result X E) → IfErr r P
    → IfErr r Q
if_err P Q f (Ok x) h = tt
if_err P Q f (Err e) h = f e h

pub some_there : (db : Database) (p : Presence) → (p ≡ Absent → ⊥) → IsPresent db all_probes p
    → OneOf all_probes (IsReadable db)
some_there db Absent not_so here = absurd (not_so refl)
some_there db Partial not_so here = here.0
some_there db Whole not_so here = (probe_of table.Meta, inl refl, here.0)

none_named : (db : Database) (it : List ℕ × Table) → IsEmpty db → IsReadable db it → ⊥
none_named db it empty (text, inl there) = there (ap (λ s. table_named s it.1.name) empty)
none_named db it empty (text, inr there) = there (ap (λ s. view_named s it.1.name) empty)

-- an empty file has nothing that stands in the way
pub not_taken : (old : State) → IsEmpty old.now → IsTaken old → ⊥
not_taken old empty (inl (it, listed, there)) = none_named old.now it empty there
not_taken old empty (inr (e, db, other, refused)) =
    let limit = refused_on_nothing old db e empty refused in
    let own = ap of_the_store limit.0 in
    cc
