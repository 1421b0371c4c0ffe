-- What the row of the bank tells, and what stands after it was read.
use Rattle.std.proofs.Common.{◌≡◌, ℤ, Option, Some, Err, refl, sym, ap, subst, ◌∙◌, inl, inr}
use Rattle.std.specs.Prelude.{◌≢◌}
use Rattle.sqlite.specs.{State.State, State.store_error, declared.error.Error.Error, Effect.Database}
use Rattle.sqlite_trees.specs.declared.error.StoreError.{StoreError}
use Rattle.sqlite_trees.specs.declared.error.StoreError.TheVariants as cause
use Rattle.sql_meanings.specs.StatementAnswers.{IsStoreError}
use Rattle.store_rows.specs.TableAnswers.{FindsMeta}
use Rattle.store_rows.specs.{declared.fault.TableFault.TableFault, declared.metas.TheConstants.VERSION}
use Rattle.store_rows.specs.{declared.metas.StoredMeta.StoredMeta, Statements.TellsOther}
use Rattle.store_rows.specs.declared.fault.TableFault.TheVariants.{Sqlite, Damaged}
use Rattle.posting_rules.specs.declared.open_fault.OpenFault.{OpenFault, TheVariants.Store}
use Rattle.bank_store.specs.{MetaRow.IsOfOtherType, MetaRow.IsOfVersion, MetaRow.TellsMeta, OpenFaults.unread_by}

by_cause : (c : StoreError) → unread_by (Sqlite (store_error c)) ≡ Store
by_cause cause.OutOfMemory = refl
by_cause other = refl

-- an error of the store says nothing of the row
by_store : (old new : State) (e : Error) → IsStoreError old new e → unread_by (Sqlite e) ≡ Store
by_store old new e (inl fails) = ap (λ (x : Error). unread_by (Sqlite x)) fails.1 ∙ by_cause fails.0
by_store old new e (inr (inl memory, same)) = ap (λ (x : Error). unread_by (Sqlite x)) memory
by_store old new e (inr (inr limit, same)) = ap (λ (x : Error). unread_by (Sqlite x)) limit.0

-- an error at a row that can be read is the store's
pub read_err : (old new : State) (wanted : Option StoredMeta) (e : TableFault)
    → FindsMeta old new wanted (Err e) → TellsMeta wanted (Err (unread_by e))
read_err old new wanted (Sqlite e) finds =
    subst (λ (f : OpenFault). TellsMeta wanted (Err f)) (sym (by_store old new e finds)) tt
read_err old new wanted (Damaged rule) finds = absurd finds

-- a row has another version than ours
pub other_version : (m : StoredMeta) (version : ℤ) → version ≡ m.version → version ≢ VERSION
    → IsOfVersion version (Some m)
other_version m version same other =
    (m.decided, ap (λ (x : ℤ). let it : StoredMeta = record m { version = x } in Some it) (sym same), other)

-- what is told as a damaged value is one
pub other_value : (db : Database) (e : TableFault) → TellsOther db e → IsOfOtherType db (unread_by e)
other_value db (Sqlite e) other = tt
other_value db (Damaged rule) other = other
