-- A bank's file keeps the tables of a bank, whatever a call of it comes to.
use Rattle.std.proofs.Common.{◌≡◌, Result, Ok, Err, arith, ap, sym, subst}
use Rattle.std.specs.Prelude.{IsTrue, OnErr, OnOk}
use Rattle.std.proofs.Math.Logic.{∥∥₁_elim, ∥∥₁_map}
use Rattle.sqlite.specs.{Effect.Database, Held.Held, Held.state, State.HasCleanDisk, State.State, State.Survives}
use Rattle.sqlite.specs.Tree.{Trees}
use Rattle.sqlite_trees.specs.declared.store.Store.{Ghosts}
use Rattle.store_rows.specs.{believed.BankTables.HasBankTables, believed.Sparing.SparesOthers}
use Rattle.store_rows.specs.declared.fault.TableFault.{TableFault}
use Rattle.store_rows.proofs.BankTables.{HasBankTables-prop}
use Rattle.bank_transactions.specs.{Doing.SparesTheirs, Undone.IsUndone, Undone.UndoesFaults}
use Rattle.bank_store.specs.{Walks.IsUntouchedIfOpen, believed.FileTables.HasFileTables}

HasFileTables-prop : {S : Type 0} (g : Ghosts S) (conn : Held S) → IsProp (HasFileTables g conn)
HasFileTables-prop g conn a b = λ i clean is_open. HasBankTables-prop _ (a clean is_open) (b clean is_open) i

-- so it is known as it is
pub has_tables : {S : Type 0} (g : Ghosts S) (conn : Held S) → ∥ HasFileTables g conn ∥₁ → HasFileTables g conn
has_tables g conn it = ∥∥₁_elim it (HasFileTables-prop g conn) (λ has. has)

-- the store was open, and no definition has changed
abbrev KeepsSchema : State → State → Type 0
KeepsSchema old new = IsTrue new.is_open → IsTrue old.is_open × (new.now.schema ≡ old.now.schema)

stays : {S : Type 0} (g : Ghosts S) (old new : Held S) → (HasCleanDisk (state g new) → HasCleanDisk (state g old))
    → (HasCleanDisk (state g new) → KeepsSchema (state g old) (state g new)) → ∥ HasFileTables g old ∥₁
    → ∥ HasFileTables g new ∥₁
stays g old new before same was = ∥∥₁_map was (λ it clean is_open.
    let kept = same clean is_open in subst HasBankTables (sym kept.1) (it (before clean) kept.0))

of_call : {X : Type 0} (old new : State) (r : Result X TableFault) → OnOk r (SparesOthers old.now new.now)
    → OnOk r (IsTrue old.is_open) → OnErr r (IsUndone old new) → KeepsSchema old new
of_call old new (Ok x) spares opened undone = λ is_open. (opened, spares.schema)
of_call old new (Err fault) spares opened undone = λ is_open.
    let it = undone is_open in (it.0, ap (λ (db : Database). db.schema) it.1)

-- a call in a transaction of its own, answered or not
pub tables_kept : {S X : Type 0} (g : Ghosts S) (old new : Held S) (r : Result X TableFault)
    → SparesTheirs g old new r → UndoesFaults g old new r → ∥ HasFileTables g old ∥₁ → ∥ HasFileTables g new ∥₁
tables_kept g old new r spares undone =
    stays g old new (λ clean. omega (arith, spares.left.clean, clean))
    (λ clean. of_call (state g old) (state g new) r (spares.now clean) (spares.opened clean) (undone clean))

-- rows were read
pub tables_read : {S : Type 0} {P : Trees → Type 0} (g : Ghosts S) (old new : Held S)
    → Survives (state g old) (state g new) P
    → (HasCleanDisk (state g new) → IsUntouchedIfOpen (state g old) (state g new)) → ∥ HasFileTables g old ∥₁
    → ∥ HasFileTables g new ∥₁
tables_read g old new survives undone =
    stays g old new (λ clean. omega (arith, survives.clean, clean))
    (λ clean is_open. let same = undone clean is_open in (same.was_open, ap (λ (db : Database). db.schema) same.now_is))
