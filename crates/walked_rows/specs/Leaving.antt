-- What reads leave of a connection.
use Rattle.std.specs.Prelude.{◌≡◌, ◌⊎◌, false, Result, IfErr, OnOk}
use Rattle.sqlite.specs.State.{HasCleanDisk, IsUnchanged, Survives}
use Rattle.sqlite.specs.Held.{Held, state}
use Rattle.sqlite_trees.specs.declared.store.Store.{Ghosts}
use Rattle.sql_meanings.specs.StatementAnswers.{WriteFails}

-- An answer leaves this of the connection; a fault leaves everything as it was, or the transaction is rolled
-- back. No transaction begins, and a crash leaves nothing new.
pub record ReadsBy {S X E : Type 0} (Same : Held S → Held S → Type 0) (g : Ghosts S) (old new : Held S)
    (result : Result X E) : Type 0 where
  pub same : HasCleanDisk (state g new) → OnOk result (Same old new)
  pub err : HasCleanDisk (state g new) → IfErr result (λ _. WriteFails (state g old) (state g new))
  pub mode : old.in_transaction ≡ false → new.in_transaction ≡ false
  pub survives : Survives (state g old) (state g new) (λ _. ⊥)

-- the store was open and is, and everything is as it was
abbrev pub IsSame : {S : Type 0} → Ghosts S → Held S → Held S → Type 0
IsSame g old new = IsUnchanged (state g old) (state g new)

-- the same, or the store wasn't asked, open or not
abbrev pub IsSameIfAsked : {S : Type 0} → Ghosts S → Held S → Held S → Type 0
IsSameIfAsked g old new = IsSame g old new ⊎ (new ≡ old)

-- an answer leaves everything as it was
abbrev pub OnlyReads : {S X E : Type 0} → Ghosts S → Held S → Held S → Result X E → Type 0
OnlyReads g = ReadsBy (IsSame g) g

-- the same, where there may be nothing to read
abbrev pub ReadsIfAny : {S X E : Type 0} → Ghosts S → Held S → Held S → Result X E → Type 0
ReadsIfAny g = ReadsBy (IsSameIfAsked g) g
