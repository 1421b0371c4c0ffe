-- What spares the tables of other products, from a connection to the one that comes of it.
use Rattle.std.proofs.Common.{arith, inl, refl, subst, sym}
use Rattle.sqlite.specs.{Effect.Database, Held.Held, Held.state, State.HasCleanDisk, State.Survives}
use Rattle.sqlite.proofs.StateLemmas.{survives_then}
use Rattle.sqlite_trees.specs.declared.store.Store.{Ghosts}
use Rattle.sql_meanings.proofs.Sparing.{spares_itself}
use Rattle.store_rows.specs.believed.Sparing.{SparesOthers, bank_names}
use Rattle.bank_transactions.specs.believed.Doing.{LeavesOthers}
use Rattle.bank_store.specs.{believed.Seen.connection_of, Walks.IsUntouchedIfOpen, declared.bank.Bank.Bank}
use Rattle.bank_store.specs.{believed.BankSparing.SparesOtherTables, OpenBankSparing.SparesWhileOpen}

-- nothing was read
pub idle_spares : {S : Type 0} (g : Ghosts S) (conn : Held S) → SparesWhileOpen g conn conn
idle_spares g conn = record {
  now = λ clean is_open. spares_itself bank_names (state g conn).now;
  left = record {
    clean = omega arith;
    shield = λ h. h;
    counts = omega arith;
    limit = refl;
    closes = λ clean was. inl was;
    crash = λ clean left may. inl may;
  };
}

-- a call of the bank was answered, or refused
pub call_spares : {S : Type 0} (g : Ghosts S) (old new : Bank S g) → SparesOtherTables g old new
    → SparesWhileOpen g (connection_of old) (connection_of new)
call_spares g old new spared =
    record { now = λ clean is_open. spared.now clean (λ down. is_open); left = spared.left }

-- and then rows were read
pub read_spares : {S : Type 0} (g : Ghosts S) (old mid new : Held S) → SparesWhileOpen g old mid
    → (HasCleanDisk (state g new) → IsUntouchedIfOpen (state g mid) (state g new))
    → Survives (state g mid) (state g new) (λ _. ⊥) → SparesWhileOpen g old new
read_spares g old mid new spared undone quiet = record {
  now = λ clean is_open.
      let same = undone clean is_open in
      subst (λ (db : Database). SparesOthers (state g old).now db) (sym same.now_is)
      (spared.now (omega (arith, quiet.clean, clean)) same.was_open);
  left = survives_then (state g old) (state g mid) (state g new) (LeavesOthers (state g old).now) (λ _. ⊥)
      (LeavesOthers (state g old).now) (λ clean db h. h) (λ clean db none. absurd none) spared.left quiet;
}
