-- What each call inside a transaction says.
use Rattle.sql_meanings.specs.Names.{IsTrue, State, HasCleanDisk, Survives, state, Transaction, Ghosts}
use Rattle.std.specs.Prelude.{◌≡◌}

-- The connection is the same. On an honest disk: what it says of the rows, and what holds whatever the rows.
-- Only a fault shuts the store, and a crash leaves nothing new.
pub record Says {S : Type 0} (g : Ghosts S) (old new : Transaction S)
    (Answers Left : State → State → Type 0) : Type 0 where
  pub same_reference : new.conn.ghost_name ≡ old.conn.ghost_name
  pub answers : HasCleanDisk (state g new.conn.now) → Answers (state g old.conn.now) (state g new.conn.now)
  pub leaves : HasCleanDisk (state g new.conn.now) → Left (state g old.conn.now) (state g new.conn.now)
  pub survives : Survives (state g old.conn.now) (state g new.conn.now) (λ _. ⊥)

-- as long as the transaction goes on
abbrev pub Inside : (State → State → Type 0) → State → State → Type 0
Inside Answers old new = IsTrue old.in_transaction → Answers old new
