-- The moments of a bank's lives: a bank, or a connection that no bank holds.
use Rattle.sqlite.specs.Held.{Held, state}
use Rattle.sqlite_trees.specs.declared.store.Store.{Ghosts}
use Rattle.posting_rules.specs.believed.Counter.{Seen}
use Rattle.bank_store.specs.believed.Seen.{bank_seen, connection_of, seen_in}
use Rattle.bank_store.specs.declared.bank.Bank.{Bank}

pub data LifeState {S : Type 0} (g : Ghosts S) : Type 0 where
  Of_bank : Bank S g → LifeState g
  Of_connection : Held S → LifeState g

-- the connection at that moment
abbrev pub held_at : {S : Type 0} {g : Ghosts S} → LifeState g → Held S
held_at (Of_bank bank) = connection_of bank
held_at (Of_connection conn) = conn

-- a fault brought the bank down; a connection that no bank holds is never down
abbrev pub is_down_at : {S : Type 0} {g : Ghosts S} → LifeState g → Type 0
is_down_at {S} {g} (Of_bank bank) = (bank_seen g bank).is_down
is_down_at (Of_connection conn) = ⊥

-- what is seen at that moment
abbrev pub seen_at : {S : Type 0} (g : Ghosts S) → LifeState g → Seen
seen_at g moment = seen_in (state g (held_at moment)) (is_down_at moment)
