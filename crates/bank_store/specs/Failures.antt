-- Why the rows of a bank weren't all read.
use Rattle.std.specs.Prelude.{⊤}
use Rattle.sqlite.specs.Held.{Held, state}
use Rattle.sqlite_trees.specs.declared.store.Store.{Ghosts}
use Rattle.posting_rules.specs.declared.fault.Fault.{Fault}
use Rattle.posting_rules.specs.declared.fault.Fault.TheVariants.{Memory, Store, Down, Damaged}
use Rattle.posting_rules.specs.declared.fault.Rule.{Rule}
use Rattle.bank_transactions.specs.believed.Causes.{IsBefore}
use Rattle.bank_store.specs.Walking.{StoreFailed}

-- between these two moments of a connection a read failed, as the last of its calls: the store did, or it
-- refused memory or steps
pub record HasFailedToRead {S : Type 0} (g : Ghosts S) (old new : Held S) : Type 0 where
  -- the connection before that read
  pub at : Held S
  pub before : IsBefore (state g old) (state g at)
  pub failed : StoreFailed (state g at) (state g new)

-- what a fault says of rows: they break the rule in this way, or a read failed
abbrev pub SaysOf : (Rule → Type 0) → Type 0 → Fault → Type 0
SaysOf Breaks Failed (Damaged rule) = Breaks rule
SaysOf Breaks Failed Store = Failed
SaysOf Breaks Failed Down = ⊤
SaysOf Breaks Failed Memory = ⊥
