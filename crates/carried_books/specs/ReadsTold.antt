-- A bank was read, and a fault says why no more of it was.
use Rattle.std.specs.Prelude.{Result, Ok, Err}
use Rattle.sqlite_trees.specs.declared.store.Store.{Ghosts}
use Rattle.posting_rules.specs.declared.fault.{Fault.Fault, Fault.TheVariants.Memory}
use Rattle.bank_store.specs.declared.bank.Bank.{Bank}
use Rattle.bank_replays.specs.Damaged.{TellsWhy}
use Rattle.bank_replays.specs.Reading.{ReadsBank}
use Rattle.bank_replays.specs.declared.fault.ReplayFault.{ReplayFault, TheVariants.Bank as OfBank}

pub record ReadsTold {S X E : Type 0} (g : Ghosts S) (fault_of : E → Fault) (old new : Bank S g) (result : Result X E)
    : Type 0 where
  pub bank : ReadsBank g old new result
  pub why : TellsWhy g fault_of old new result

-- what was refused memory, as a fault of the bank
abbrev pub told_of : {X E : Type 0} → Result X E → Result X ReplayFault
told_of (Ok x) = Ok x
told_of (Err e) = Err (OfBank Memory)
