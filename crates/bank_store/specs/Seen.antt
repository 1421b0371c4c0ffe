-- The fault that a call met, and the allocator that a bank was given.
use Rattle.std.specs.Prelude.{Option}
use Rattle.std.specs.declared.alloc.Global.{Global}
use Rattle.sqlite_trees.specs.declared.store.Store.{Ghosts}
use Rattle.store_rows.specs.declared.fault.TableFault.{TableFault}
use Rattle.bank_store.specs.declared.bank.Bank.{Bank}

-- what brought it down
abbrev pub fault_of : {S : Type 0} {g : Ghosts S} → Bank S g → Option TableFault
fault_of bank = bank.fault

-- what its calls take memory from
abbrev pub alloc_of : {S : Type 0} {g : Ghosts S} → Bank S g → Global
alloc_of bank = bank.alloc
