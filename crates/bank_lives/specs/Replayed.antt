-- A bank that was replayed.
use Rattle.std.specs.Prelude.{◌≡◌, List, ⊤}
use Rattle.sqlite.specs.Held.{Held, state}
use Rattle.sqlite.specs.State.{Opens, Survives}
use Rattle.sqlite_trees.specs.declared.store.Store.{Ghosts}
use Rattle.posting_rules.specs.believed.Commands.{Command}
use Rattle.posting_rules.specs.believed.Counter.{ShowsLog}
use Rattle.bank_store.specs.FoundBank.{IsTakenUp}
use Rattle.bank_store.specs.Leaving.{TakesNone}
use Rattle.bank_store.specs.believed.Seen.{bank_seen, file_of}
use Rattle.bank_store.specs.Seen.{fault_of}
use Rattle.bank_store.specs.declared.bank.Bank.{Bank}

-- A connection was just opened, `adopt` took up the bank over it, and `replay` said of that bank that it agrees and
-- left it as the last one. This is what the two promise then.
pub record IsReplayed {S : Type 0} (g : Ghosts S) (conn : Held S) (bank last : Bank S g) (log : List Command)
    : Type 0 where
  pub opens : Opens (state g conn)
  pub found : IsTakenUp g conn bank
  pub survives : Survives (state g conn) (file_of bank) (λ _. ⊥)
  pub agrees : (bank_seen g last).honest → ShowsLog (bank_seen g bank) log
  pub reads : TakesNone (bank_seen g bank) (bank_seen g last) ⊤
  pub up : fault_of last ≡ fault_of bank
