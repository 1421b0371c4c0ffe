-- The tables of a file are those of a bank.
use Rattle.std.specs.Prelude.{IsTrue}
use Rattle.sqlite.specs.Held.{Held, state}
use Rattle.sqlite.specs.State.{HasCleanDisk}
use Rattle.sqlite_trees.specs.declared.store.Store.{Ghosts}
use Rattle.store_rows.specs.believed.BankTables.{HasBankTables}

-- on an honest disk the file behind the connection defines the tables of a bank, as long as its store is open
abbrev pub HasFileTables : {S : Type 0} → Ghosts S → Held S → Type 0
HasFileTables g conn =
    HasCleanDisk (state g conn) → IsTrue (state g conn).is_open → HasBankTables (state g conn).now.schema
