-- A bank is found over a connection, or why none is.
use Rattle.std.specs.Prelude.{◌⊎◌, List, ℤ, Option, Result, Ok, Err, IfErr, ⊤}
use Rattle.sqlite.specs.Effect.{Database}
use Rattle.sqlite.specs.State.{State, HasCleanDisk}
use Rattle.sqlite.specs.Held.{Held, state}
use Rattle.sqlite_trees.specs.declared.store.Store.{Ghosts}
use Rattle.posting_rules.specs.believed.Commands.{Command}
use Rattle.posting_rules.specs.believed.Counter.{ShowsLog, StandsAt}
use Rattle.posting_rules.specs.declared.fault.Rule.TheVariants.{Meta, Value}
use Rattle.sql_meanings.specs.believed.Entries.{Entry}
use Rattle.store_rows.specs.believed.Columns.{meta_in}
use Rattle.store_rows.specs.Definitions.{IsFirstOther}
use Rattle.store_rows.specs.Probes.{all_probes, all_tables, probe_of}
use Rattle.posting_rules.specs.declared.open_fault.BankTable.TheVariants as table
use Rattle.store_rows.specs.believed.BankTables as bank
use Rattle.store_rows.specs.believed.BankTables.{HasBankTables}
use Rattle.store_rows.specs.Statements.{HasOtherValue}
use Rattle.store_rows.specs.View.{HoldsRows}
use Rattle.store_rows.specs.declared.metas.TheConstants.{VERSION}
use Rattle.store_rows.specs.declared.metas.StoredMeta.{StoredMeta}
use Rattle.bank_store.specs.Connections.{conn_seen, IsAsBefore, IsReadOnly}
use Rattle.bank_store.specs.believed.Seen.{bank_seen, file_of}
use Rattle.bank_store.specs.declared.bank.Bank.{Bank}
use Rattle.bank_store.specs.MetaRow.{HasOnlyRow, IsNoCount, IsOfOtherType, IsOfVersion, IsOurs, LacksOnlyRow}
use Rattle.bank_store.specs.MetaRow.{TellsMeta}
use Rattle.bank_store.specs.OpenFaults.{RowIsUnread}
use Rattle.bank_store.specs.TablePresence.{IsPresent, IsReadable}
use Rattle.bank_store.specs.declared.presence.Presence.TheVariants.{Absent, Partial, Whole}
use Rattle.posting_rules.specs.declared.open_fault.OpenFault.{OpenFault}
use Rattle.posting_rules.specs.declared.open_fault.OpenFault.TheVariants.{Store, NotBlank, Blank, Foreign, Version}
use Rattle.posting_rules.specs.declared.open_fault.OpenFault.TheVariants.{Damaged, OtherTable}

-- whatever rows of `meta` the database holds, the row of the bank is so
abbrev pub RowIs : Database → (Option StoredMeta → Type 0) → Type 0
RowIs db P = (rows : List Entry) → HoldsRows db bank.meta rows → P (meta_in rows)

-- so it is in the database that is shown
abbrev pub MetaIs : State → (Option StoredMeta → Type 0) → Type 0
MetaIs s = RowIs s.now

-- What a reading of the row of the bank tells: which row it is, and otherwise why it isn't known.
pub record ReadsMeta {S : Type 0} (g : Ghosts S) (old new : Held S) (result : Result (Option StoredMeta) OpenFault)
    : Type 0 where
  pub answers : HasCleanDisk (state g new) → MetaIs (state g old) (λ stored. TellsMeta stored result)
  pub fault : IfErr result RowIsUnread
  pub other : HasCleanDisk (state g new) → IfErr result (IsOfOtherType (state g old).now)

-- its tables are there, defined as a bank's are made, the row of the bank is of our version and has a count within its
-- range, and everything is as it was
pub record TablesAreFound (old new : State) : Type 0 where
  pub tables : IsPresent old.now all_probes Whole
  pub made : HasBankTables old.now.schema
  pub meta : MetaIs old IsOurs
  pub same : IsAsBefore old new

-- the same, and that row is the only one of `meta`, whatever CHECK that has
pub record BankIsFound (old new : State) : Type 0 where
  pub there : TablesAreFound old new
  pub one : HasOnlyRow VERSION old.now

-- `meta` has no other version than ours
abbrev pub HasNoOtherVersion : State → Type 0
HasNoOtherVersion old = (n : ℤ) → MetaIs old (λ stored. IsOfVersion n stored → ⊥)

-- `meta` breaks its rule: the row of the bank is missing, or its count is outside its range; or it is ours, and not
-- the only row
abbrev pub BreaksMeta : State → Type 0
BreaksMeta old = MetaIs old IsNoCount ⊎ (MetaIs old IsOurs × LacksOnlyRow VERSION old.now)

-- why no bank is found: another version comes before missing tables
abbrev pub Misses : State → OpenFault → Type 0
Misses old Store = ⊤
Misses old NotBlank = ⊥
Misses old Blank = IsPresent old.now all_probes Absent
Misses old Foreign = IsPresent old.now all_probes Partial × HasNoOtherVersion old
Misses old (Version n) = IsReadable old.now (probe_of table.Meta) × MetaIs old (IsOfVersion n)
Misses old (OtherTable t) =
    IsPresent old.now all_probes Whole × IsFirstOther old.now.schema all_tables t × HasNoOtherVersion old
Misses old (Damaged Meta) = IsPresent old.now all_probes Whole × BreaksMeta old
Misses old (Damaged Value) = IsPresent old.now all_probes Whole × MetaIs old (λ _. ⊥) × HasOtherValue old.now
Misses old (Damaged _) = ⊥

-- What holds of a bank that is taken up over a connection: it is up, and shows what the connection showed, and
-- stands where that stood.
pub record IsTakenUp {S : Type 0} (g : Ghosts S) (conn : Held S) (bank : Bank S g) : Type 0 where
  pub found : HasCleanDisk (file_of bank) → BankIsFound (state g conn) (file_of bank)
  pub shows : (bank_seen g bank).honest → (log : List Command) → ShowsLog (conn_seen g conn) log
      → ShowsLog (bank_seen g bank) log
  pub stands : (bank_seen g bank).honest → (log : List Command) → StandsAt (conn_seen g conn) log
      → StandsAt (bank_seen g bank) log
  pub up : (bank_seen g bank).is_down → ⊥

-- its tables are found, or why there is no bank
abbrev pub SeeksTables : State → State → Result (Unit {0}) OpenFault → Type 0
SeeksTables old new (Ok done) = TablesAreFound old new
SeeksTables old new (Err fault) = Misses old fault × IsReadOnly {X = Unit {0}} old new (Err fault)

-- a bank is found, or why it isn't
abbrev pub SeeksBank : State → State → Result (Unit {0}) OpenFault → Type 0
SeeksBank old new (Ok done) = BankIsFound old new
SeeksBank old new (Err fault) = Misses old fault × IsReadOnly {X = Unit {0}} old new (Err fault)

-- `meta` has no other version; or it has, or the store failed
abbrev pub LooksAtVersion : State → State → Result (Unit {0}) OpenFault → Type 0
LooksAtVersion old new (Ok done) = HasNoOtherVersion old × IsAsBefore old new
LooksAtVersion old new (Err fault) = Misses old fault × IsReadOnly {X = Unit {0}} old new (Err fault)
