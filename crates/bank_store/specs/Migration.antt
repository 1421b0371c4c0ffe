-- A bank of an earlier version is carried over to this version, or why none is.
use Rattle.std.specs.Prelude.{◌≡◌, ◌≢◌, ◌⊎◌, ◌+◌, ℕ, ℤ, pos, List, map, take, false, Option, Some, None}
use Rattle.std.specs.Prelude.{Result, Ok, Err, IfOk, IfErr, OnErr, OnOk, ⊤}
use Rattle.sqlite.specs.Effect.{Database, IsDatabase}
use Rattle.sqlite.specs.Held.{Held, state}
use Rattle.sqlite.specs.Schema.{Schema}
use Rattle.sqlite.specs.State.{State, HasCleanDisk}
use Rattle.sqlite.specs.Table.{Table}
use Rattle.sqlite.specs.Tree.{Trees}
use Rattle.sqlite.specs.declared.error.Error.{Error}
use Rattle.sqlite_trees.specs.declared.store.Store.{Ghosts}
use Rattle.posting_rules.specs.believed.Commands.{Command, AreCommands}
use Rattle.posting_rules.specs.believed.Counter.{LeavesOnly, ShowsLog, StandsAt}
use Rattle.posting_rules.specs.Editions.{plain}
use Rattle.posting_rules.specs.Editions.{AreTablesIn}
use Rattle.posting_rules.specs.believed.Tables.{Tables, AreTablesOf}
use Rattle.posting_rules.specs.declared.fault.Rule.TheVariants.{Meta, Value}
use Rattle.posting_rules.specs.declared.open_fault.OpenFault.{OpenFault}
use Rattle.posting_rules.specs.declared.open_fault.OpenFault.TheVariants.{Store, Foreign, Version, OtherTable, Damaged}
use Rattle.sql_meanings.specs.believed.Making.{Stands}
use Rattle.sql_meanings.specs.Making.{SparesStanding}
use Rattle.sql_meanings.specs.believed.Tables.{tree_of}
use Rattle.store_rows.specs.believed.BankTables.{HasBankTables, meta}
use Rattle.store_rows.specs.Definitions.{AreMade, IsFirstOther}
use Rattle.sql_meanings.specs.believed.Contents.{HoldsEach}
use Rattle.store_rows.specs.{Creation.no_rows, Lying.MetaLies, declared.metas.TheConstants.VERSION}
use Rattle.store_rows.specs.Migration.{IsEarlier, RefusesLacking, ShowsLess, TakesLacking, lacking}
use Rattle.store_rows.specs.Probes.{all_tables, probe_of}
use Rattle.store_rows.specs.Statements.{HasOtherValue}
use Rattle.store_rows.specs.believed.View.{Shows, ShowsAs, ShowsTrees}
use Rattle.store_rows.specs.declared.metas.StoredMeta.{StoredMeta}
use Rattle.bank_store.specs.Connections.{conn_seen, IsAsBefore, IsReadOnly, IsUndoneIfOpen}
use Rattle.bank_store.specs.FoundBank.{BankIsFound, IsTakenUp, Misses, RowIs}
use Rattle.bank_store.specs.MetaRow.{HasOnlyRow, IsOutside, IsWithin, LacksOnlyRow}
use Rattle.bank_store.specs.OpenFaults.{of_the_store}
use Rattle.bank_store.specs.believed.Seen.{bank_seen, file_of}
use Rattle.bank_store.specs.StoreFaults.{IsOpenCall}
use Rattle.bank_store.specs.TablePresence.{IsPresent, Lacks, OneOf}
use Rattle.bank_store.specs.declared.bank.Bank.{Bank}
use Rattle.bank_store.specs.declared.migration.Migrated.{Migrated}
use Rattle.bank_store.specs.declared.migration.Migrated.TheVariants.{Moved, Already}
use Rattle.bank_store.specs.declared.presence.Presence.TheVariants.{Whole}
use Rattle.bank_store.specs.declared.refused.Refused.{Refused}

-- ---- a file of an earlier version

-- it shows the log, as that version did
pub record ShowsEarlier (from : ℕ) (db : Database) (log : List Command) : Type 0 where
  pub earlier : IsEarlier from
  pub commands : AreCommands log
  pub tables : Tables
  pub are : ShowsAs from db tables
  pub shows : AreTablesIn from tables log

-- the same of bare trees
abbrev pub ShowsEarlierTrees : ℕ → Trees → List Command → Type 0
ShowsEarlierTrees from trees log =
    (schema : Schema) × ShowsEarlier from (record { schema = schema; trees = trees }) log

-- and so does everything that a crash may leave
pub record StandsEarlier (from : ℕ) (s : State) (log : List Command) : Type 0 where
  pub shows : ShowsEarlier from s.now log
  pub survives : (left : Trees) → s.may_leave left → ShowsEarlierTrees from left log

-- the probes of its tables
abbrev pub earlier_probes : ℕ → List (List ℕ × Table)
earlier_probes from = map probe_of (take (5 + from) all_tables)

-- `meta` has this version, which is an earlier one
abbrev pub IsOfEarlier : ℕ → State → Type 0
IsOfEarlier from old = IsEarlier from × Misses old (Version (pos from))

-- ---- the tables are changed

-- These tables are shown now, also by whatever a crash leaves, and every table but `meta` that has a tree of its
-- own is as it was.
pub record IsMoved (old : Database) (new : State) (t : Tables) : Type 0 where
  pub shows : Shows new.now t
  pub left : (left : Trees) → new.may_leave left → ShowsTrees left t
  pub spares : SparesStanding old new.now meta.name

-- Whatever rows the file holds: every table of it that has its tree to itself and no foreign key, but the one that
-- `meta` names, is there with the rows that it had.
abbrev pub KeepsRows : Database → Database → Type 0
KeepsRows old new = (t : Table) → Stands old.schema t → t.tree ≢ tree_of new.schema meta.name
    → Stands new.schema t × (new.trees t.tree ≡ old.trees t.tree)

-- The database is sound, and the tables of this version are there. Those that the version lacked have no rows, and the
-- row of the bank has this version, and the count that it had.
pub record IsComplete (from : ℕ) (old new : Database) : Type 0 where
  pub sound : ∥ IsDatabase new ∥₁
  pub tables : HasBankTables new.schema
  pub empty : HoldsEach new (map (λ it. it.1) (lacking from)) (no_rows (lacking from))
  pub meta : (row : StoredMeta) → MetaLies old (Some row) → MetaLies new (Some (record row { version = VERSION }))

-- so it is, whatever the rows, where the tables of that version were defined as a bank's are made
abbrev pub Completes : ℕ → Database → Database → Type 0
Completes from old new = AreMade old.schema (take (5 + from) all_tables) → IsComplete from old new

-- both, of bare trees
abbrev pub LeavesRows : ℕ → Database → Trees → Type 0
LeavesRows from old left = (after : Database) × (left ≡ after.trees) × KeepsRows old after × Completes from old after

-- a bank of that version is one of this version, with the same rows; and so are the tables of any file. The tables of
-- this version are there, where those of that version were.
abbrev pub BankIsMoved : ℕ → Database → State → Type 0
BankIsMoved from old new = ((t : Tables) → ShowsLess from old t → IsMoved old new t) × KeepsRows old new.now
    × Completes from old new.now

-- the same of what a crash may leave
abbrev pub HasMoved : ℕ → Database → Trees → Type 0
HasMoved from old left = ((t : Tables) → ShowsLess from old t → ShowsTrees left t) × LeavesRows from old left

-- Why the tables aren't changed: one that the version lacks is refused, by an error that isn't the store's own;
-- or `meta` lacks its row; or the store failed.
abbrev pub IsUnmoved : ℕ → Database → OpenFault → Type 0
IsUnmoved from old Store = ⊤
IsUnmoved from old Foreign = (e : Error) × (of_the_store e ≡ false) × RefusesLacking from old.schema e
IsUnmoved from old (Damaged Meta) = RowIs old (λ stored. stored ≡ None)
IsUnmoved from old _ = ⊥

-- inside a transaction
abbrev pub ChangesTables : ℕ → Database → Database → Result (Unit {0}) OpenFault → Type 0
ChangesTables from old new (Ok done) =
    ((t : Tables) → ShowsLess from old t → Shows new t × SparesStanding old new meta.name) × KeepsRows old new
    × Completes from old new
ChangesTables from old new (Err fault) = IsUnmoved from old fault

-- What a call that changes the tables comes to: a bank is moved, or, as long as the store is open, nothing has
-- changed. A crash leaves what it could leave before, or the moved bank.
pub record MovesBank {S : Type 0} (from : ℕ) (g : Ghosts S) (old new : Held S)
    (result : Result (Unit {0}) OpenFault) : Type 0 where
  pub moved : HasCleanDisk (state g new) → OnOk result (BankIsMoved from (state g old).now (state g new))
  pub undone : HasCleanDisk (state g new) → OnErr result (IsUndoneIfOpen (state g old) (state g new))
  pub why : HasCleanDisk (state g new) → IfErr result (IsUnmoved from (state g old).now)
  pub call : IsOpenCall g old new (HasMoved from (state g old).now) result

-- ---- a bank is looked for, and carried over

-- the row is there, and its count is within its range
abbrev pub IsCounted : Option StoredMeta → Type 0
IsCounted stored = (m : StoredMeta) × (stored ≡ Some m) × IsWithin m.decided

-- a file with that version has its tables, defined as a bank's are made, and the row of the bank has a count within
-- its range
pub record HasEarlierTables (from : ℕ) (db : Database) : Type 0 where
  pub tables : IsPresent db (earlier_probes from) Whole
  pub made : AreMade db.schema (take (5 + from) all_tables)
  pub meta : RowIs db IsCounted

-- it has a bank of it: the same, and that row is the only one of `meta`, whatever CHECK that has
pub record HasEarlier (from : ℕ) (db : Database) : Type 0 where
  pub there : HasEarlierTables from db
  pub one : HasOnlyRow (pos from) db

-- the row is missing, or its count is outside its range
abbrev pub IsUncounted : Option StoredMeta → Type 0
IsUncounted stored = (stored ≡ None) ⊎ ((m : StoredMeta) × (stored ≡ Some m) × IsOutside m.decided)

-- why a file with that version has no bank of it
abbrev pub MissesEarlier : ℕ → Database → OpenFault → Type 0
MissesEarlier from old Store = ⊤
MissesEarlier from old Foreign = OneOf (earlier_probes from) (Lacks old)
MissesEarlier from old (OtherTable t) =
    IsPresent old (earlier_probes from) Whole × IsFirstOther old.schema (take (5 + from) all_tables) t
MissesEarlier from old (Damaged Meta) =
    IsPresent old (earlier_probes from) Whole × (RowIs old IsUncounted ⊎ LacksOnlyRow (pos from) old)
MissesEarlier from old (Damaged Value) =
    IsPresent old (earlier_probes from) Whole × RowIs old (λ _. ⊥) × HasOtherValue old
MissesEarlier from old _ = ⊥

-- it has its tables, and everything is as it was; or why it has no bank
abbrev pub SeeksEarlier : ℕ → State → State → Result (Unit {0}) OpenFault → Type 0
SeeksEarlier from old new (Ok done) = HasEarlierTables from old.now × IsAsBefore old new
SeeksEarlier from old new (Err fault) =
    MissesEarlier from old.now fault × IsReadOnly {X = Unit {0}} old new (Err fault)

-- it had one, which is moved; or why not
abbrev pub MovesFound : ℕ → State → State → Result (Unit {0}) OpenFault → Type 0
MovesFound from old new (Ok done) = HasEarlier from old.now × BankIsMoved from old.now new
MovesFound from old new (Err fault) = (MissesEarlier from old.now fault ⊎ IsUnmoved from old.now fault)
    × IsReadOnly {X = Unit {0}} old new (Err fault)

-- a fault that tells no earlier version
abbrev pub TellsNoEarlier : OpenFault → Type 0
TellsNoEarlier fault = (from : ℕ) → IsEarlier from → fault ≢ Version (pos from)

-- Why no bank is carried over. Without an earlier version, as for one that is taken up; with one, since there is
-- no bank of it, or since its tables can't be changed.
abbrev pub Misplaces : State → OpenFault → Type 0
Misplaces old fault = (Misses old fault × TellsNoEarlier fault)
    ⊎ ((from : ℕ) × IsOfEarlier from old × (MissesEarlier from old.now fault ⊎ IsUnmoved from old.now fault))

-- this earlier version is the one that is told
abbrev pub IsFrom : ℤ → ℕ → Type 0
IsFrom version from = (version ≡ pos from) × IsEarlier from

-- the bank was of this version, and everything is as it was; or it was of an earlier one, and is moved; or why
-- neither
abbrev pub Migrates : State → State → Result Migrated OpenFault → Type 0
Migrates old new (Ok Already) = BankIsFound old new
Migrates old new (Ok (Moved version)) = (from : ℕ) → IsFrom version from
    → IsOfEarlier from old × HasEarlier from old.now × BankIsMoved from old.now new
Migrates old new (Err fault) = Misplaces old fault × IsReadOnly {X = Unit {0}} old new (Err fault)

-- a bank is moved from an earlier version
abbrev pub IsFromEarlier : Migrated → Type 0
IsFromEarlier Already = ⊤
IsFromEarlier (Moved version) = (from : ℕ) × IsFrom version from

-- what a crash may leave more: a moved bank, where one of an earlier version was
abbrev pub HasCarriedOver : State → Trees → Type 0
HasCarriedOver old left = (from : ℕ) × IsOfEarlier from old × HasMoved from old.now left

-- ---- what the caller gets

-- what the connection shows that is given back, in a bank or alone
abbrev pub state_of : {S : Type 0} (g : Ghosts S) → Result (Bank S g × Migrated) (Refused S) → State
state_of g (Ok done) = file_of done.0
state_of g (Err refused) = state g refused.conn

-- What holds of a bank that was carried over: its file had a bank of that version, all of whose rows it has, and
-- it stands at the plain log of whatever log that showed. It is up.
pub record IsCarriedOver {S : Type 0} (from : ℕ) (g : Ghosts S) (conn : Held S) (bank : Bank S g) : Type 0 where
  pub was : HasCleanDisk (file_of bank) → IsOfEarlier from (state g conn) × HasEarlier from (state g conn).now
  pub moved : HasCleanDisk (file_of bank) → BankIsMoved from (state g conn).now (file_of bank)
  pub stands : (bank_seen g bank).honest → (log : List Command) → ShowsEarlier from (state g conn).now log
      → StandsAt (bank_seen g bank) (plain from log)
  pub up : (bank_seen g bank).is_down → ⊥

-- it was carried over from this earlier version, or was of the present one and is taken up
abbrev pub IsMigrated : {S : Type 0} (g : Ghosts S) → Held S → Bank S g × Migrated → Type 0
IsMigrated g conn (bank, Moved version) = (from : ℕ) × IsFrom version from × IsCarriedOver from g conn bank
IsMigrated g conn (bank, Already) = IsTakenUp g conn bank

-- What is answered where a log is shown, but for a fault of the store: of this version, that nothing was done; of
-- an earlier one, where nothing else has the name of a table that it lacks, that it was moved.
pub record KnowsAnswer {S : Type 0} (g : Ghosts S) (conn : Held S)
    (result : Result (Bank S g × Migrated) (Refused S)) : Type 0 where
  pub ours : HasCleanDisk (state_of g result) → (log : List Command) → ShowsLog (conn_seen g conn) log
      → IfOk result (λ done. done.1 ≡ Already) × IfErr result (λ refused. refused.fault ≡ Store)
  pub earlier : HasCleanDisk (state_of g result) → (from : ℕ) (log : List Command)
      → ShowsEarlier from (state g conn).now log → TakesLacking from (state g conn).now.schema
      → IfOk result (λ done. done.1 ≡ Moved (pos from)) × IfErr result (λ refused. refused.fault ≡ Store)

-- What a refusal leaves where the connection stood at a log: of this version, that log; of an earlier one, the log
-- as that version, or its plain log as this one.
pub record LeavesBank {S : Type 0} (g : Ghosts S) (conn : Held S) (refused : Refused S) : Type 0 where
  pub ours : HasCleanDisk (state g refused.conn) → (log : List Command) → StandsAt (conn_seen g conn) log
      → LeavesOnly (conn_seen g refused.conn) (λ t. AreTablesOf t log)
  pub earlier : HasCleanDisk (state g refused.conn) → (from : ℕ) (log : List Command)
      → StandsEarlier from (state g conn) log → (left : Trees) → (state g refused.conn).may_leave left
      → ShowsEarlierTrees from left log ⊎ ((t : Tables) × ShowsTrees left t × AreTablesOf t (plain from log))
