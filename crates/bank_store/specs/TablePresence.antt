-- How many of a bank's tables are there.
use Rattle.std.specs.Prelude.{ℕ, Bool, true, false, List, Result, Ok, Err}
use Rattle.std.specs.List.{AllByRecursion}
use Rattle.sqlite.specs.Schema.{Schema}
use Rattle.sqlite.specs.Table.{Table}
use Rattle.sqlite.specs.Effect.{Database, IsDatabase}
use Rattle.sqlite.specs.State.{State}
use Rattle.sqlite_rules.specs.Lists.{Has}
use Rattle.sql_meanings.specs.StatementAnswers.{IsThere, IsUnderstood}
use Rattle.sql_meanings.specs.believed.Tables.{Defines}
use Rattle.posting_rules.specs.declared.open_fault.BankTable.{BankTable}
use Rattle.posting_rules.specs.declared.open_fault.OpenFault.{OpenFault}
use Rattle.posting_rules.specs.declared.open_fault.OpenFault.TheVariants.{OtherTable}
use Rattle.store_rows.specs.Definitions.{AreMade, IsFirstOther}
use Rattle.store_rows.specs.Probes.{IsNotUnderstood}
use Rattle.bank_store.specs.Connections.{IsAsBefore, IsUndoneIfOpen}
use Rattle.bank_store.specs.declared.presence.Presence.{Presence}
use Rattle.bank_store.specs.declared.presence.Presence.TheVariants.{Absent, Partial, Whole}

-- the table can be read: its probe is understood, and a table or a view has its name
abbrev pub IsReadable : Database → List ℕ × Table → Type 0
IsReadable db probe = IsUnderstood db.schema probe.0 × IsThere db.schema probe.1.name

-- it can't: its probe isn't understood, and a sound database doesn't define this table
abbrev pub Lacks : Database → List ℕ × Table → Type 0
Lacks db probe = IsNotUnderstood db.schema probe.0 × (∥ IsDatabase db ∥₁ → ¬ Defines db.schema probe.1)

-- one of the tables is so
abbrev pub OneOf : List (List ℕ × Table) → (List ℕ × Table → Type 0) → Type 0
OneOf probes P = (probe : List ℕ × Table) × Has probes probe × P probe

-- how many of these tables are there
abbrev pub IsPresent : Database → List (List ℕ × Table) → Presence → Type 0
IsPresent db probes Absent = AllByRecursion (Lacks db) probes
IsPresent db probes Partial = OneOf probes (IsReadable db) × OneOf probes (Lacks db)
IsPresent db probes Whole = AllByRecursion (IsReadable db) probes

-- each of these tables is defined as a bank's is made; or this is the first that isn't
abbrev pub ChecksTables : Schema → List BankTable → Result (Unit {0}) OpenFault → Type 0
ChecksTables schema tables (Ok done) = AreMade schema tables
ChecksTables schema tables (Err (OtherTable found)) = IsFirstOther schema tables found
ChecksTables schema tables (Err _) = ⊥

-- one table is there, or it isn't
abbrev pub presence_of : Bool → Presence
presence_of true = Whole
presence_of false = Absent

-- how many there are of all, by how many there are of each part
abbrev pub joined : Presence → Presence → Presence
joined Absent Absent = Absent
joined Absent Partial = Partial
joined Absent Whole = Partial
joined Partial _ = Partial
joined Whole Absent = Partial
joined Whole Partial = Partial
joined Whole Whole = Whole

-- how many there are, and everything is as it was; or the store failed
abbrev pub TellsPresence : {E : Type 0} → State → State → List (List ℕ × Table) → Result Presence E → Type 0
TellsPresence old new probes (Ok presence) = IsPresent old.now probes presence × IsAsBefore old new
TellsPresence old new probes (Err e) = IsUndoneIfOpen old new
