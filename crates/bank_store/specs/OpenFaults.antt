-- Which fault is answered for which error, as a bank is made or looked for.
use Rattle.std.specs.Prelude.{◌≡◌, ◌⊎◌, if◌then◌else◌, Bool, true, false}
use Rattle.sqlite.specs.declared.error.Error.{Error}
use Rattle.sqlite.specs.declared.error.Error.TheVariants.{SqliteFailure}
use Rattle.sqlite.specs.declared.error.ErrorCode.TheVariants as code
use Rattle.posting_rules.specs.declared.fault.Rule.TheVariants.{Value}
use Rattle.store_rows.specs.declared.fault.TableFault.{TableFault}
use Rattle.store_rows.specs.declared.fault.TableFault.TheVariants.{Sqlite, Damaged as Broken}
use Rattle.posting_rules.specs.declared.open_fault.OpenFault.{OpenFault}
use Rattle.posting_rules.specs.declared.open_fault.OpenFault.TheVariants.{Store, NotBlank, Foreign, Damaged}

-- the error is the store's own: for memory, the disk, a size or the limit on steps
abbrev pub of_the_store : Error → Bool
of_the_store (SqliteFailure code.OutOfMemory) = true
of_the_store (SqliteFailure code.SystemIoFailure) = true
of_the_store (SqliteFailure code.DatabaseCorrupt) = true
of_the_store (SqliteFailure code.DiskFull) = true
of_the_store (SqliteFailure code.TooBig) = true
of_the_store (SqliteFailure code.SchemaTooBig) = true
of_the_store (SqliteFailure code.Closed) = true
of_the_store (SqliteFailure code.OperationInterrupted) = true
of_the_store _ = false

-- what an error says that came while the tables were made
abbrev pub unmade_by : Error → OpenFault
unmade_by e = if of_the_store e then Store else NotBlank

-- what an error says that came while a table was made that an earlier version lacks
abbrev pub unmoved_by : Error → OpenFault
unmoved_by e = if of_the_store e then Store else Foreign

-- why a bank isn't made
abbrev pub IsUnmade : OpenFault → Type 0
IsUnmade fault = (fault ≡ Store) ⊎ (fault ≡ NotBlank)

-- what an error says that came while the row was read
abbrev pub unread_by : TableFault → OpenFault
unread_by (Broken rule) = Damaged Value
unread_by (Sqlite e) = Store

-- why the row isn't known
abbrev pub RowIsUnread : OpenFault → Type 0
RowIsUnread fault = (fault ≡ Store) ⊎ (fault ≡ Damaged Value)
