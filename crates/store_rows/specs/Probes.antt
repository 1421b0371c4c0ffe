-- For each table of a bank the statement that reads all its columns: its probe.
use Rattle.std.specs.Prelude.{◌≡◌, ℕ, List, [], ◌∷◌, map, Err}
use Rattle.sqlite.specs.Listing.{understood}
use Rattle.sqlite.specs.Schema.{Schema}
use Rattle.sqlite.specs.Table.{Table}
use Rattle.sqlite_resolve.specs.declared.error.CompileError.{CompileError}
use Rattle.store_rows.specs.believed.BankTables as bank
use Rattle.posting_rules.specs.declared.open_fault.BankTable.{BankTable}
use Rattle.posting_rules.specs.declared.open_fault.BankTable.TheVariants.{Meta, Branch, Teller, Account, History}
use Rattle.posting_rules.specs.declared.open_fault.BankTable.TheVariants.{Request, Floor, Reference, Closing}
use Rattle.store_rows.specs.declared.texts.TheConstants as text

-- the probe of a table: its text, and the table
abbrev pub probe_of : BankTable → List ℕ × Table
probe_of Meta = (text.PROBE_META.now, bank.meta)
probe_of Branch = (text.PROBE_BRANCH.now, bank.branch)
probe_of Teller = (text.PROBE_TELLER.now, bank.teller)
probe_of Account = (text.PROBE_ACCOUNT.now, bank.account)
probe_of History = (text.PROBE_HISTORY.now, bank.history)
probe_of Request = (text.PROBE_REQUEST.now, bank.request)
probe_of Floor = (text.PROBE_FLOOR.now, bank.floor)
probe_of Reference = (text.PROBE_REFERENCE.now, bank.reference)
probe_of Closing = (text.PROBE_CLOSING.now, bank.closing)

-- the tables, in their order
abbrev pub all_tables : List BankTable
all_tables = Meta ∷ Branch ∷ Teller ∷ Account ∷ History ∷ Request ∷ Floor ∷ Reference ∷ Closing ∷ []

-- the probes of all of them
abbrev pub all_probes : List (List ℕ × Table)
all_probes = map probe_of all_tables

-- under the schema the text is no statement
abbrev pub IsNotUnderstood : Schema → List ℕ → Type 0
IsNotUnderstood schema text = (fault : CompileError) × (understood schema text ≡ Err fault)
