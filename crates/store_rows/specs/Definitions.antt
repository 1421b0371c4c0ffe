-- Whether a schema has the tables of a bank as the CREATE texts make them.
use Rattle.std.specs.Prelude.{◌≡◌, ◌⊎◌, ◌∷◌, List, [], map, pos, true, Option, Some, None}
use Rattle.std.specs.List.{AllByRecursion}
use Rattle.sqlite.specs.Schema.{Schema}
use Rattle.sqlite.specs.Table.{Table}
use Rattle.sqlite.specs.Collation.TheVariants.{Binary}
use Rattle.sqlite.specs.Term.{Term, lit, col, op2}
use Rattle.sqlite.specs.declared.types.Value.TheVariants.{Int}
use Rattle.sqlite_sql.specs.declared.ops.BinaryOp.TheVariants.{Compare}
use Rattle.sqlite_sql.specs.declared.ops.CompareOp.TheVariants.{Eq}
use Rattle.sqlite_schema.specs.declared.schema.Column.{Column}
use Rattle.sql_meanings.specs.believed.Plain.{key_column, strict_column}
use Rattle.sql_meanings.specs.believed.Tables.{Defines}
use Rattle.store_rows.specs.Probes.{probe_of}
use Rattle.store_rows.specs.declared.definitions.Made.{Made}
use Rattle.posting_rules.specs.declared.open_fault.BankTable.{BankTable}

-- the table that its text makes
abbrev pub made : BankTable → Table
made table = (probe_of table).1

-- each of these tables is defined as its text makes it
abbrev pub AreMade : Schema → List BankTable → Type 0
AreMade schema = AllByRecursion (λ t. Defines schema (made t))

-- this is the first of these tables that the schema has otherwise
abbrev pub IsFirstOther : Schema → List BankTable → BankTable → Type 0
IsFirstOther schema [] found = ⊥
IsFirstOther schema (t ∷ ts) found =
    ((found ≡ t) × ¬ Defines schema (made t)) ⊎ (Defines schema (made t) × IsFirstOther schema ts found)

-- which it is, if there is one
abbrev pub TellsOther : Schema → List BankTable → Option BankTable → Type 0
TellsOther schema tables None = AreMade schema tables
TellsOther schema tables (Some found) = IsFirstOther schema tables found

-- the CHECK of `meta`
abbrev pub key_is_one : Term
key_is_one = op2 (Compare Eq Binary) (col 1 0) (lit (Int (pos 1)))

-- the columns that a text makes: a key, and others that are NOT NULL
abbrev pub columns_of : Made → List Column
columns_of m = key_column m.key.now ∷ map (λ name. strict_column m.kind true name.now) m.others.now
