-- The tables of a bank, as `sqlite` understands them.
use Rattle.std.specs.Prelude.{List, [], ◌∷◌, codes, pos}
use Rattle.std.specs.List.{AllByRecursion}
use Rattle.sqlite.specs.Schema.{Schema}
use Rattle.sqlite.specs.Table.{Table}
use Rattle.sqlite.specs.Collation.TheVariants.{Binary}
use Rattle.sqlite.specs.Term.{lit, col, op2}
use Rattle.sqlite.specs.declared.types.Value.TheVariants.{Int}
use Rattle.sqlite_sql.specs.declared.ops.BinaryOp.TheVariants.{Compare}
use Rattle.sqlite_sql.specs.declared.ops.CompareOp.TheVariants.{Eq}
use Rattle.sqlite_value.specs.Keys.{plain}
use Rattle.sql_meanings.specs.believed.Plain.{plain_table, text_table}
use Rattle.sql_meanings.specs.believed.Tables.{Defines}

-- one row, since its key must be 1
abbrev pub meta : Table
meta = record (plain_table (codes "meta") (codes "id") (codes "version" ∷ codes "decided" ∷ [])) {
  checks = op2 (Compare Eq Binary) (col 1 0) (lit (Int (pos 1))) ∷ [];
}

-- the branches, by number
abbrev pub branch : Table
branch = plain_table (codes "branch") (codes "bid") (codes "accounts" ∷ codes "balance" ∷ [])

-- the tellers, by number
abbrev pub teller : Table
teller = plain_table (codes "teller") (codes "tid") (codes "balance" ∷ [])

-- the accounts, by number
abbrev pub account : Table
account = plain_table (codes "account") (codes "aid") (codes "balance" ∷ [])

-- the postings, by the ordinal of their request
abbrev pub history : Table
history = plain_table (codes "history") (codes "ordinal")
    (codes "aid" ∷ codes "tid" ∷ codes "bid" ∷ codes "delta" ∷ codes "moment" ∷ [])

-- no two rows have the same teller and number, which are places 2 and 3 of a stored row
abbrev pub request : Table
request = record (plain_table (codes "request") (codes "ordinal")
    (codes "tid" ∷ codes "number" ∷ codes "aid" ∷ codes "bid" ∷ codes "delta" ∷ codes "outcome"
    ∷ codes "balance" ∷ [])) {
      uniques = (2 ∷ 3 ∷ []) ∷ [];
      orders = plain ∷ [];
    }

-- the floors, by the number of their branch: the lowest balance that its accounts may have
abbrev pub floor : Table
floor = plain_table (codes "branch_floor") (codes "bid") (codes "lowest" ∷ [])

-- the references of the decided requests that have one, by ordinal
abbrev pub reference : Table
reference = text_table (codes "request_reference") (codes "ordinal") [] (codes "reference" ∷ [])

-- the numbers that closed books decided, by the key of the last: from which key on
abbrev pub closing : Table
closing = plain_table (codes "closing") (codes "last") (codes "first" ∷ [])

-- all of them; another table of the bank is one more here
abbrev pub bank_tables : List Table
bank_tables = meta ∷ branch ∷ teller ∷ account ∷ history ∷ request ∷ floor ∷ reference ∷ closing ∷ []

-- each of them is defined as its CREATE text makes it
abbrev pub HasBankTables : Schema → Type 0
HasBankTables schema = AllByRecursion (Defines schema) bank_tables
