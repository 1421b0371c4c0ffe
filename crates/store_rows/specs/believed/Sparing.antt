-- What the writes of a bank leave of the tables of other products, whatever file they run on.
use Rattle.std.specs.Prelude.{ℕ, List, ◌∷◌, map}
use Rattle.sqlite.specs.Effect.{Database}
use Rattle.sql_meanings.specs.believed.Sparing.{SparesAllBut, sequence_name}
use Rattle.store_rows.specs.believed.BankTables.{bank_tables}

-- the tables of a bank, and the one in which SQLite counts for AUTOINCREMENT
abbrev pub bank_names : List (List ℕ)
bank_names = sequence_name ∷ map (λ t. t.name) bank_tables

-- the tables of other products are as they were, unless a foreign key of their own acts
abbrev pub SparesOthers : Database → Database → Type 0
SparesOthers = SparesAllBut bank_names
