-- The digest of the numbers that were closed, and of the seal.
use Rattle.std.specs.Prelude.{◌≡◌, ◌++◌, ℕ, List, [], ◌∷◌, map}
use Rattle.std.specs.Fmt.{signed_decimal}
use Rattle.sqlite.specs.Effect.{Database}
use Rattle.sha2.specs.Sha256.{sha256}
use Rattle.posting_rules.specs.believed.Tables.{Tables}
use Rattle.sql_meanings.specs.believed.Entries.{Entry}
use Rattle.store_rows.specs.believed.BankTables.{closing}
use Rattle.store_rows.specs.believed.Columns.{number_at}
use Rattle.store_rows.specs.believed.View.{closing_entry}
use Rattle.walked_rows.specs.Rows.{HasStoredRows}
use Rattle.report_contents.specs.Lines.{text_of}

-- a row as a line: the last key, and the first
abbrev pub closing_line : Entry → List ℕ
closing_line e = signed_decimal e.key ++ (44 ∷ (signed_decimal (number_at 0 e) ++ (10 ∷ [])))

abbrev pub closing_lines : List Entry → List ℕ
closing_lines rows = text_of (map closing_line rows)

-- SHA-256 of the lines that the rows of a file are
abbrev pub IsClosingDigestIn : Database → List ℕ → Type 0
IsClosingDigestIn db sha = (rows : List Entry) → HasStoredRows db closing rows → sha ≡ sha256 (closing_lines rows)

-- the lines of a bank with these tables
abbrev pub closings_of : Tables → List ℕ
closings_of t = closing_lines (map closing_entry t.closings)
