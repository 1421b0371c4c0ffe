-- What a call answers whatever rows a file holds, and what it ran whatever tables the file has.
use Rattle.std.specs.Prelude.{◌≡◌, ◌≢◌, ◌&&◌, ℕ, zero, suc, pos, find, nat_le, nat_lt, List, [], ◌∷◌, Option, Some, None, Ok, if◌then◌else◌}
use Rattle.std.specs.Ordering.{int_cmp, is_gt}
use Rattle.sqlite.specs.Effect.{Database}
use Rattle.sqlite.specs.Tree.{Trees}
use Rattle.message_records.specs.believed.Records.{RequestFields}
use Rattle.posting_rules.specs.believed.Changes.{tables_opened, tables_past_all}
use Rattle.posting_rules.specs.believed.Commands.{Terms}
use Rattle.posting_rules.specs.believed.Tables.{Tables, branch_key, row_at}
use Rattle.posting_rules.specs.declared.closed_numbers.Closing.{Closing, TheVariants.Already, TheVariants.Closed}
use Rattle.posting_rules.specs.declared.closed_numbers.Closing.{TheVariants.Overlaps}
use Rattle.posting_rules.specs.declared.counter.Opening.{Opening}
use Rattle.posting_rules.specs.declared.counter.Opening.TheVariants.{Opened}
use Rattle.posting_rules.specs.declared.rows.ClosingRow.{ClosingRow}
use Rattle.sql_meanings.specs.believed.Entries.{Entry}
use Rattle.store_rows.specs.believed.{Inserts.closing_insert, Made.Makes, Rules.OfRows, Rules.row_under}
use Rattle.store_rows.specs.believed.{Readings.read_closing, SeveralRows.given, Stored.FindsStored, View.closing_entry}
use Rattle.bank_transactions.specs.believed.Additions.{AddsBranch, AddsForRecords}
use Rattle.bank_transactions.specs.believed.Doing.{LeavesSo}
use Rattle.posting_rules.specs.believed.AnyTables.{HasRoomToOpen}
use Rattle.bank_transactions.specs.believed.Ran.{LeadTo, Runs}
use Rattle.bank_transactions.specs.believed.Stored.{OpensByStored, RepliesToAllStored, RepliesToStored}

-- The replies to records are those in tables that had what the rows hold. What was run is what the records may put in
-- or change, and all that they leave of those tables: a record that is told to be posted was written.
pub record AnswersAll (old new : Database) (moment : ℕ) (records replies : List (List ℕ)) : Type 0 where
  pub answers : RepliesToAllStored old new moment records replies
  pub wrote : Runs (AddsForRecords old records)
      (LeadTo answers.tables (tables_past_all answers.tables moment records)) old new

-- What a crash may leave of them is all of that: they are committed together.
abbrev pub KeepsWhole : Database → ℕ → List (List ℕ) → Trees → Type 0
KeepsWhole old moment records = LeavesSo (λ after. (replies : List (List ℕ)) × AnswersAll old after moment records replies)

-- the same of one, whose reply is that of the case which applies
pub record AnswersOne (old new : Database) (moment : ℕ) (bytes : List ℕ) (r : RequestFields) (reply : List ℕ)
    : Type 0 where
  pub answers : RepliesToStored old new r reply
  pub alone : AnswersAll old new moment (bytes ∷ []) (reply ∷ [])

-- Once a branch is `Opened`, what was run leads from whatever tables have room for it to those with it.
pub record OpensAll (old new : Database) (branch : ℕ) (terms : Terms) (opening : Opening) : Type 0 where
  pub answers : OpensByStored old new branch terms opening
  pub wrote : opening ≡ Opened → Runs (AddsBranch branch terms) (λ statements. (t : Tables)
      → HasRoomToOpen branch terms t × (row_at branch_key t.branches branch ≡ None)
      → LeadTo t (tables_opened t branch terms) statements) old new

-- what a crash may leave of an opening is all of that
abbrev pub KeepsOpening : Database → ℕ → Terms → Trees → Type 0
KeepsOpening old branch terms = LeavesSo (λ after. (opening : Opening) × OpensAll old after branch terms opening)

-- the row that may have one of the numbers from a first one on: the first that doesn't end before it, or the seal
abbrev pub met_in : List Entry → ℕ → Option Entry
met_in rows zero = row_under rows 0
met_in rows (suc n) = find (λ e. is_gt (int_cmp e.key (pos n))) rows

-- what a closing comes to, by that row: it has none of the numbers, or all of them, or some
abbrev pub closing_by : Option ClosingRow → ClosingRow → Closing
closing_by None row = Closed
closing_by (Some met) row =
    if nat_lt row.last met.first then Closed
    else if nat_le met.first row.first && nat_le row.last met.last then Already else Overlaps

-- The answer is that.
pub record AnswersClosing (db : Database) (row : ClosingRow) (closing : Closing) : Type 0 where
  pub met : Option ClosingRow
  pub stored : OfRows (λ rows. FindsStored (met_in rows.closings row.first) read_closing (Ok met)) db
  pub is : closing ≡ closing_by met row

-- Where the numbers are `Closed`, the statement that puts their row in was run, and nothing else; otherwise all is as it was.
pub record ClosesAll (old new : Database) (row : ClosingRow) (closing : Closing) : Type 0 where
  pub answers : AnswersClosing old row closing
  pub stays : closing ≢ Closed → new ≡ old
  pub wrote : closing ≡ Closed → Makes closing_insert (given (closing_entry row)) old new

-- what a crash may leave of a closing is all of that
abbrev pub KeepsClosing : Database → ClosingRow → Trees → Type 0
KeepsClosing old row = LeavesSo (λ after. (closing : Closing) × ClosesAll old after row closing)
