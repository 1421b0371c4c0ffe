-- The faults of a sheet and of replies: what stands in a faulty row, and the texts of all.
use Rattle.std.specs.Prelude.{ℕ, List, ◌++◌, codes, length, min, take}
use Rattle.std.specs.Fmt.{decimal}
use Rattle.message_records.specs.Faults.{fault_text}
use Rattle.message_records.specs.believed.Spelling.{filled}
use Rattle.message_records.specs.declared.limits.TheConstants.{REFERENCE_BYTES}
use Rattle.posting_sheets.specs.declared.fault.BadRow.{BadRow}
use Rattle.posting_sheets.specs.declared.fault.Column.{Column}
use Rattle.posting_sheets.specs.declared.fault.Column.TheVariants.{Columns, Account, Teller, Number, Delta}
use Rattle.posting_sheets.specs.declared.fault.Column.TheVariants.{Amount, Branch, Reference}
use Rattle.posting_sheets.specs.declared.fault.SheetFault.{SheetFault}
use Rattle.posting_sheets.specs.declared.fault.SheetFault.TheVariants as sheet
use Rattle.posting_sheets.specs.declared.fault.RepliesFault.{RepliesFault}
use Rattle.posting_sheets.specs.declared.fault.RepliesFault.TheVariants as replies
use Rattle.posting_sheets.specs.declared.field.FieldStart.{FieldStart}

-- how a field begins, and how many bytes it has
abbrev pub field_start : List ℕ → FieldStart
field_start text = record {
  bytes = filled REFERENCE_BYTES (take (min (length text) REFERENCE_BYTES) text);
  length = length text;
}

-- the field of this column is wrong
abbrev pub faulty_at : Column → List ℕ → BadRow
faulty_at column text = record { column = column; found = field_start text }

abbrev pub column_text : Column → List ℕ
column_text Columns = codes "columns"
column_text Account = codes "account"
column_text Teller = codes "teller"
column_text Number = codes "number"
column_text Delta = codes "delta"
column_text Amount = codes "amount"
column_text Branch = codes "branch"
column_text Reference = codes "reference"

abbrev pub sheet_text : SheetFault → List ℕ
sheet_text sheet.Header = codes "postings header"
sheet_text (sheet.Row row bad) = codes "postings row " ++ decimal row ++ codes " " ++ column_text bad.column
sheet_text sheet.Read = codes "read failed"
sheet_text sheet.Write = codes "write failed"
sheet_text sheet.Memory = codes "no memory"

abbrev pub replies_text : RepliesFault → List ℕ
replies_text (replies.Truncated n) = codes "the input ends " ++ decimal n ++ codes " bytes into a reply"
replies_text (replies.Reply place bad) = codes "reply " ++ decimal place ++ codes " " ++ fault_text bad
replies_text replies.Read = codes "read failed"
replies_text replies.Write = codes "write failed"
replies_text replies.Memory = codes "no memory"
replies_text replies.Sheet = codes "postings unreadable"
replies_text replies.Header = codes "postings header"
replies_text (replies.Row row bad) = codes "postings row " ++ decimal row ++ codes " " ++ column_text bad.column
replies_text (replies.OtherPosting row) = codes "row " ++ decimal row ++ codes " is another posting"
replies_text replies.MoreReplies = codes "more replies than rows"
