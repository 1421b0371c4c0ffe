-- The walk over replies, beside the rows of a sheet of postings or without one.
use Rattle.std.specs.Prelude.{◌≡◌, ◌≤◌, ◌+◌, ⊤, ℕ, Bool, true, false, List, ◌++◌, length, slice_get, take, All}
use Rattle.std.specs.Prelude.{Option, None, Some, Result, Ok, Err}
use Rattle.std.specs.Io.KnownBytes.{Appends, Consumes, Keeps}
use Rattle.message_records.specs.Reading.{reply_of}
use Rattle.message_records.specs.believed.Records.{ReplyFields, RequestFields}
use Rattle.message_records.specs.Records.{IsReply}
use Rattle.message_records.specs.believed.Spelling.{reply_spelling}
use Rattle.posting_core.specs.believed.EndCalls.{EndsWith}
use Rattle.posting_core.specs.EndCalls.{HasWriteFailed, IsFlush, WriteCall}
use Rattle.branch_loader.specs.Records.{Records}
use Rattle.posting_sheets.specs.Beside.{AnswerPostings, AnswersPosting, IsDecodedBeside, IsRowFault, row_line, row_of}
use Rattle.posting_sheets.specs.Beside.{rows_heading, rows_sheet}
use Rattle.posting_sheets.specs.Replies.{IsDecodedSo, heading, replies_sheet, replies_spelling, reply_line}
use Rattle.posting_sheets.specs.Sheets.{Sheet, sheet_by}
use Rattle.posting_sheets.specs.declared.line.PostingRow.{PostingRow}
use Rattle.posting_sheets.specs.declared.money.Money.{Money}
use Rattle.posting_sheets.specs.declared.rows.Rows.{Rows}
use Rattle.posting_sheets.specs.declared.fault.SheetFault.TheVariants as sheets
use Rattle.posting_sheets.specs.declared.fault.RepliesFault.{RepliesFault}
use Rattle.posting_sheets.specs.declared.fault.RepliesFault.TheVariants as faults

-- ---- rows

-- so many rows of a sheet were read, and these records are left of it
pub record IsAfter {S : Type 0} (left : S → Records → Type 0) (rows : Rows S) (postings : Sheet)
    (before : ℕ) : Type 0 where
  pub requests : List RequestFields
  pub rest : Records
  pub there : left rows.source rest
  pub states : postings ≡ sheet_by rows.form requests rest
  pub long : length requests ≡ before

-- why the header wasn't read
abbrev pub IsNotBegun : Sheet → RepliesFault → Type 0
IsNotBegun postings faults.Header = postings.fault ≡ Some sheets.Header
IsNotBegun postings faults.Memory = ⊤
IsNotBegun postings _ = ⊥

-- the header was read
abbrev pub IsBegunSo : {S : Type 0} → (S → Records → Type 0) → Sheet → Result (Rows S) RepliesFault → Type 0
IsBegunSo left postings (Ok rows) = IsAfter left rows postings 0
IsBegunSo left postings (Err fault) = IsNotBegun postings fault

-- the row after so many was read
abbrev pub IsNextSo : {S : Type 0} → (S → Records → Type 0) → Sheet → ℕ → Rows S
    → Result (Option RequestFields) RepliesFault → Type 0
IsNextSo left postings before rows (Ok (Some request)) =
    (slice_get postings.requests before ≡ Some request) × IsAfter left rows postings (before + 1)
IsNextSo left postings before rows (Ok None) = (postings.fault ≡ None) × (length postings.requests ≡ before)
IsNextSo left postings before rows (Err (faults.Row row bad)) =
    (postings.fault ≡ Some (sheets.Row row bad)) × (length postings.requests ≡ before)
IsNextSo left postings before rows (Err faults.Memory) = ⊤
IsNextSo left postings before rows (Err _) = ⊥

-- a reply after so many answers this row
abbrev pub IsRowAt : Sheet → ℕ → ReplyFields → PostingRow → Type 0
IsRowAt postings before r row = (request : RequestFields) × (slice_get postings.requests before ≡ Some request)
    × AnswersPosting request r × (row ≡ row_of (before + 1) request)

-- or why there is none
abbrev pub IsNoRow : Sheet → ℕ → ReplyFields → RepliesFault → Type 0
IsNoRow postings before r faults.Memory = ⊤
IsNoRow postings before r fault = IsRowFault postings before r fault

abbrev pub IsTakenSo : {S : Type 0} → (S → Records → Type 0) → Sheet → ℕ → ReplyFields → Rows S
    → Result PostingRow RepliesFault → Type 0
IsTakenSo left postings before r rows (Ok row) =
    IsRowAt postings before r row × IsAfter left rows postings (before + 1)
IsTakenSo left postings before r rows (Err fault) = IsNoRow postings before r fault

-- ---- rows, or none

-- there is a sheet beside the replies, of which so many rows were read, or there is none
abbrev pub AreAfter : {S : Type 0} → (S → Records → Type 0) → Option (Rows S) → Option Sheet → ℕ → Type 0
AreAfter left None None before = ⊤
AreAfter left None (Some postings) before = ⊥
AreAfter left (Some rows) None before = ⊥
AreAfter left (Some rows) (Some postings) before = IsAfter left rows postings before

abbrev pub IsRowIn : Option Sheet → ℕ → ReplyFields → Option PostingRow → Type 0
IsRowIn None before r row = row ≡ None
IsRowIn (Some postings) before r None = ⊥
IsRowIn (Some postings) before r (Some row) = IsRowAt postings before r row

abbrev pub IsNoRowIn : Option Sheet → ℕ → ReplyFields → RepliesFault → Type 0
IsNoRowIn None before r fault = ⊥
IsNoRowIn (Some postings) before r fault = IsNoRow postings before r fault

abbrev pub IsFoundSo : {S : Type 0} → (S → Records → Type 0) → Option Sheet → ℕ → ReplyFields → Option (Rows S)
    → Result (Option PostingRow) RepliesFault → Type 0
IsFoundSo left beside before r rows (Ok row) = IsRowIn beside before r row × AreAfter left rows beside (before + 1)
IsFoundSo left beside before r rows (Err fault) = IsNoRowIn beside before r fault

-- ---- lines

-- the line of a reply, with the row that it answers where there is one
abbrev pub line_with : Money → Option PostingRow → ReplyFields → List ℕ
line_with money None r = reply_line money r
line_with money (Some row) r = row_line money row r

-- what was written of bytes, after so many replies: the line of the reply that they are, or a prefix of it, or
-- nothing where they are none or have no row
abbrev pub IsLineSo : Money → Option Sheet → List ℕ → ℕ → (w w' : Option (List ℕ)) → Result (Unit {0}) RepliesFault
    → Type 0
IsLineSo money beside bytes before w w' (Ok done) =
    (r : ReplyFields) × IsReply r × (bytes ≡ reply_spelling r)
    × (row : Option PostingRow) × IsRowIn beside before r row × Appends w w' (line_with money row r)
IsLineSo money beside bytes before w w' (Err (faults.Reply place bad)) =
    (reply_of bytes ≡ Err bad) × (place ≡ before + 1) × Keeps w w'
IsLineSo money beside bytes before w w' (Err faults.Write) =
    (r : ReplyFields) × IsReply r × (bytes ≡ reply_spelling r)
    × (row : Option PostingRow) × IsRowIn beside before r row
    × (n : ℕ) × (n ≤ length (line_with money row r)) × Appends w w' (take n (line_with money row r))
IsLineSo money beside bytes before w w' (Err faults.Memory) =
    (r : ReplyFields) × IsReply r × (bytes ≡ reply_spelling r) × Keeps w w'
IsLineSo money beside bytes before w w' (Err fault) =
    (r : ReplyFields) × IsReply r × (bytes ≡ reply_spelling r) × IsNoRowIn beside before r fault × Keeps w w'

-- what the sink's calls returned then
abbrev pub IsLineTold : (u u' : Option (List WriteCall)) → Result (Unit {0}) RepliesFault → Type 0
IsLineTold u u' (Ok done) = EndsWith IsFlush u u'
IsLineTold u u' (Err faults.Write) = HasWriteFailed u u'
IsLineTold u u' (Err fault) = u' ≡ u

-- ---- the walk

abbrev pub heading_with : Bool → Money → List ℕ
heading_with false money = heading money
heading_with true money = rows_heading money

abbrev pub sheet_in : Money → Option Sheet → List ReplyFields → List ℕ
sheet_in money None replies = replies_sheet money replies
sheet_in money (Some postings) replies = rows_sheet money postings.requests replies

abbrev pub AnswerIn : Option Sheet → List ReplyFields → Type 0
AnswerIn None replies = ⊤
AnswerIn (Some postings) replies = AnswerPostings replies postings.requests

abbrev pub IsDecodedIn : Money → Option Sheet → List ReplyFields → List ℕ → Result ℕ RepliesFault → List ℕ → Type 0
IsDecodedIn money None replies rest result written =
    IsDecodedSo (replies_sheet money replies) replies rest result written
IsDecodedIn money (Some postings) replies rest result written =
    IsDecodedBeside money postings replies rest result written

-- replies were read, and a sheet of them was written
pub record DecodesIn (money : Money) (beside : Option Sheet) (r r' w w' : Option (List ℕ))
    (result : Result ℕ RepliesFault) : Type 0 where
  pub replies : List ReplyFields
  pub are_replies : All IsReply replies
  pub answer : AnswerIn beside replies
  pub rest : List ℕ
  pub read : Consumes r r' (replies_spelling replies ++ rest)
  pub written : List ℕ
  pub wrote : Appends w w' written
  pub decoded : IsDecodedIn money beside replies rest result written
