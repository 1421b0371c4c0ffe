-- The sheet of replies beside the sheet of the postings that they answer: each line has its row too.
use Rattle.std.specs.Prelude.{◌≡◌, ◌≤◌, ◌+◌, ⊤, ℕ, List, [], ◌∷◌, ◌++◌, length, slice_get, codes, All, IfSome, IsSomeAnd}
use Rattle.std.specs.Prelude.{Option, None, Some, Result, Err}
use Rattle.std.specs.Fmt.{decimal}
use Rattle.std.specs.Io.KnownBytes.{Appends, Consumes, IsAtEnd}
use Rattle.message_records.specs.believed.Records.{ReplyFields, RequestFields, unreferenced}
use Rattle.message_records.specs.Records.{IsReply}
use Rattle.message_records.specs.believed.Spelling.{reply_spelling}
use Rattle.message_records.specs.declared.limits.TheConstants.{REPLY_BYTES}
use Rattle.posting_core.specs.believed.EndCalls.{EndsWith, GrowsBy, IsEndOfInput, ReadCall}
use Rattle.posting_core.specs.EndCalls.{HasReadFailed, IsThrough, WriteCall}
use Rattle.posting_sheets.specs.Encoding.{IsPrefixOf}
use Rattle.posting_sheets.specs.References.{reference_field}
use Rattle.posting_sheets.specs.Replies.{IsDecodedSo, RepliesFaultIsOfItsEnd, replies_spelling, reply_text}
use Rattle.posting_sheets.specs.Sheets.{Sheet, sheet_of}
use Rattle.posting_sheets.specs.declared.line.PostingRow.{PostingRow}
use Rattle.posting_sheets.specs.declared.money.Money.{Money}
use Rattle.posting_sheets.specs.declared.money.Money.TheVariants.{Cents, Decimals}
use Rattle.posting_sheets.specs.declared.fault.SheetFault.TheVariants as sheets
use Rattle.posting_sheets.specs.declared.fault.RepliesFault.{RepliesFault}
use Rattle.posting_sheets.specs.declared.fault.RepliesFault.TheVariants as faults

-- ---- the sheet

abbrev pub rows_heading : Money → List ℕ
rows_heading Cents = codes "outcome,name,account,teller,branch,number,delta,balance,row,reference" ++ 10 ∷ []
rows_heading Decimals = codes "outcome,name,account,teller,branch,number,amount,balance,row,reference" ++ 10 ∷ []

-- the line of a reply with the row that it answers: the number of the row, and the reference of its posting
abbrev pub row_line : Money → PostingRow → ReplyFields → List ℕ
row_line money row r = reply_text money r ++ codes "," ++ decimal row.number ++ codes ","
    ++ reference_field row.reference ++ 10 ∷ []

-- the row of this number, which states this posting
abbrev pub row_of : ℕ → RequestFields → PostingRow
row_of number request = record { number = number; reference = request.reference }

-- the lines of replies, of which each answers the posting in its place; the rows count on from a number
abbrev pub row_lines : Money → ℕ → List ReplyFields → List RequestFields → List ℕ
row_lines money number [] requests = []
row_lines money number (r ∷ replies) [] = []
row_lines money number (r ∷ replies) (request ∷ requests) =
    row_line money (row_of number request) r ++ row_lines money (number + 1) replies requests

-- a header, and a line for each reply
abbrev pub rows_sheet : Money → List RequestFields → List ReplyFields → List ℕ
rows_sheet money requests replies = rows_heading money ++ row_lines money 1 replies requests

-- ---- which replies answer which postings

-- a reply to a posting: it shows its request without the reference, or no request
abbrev pub AnswersPosting : RequestFields → ReplyFields → Type 0
AnswersPosting request r = IfSome r.request (λ shown. shown ≡ unreferenced request)

-- each reply answers the posting in its place
abbrev pub AnswerPostings : List ReplyFields → List RequestFields → Type 0
AnswerPostings [] requests = ⊤
AnswerPostings (r ∷ replies) [] = ⊥
AnswerPostings (r ∷ replies) (request ∷ requests) = AnswersPosting request r × AnswerPostings replies requests

-- why a reply after so many has no row: the row in its place states none, or another one, or the sheet has no more
abbrev pub IsRowFault : Sheet → ℕ → ReplyFields → RepliesFault → Type 0
IsRowFault postings before r (faults.Row row bad) =
    (postings.fault ≡ Some (sheets.Row row bad)) × (length postings.requests ≡ before)
IsRowFault postings before r (faults.OtherPosting row) =
    (row ≡ before + 1) × IsSomeAnd (slice_get postings.requests before) (λ request. AnswersPosting request r → ⊥)
IsRowFault postings before r faults.MoreReplies =
    (postings.fault ≡ None) × (length postings.requests ≡ before)
IsRowFault postings before r _ = ⊥

-- ---- what becomes of replies

-- the bytes after the replies are those of one more, which has no row, and the sheet has the replies before it
pub record IsUnplaced (money : Money) (postings : Sheet) (replies : List ReplyFields) (rest : List ℕ)
    (fault : RepliesFault) (written : List ℕ) : Type 0 where
  pub reply : ReplyFields
  pub is_reply : IsReply reply
  pub spelled : rest ≡ reply_spelling reply
  pub unplaced : IsRowFault postings (length replies) reply fault
  pub wrote : written ≡ rows_sheet money postings.requests replies

-- These bytes were read after the replies, and this was written. Nothing was of either where the sheet of postings can't
-- be read or has no header. Where memory was refused, the bytes may be a reply whose row was being read.
abbrev pub IsDecodedBeside : Money → Sheet → List ReplyFields → List ℕ → Result ℕ RepliesFault → List ℕ → Type 0
IsDecodedBeside money postings replies rest (Err faults.Sheet) written =
    (replies ≡ []) × (rest ≡ []) × (written ≡ [])
IsDecodedBeside money postings replies rest (Err faults.Header) written =
    (postings.fault ≡ Some sheets.Header) × (replies ≡ []) × (rest ≡ []) × (written ≡ [])
IsDecodedBeside money postings replies rest (Err (faults.Row row bad)) written =
    IsUnplaced money postings replies rest (faults.Row row bad) written
IsDecodedBeside money postings replies rest (Err (faults.OtherPosting row)) written =
    IsUnplaced money postings replies rest (faults.OtherPosting row) written
IsDecodedBeside money postings replies rest (Err faults.MoreReplies) written =
    IsUnplaced money postings replies rest faults.MoreReplies written
IsDecodedBeside money postings replies rest (Err faults.Memory) written =
    (length rest ≤ REPLY_BYTES) × IsPrefixOf written (rows_sheet money postings.requests replies)
IsDecodedBeside money postings replies rest result written =
    IsDecodedSo (rows_sheet money postings.requests replies) replies rest result written

-- A sheet of postings was read, and replies to the first of them, and a sheet of these with their rows was written. The
-- known bytes of the sheet before and after are s and s', the reader's r and r', the writer's w and w'.
pub record DecodesBeside (money : Money) (s s' r r' w w' : Option (List ℕ))
    (result : Result ℕ RepliesFault) : Type 0 where
  pub text : List ℕ
  pub stated : Consumes s s' text
  pub replies : List ReplyFields
  pub are_replies : All IsReply replies
  pub answer : AnswerPostings replies (sheet_of text).requests
  pub rest : List ℕ
  pub read : Consumes r r' (replies_spelling replies ++ rest)
  pub written : List ℕ
  pub wrote : Appends w w' written
  pub decoded : IsDecodedBeside money (sheet_of text) replies rest result written

-- what was read of the replies, and flushed, where a text is the sheet of postings
abbrev pub RowsFaultIsOfItsEnd : Result ℕ RepliesFault → Option (List ℕ) → Option (List ReadCall)
    → Option (List ReadCall) → Option (List WriteCall) → Option (List WriteCall) → Type 0
RowsFaultIsOfItsEnd (Err faults.Header) r' q q' u u' = GrowsBy u u' []
RowsFaultIsOfItsEnd (Err faults.Memory) r' q q' u u' = IsThrough u u'
RowsFaultIsOfItsEnd result r' q q' u u' = RepliesFaultIsOfItsEnd result r' q q' u u'

-- The sheet of postings was read to its end, unless that failed or memory was refused, and the replies as far as their
-- faults say. What was written was flushed unless the writer failed. The calls of the sheet's source are known as p and
-- p', the replies' as q and q', the sink's as u and u'.
abbrev pub BesideFaultIsOfItsEnd : Result ℕ RepliesFault → Option (List ℕ) → Option (List ReadCall)
    → Option (List ReadCall) → Option (List ℕ) → Option (List ReadCall) → Option (List ReadCall)
    → Option (List WriteCall) → Option (List WriteCall) → Type 0
BesideFaultIsOfItsEnd (Err faults.Sheet) s' p p' r' q q' u u' = HasReadFailed p p' × GrowsBy u u' []
BesideFaultIsOfItsEnd (Err faults.Memory) s' p p' r' q q' u u' = IsThrough u u'
BesideFaultIsOfItsEnd result s' p p' r' q q' u u' =
    IsAtEnd s' × EndsWith IsEndOfInput p p' × RowsFaultIsOfItsEnd result r' q q' u u'
