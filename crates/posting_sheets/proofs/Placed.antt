-- Replies and the rows in their places.
use Rattle.std.proofs.Common.{◌≡◌, ◌+◌, ◌∷◌, ◌++◌, ◌∙◌, ℕ, List, [], length, Option, Some, None, sym, ap}
use Rattle.std.proofs.Common.{append-nil, append_assoc, arith}
use Rattle.std.specs.Prelude.{is_some, slice_get}
use Rattle.std.specs.{List.flat_map}
use Rattle.std.proofs.lemmas.List.{Concat.flat_map-append}
use Rattle.branch_loader.specs.Records.{Records}
use Rattle.message_records.specs.believed.Records.{ReplyFields, RequestFields}
use Rattle.posting_sheets.specs.Beside.{AnswerPostings, AnswersPosting, row_lines, row_of, rows_heading}
use Rattle.posting_sheets.specs.Replies.{heading, reply_line}
use Rattle.posting_sheets.specs.Sheets.{Sheet}
use Rattle.posting_sheets.specs.Walking.{AnswerIn, AreAfter, IsRowIn, heading_with, line_with, sheet_in}
use Rattle.posting_sheets.specs.declared.line.PostingRow.{PostingRow}
use Rattle.posting_sheets.specs.declared.money.Money.{Money}
use Rattle.posting_sheets.specs.declared.rows.Rows.{Rows}

-- ---- no reply yet

pub answer-first : (beside : Option Sheet) → AnswerIn beside []
answer-first None = tt
answer-first (Some postings) = tt

pub sheet-first : {S : Type 0} (left : S → Records → Type 0) (rows : Option (Rows S)) (beside : Option Sheet)
    (money : Money) → AreAfter left rows beside 0 → sheet_in money beside [] ≡ heading_with (is_some rows) money
sheet-first left None None money at = append-nil (heading money)
sheet-first left None (Some postings) money at = absurd at
sheet-first left (Some rows) None money at = absurd at
sheet-first left (Some rows) (Some postings) money at = append-nil (rows_heading money)

-- ---- one reply more

-- it answers the posting in its place
answer-more : (replies : List ReplyFields) (requests : List RequestFields) (r : ReplyFields) (request : RequestFields)
    → AnswerPostings replies requests → slice_get requests (length replies) ≡ Some request → AnswersPosting request r
    → AnswerPostings (replies ++ r ∷ []) requests
answer-more [] [] r request a at answers = cc at
answer-more [] (q ∷ requests) r request a at answers = let same : q ≡ request = cc at in (rw same answers, tt)
answer-more (x ∷ replies) [] r request a at answers = cc at
answer-more (x ∷ replies) (q ∷ requests) r request a at answers =
    (a.0, answer-more replies requests r request a.1 at answers)

-- its line comes after those before
lines-more : (money : Money) (number : ℕ) (replies : List ReplyFields) (requests : List RequestFields)
    (r : ReplyFields) (request : RequestFields) → slice_get requests (length replies) ≡ Some request
    → row_lines money number (replies ++ r ∷ []) requests
    ≡ row_lines money number replies requests ++ line_with money (Some (row_of (number + length replies) request)) r
lines-more money number [] [] r request at = cc at
lines-more money number [] (q ∷ requests) r request at =
    let same : q ≡ request = cc at in
    let here : number ≡ number + 0 = omega arith in
    append-nil _ ∙ ap (λ q. line_with money (Some (row_of number q)) r) same
    ∙ ap (λ (n : ℕ). line_with money (Some (row_of n request)) r) here
lines-more money number (x ∷ replies) [] r request at = cc at
lines-more money number (x ∷ replies) (q ∷ requests) r request at =
    let first = line_with money (Some (row_of number q)) x in
    let there : (number + 1) + length replies ≡ number + length (x ∷ replies) = omega arith in
    ap (λ (t : List ℕ). first ++ t) (lines-more money (number + 1) replies requests r request at
    ∙ ap (λ (n : ℕ). row_lines money (number + 1) replies requests ++ line_with money (Some (row_of n request)) r) there)
    ∙ sym (append_assoc first (row_lines money (number + 1) replies requests)
    (line_with money (Some (row_of (number + length (x ∷ replies)) request)) r))

pub answer-one : (beside : Option Sheet) (replies : List ReplyFields) (r : ReplyFields) (row : Option PostingRow)
    → AnswerIn beside replies → IsRowIn beside (length replies) r row → AnswerIn beside (replies ++ r ∷ [])
answer-one None replies r row a at = tt
answer-one (Some postings) replies r None a at = absurd at
answer-one (Some postings) replies r (Some row) a at = answer-more replies postings.requests r at.0 a at.1 at.2

pub place-one : (money : Money) (beside : Option Sheet) (replies : List ReplyFields) (r : ReplyFields)
    (row : Option PostingRow) → IsRowIn beside (length replies) r row
    → sheet_in money beside (replies ++ r ∷ []) ≡ sheet_in money beside replies ++ line_with money row r
place-one money None replies r row at =
    rw at (ap (λ (t : List ℕ). heading money ++ t) (flat_map-append (reply_line money) replies (r ∷ [])
    ∙ ap (λ (t : List ℕ). flat_map (reply_line money) replies ++ t) (append-nil (reply_line money r)))
    ∙ sym (append_assoc (heading money) (flat_map (reply_line money) replies) (reply_line money r)))
place-one money (Some postings) replies r None at = absurd at
place-one money (Some postings) replies r (Some row) at =
    let number : 1 + length replies ≡ length replies + 1 = omega arith in
    ap (λ (t : List ℕ). rows_heading money ++ t) (lines-more money 1 replies postings.requests r at.0 at.1
    ∙ ap (λ (n : ℕ). row_lines money 1 replies postings.requests ++ line_with money (Some (row_of n at.0)) r) number
    ∙ ap (λ p. row_lines money 1 replies postings.requests ++ line_with money (Some p) r) (sym at.3))
    ∙ sym (append_assoc (rows_heading money) (row_lines money 1 replies postings.requests) (line_with money (Some row) r))
