-- The text of a statement of an account, over its postings by ordinal.
use Rattle.std.specs.Prelude.{ℕ, ℤ, pos, ◌+ℤ◌, List, [], ◌∷◌, ◌++◌, Option, Some, None, codes, decimal}
use Rattle.std.specs.Prelude.{if◌then◌else◌}
use Rattle.std.specs.Fmt.{signed_decimal}
use Rattle.walked_rows.specs.declared.stated.StatedPosting.{StatedPosting}
use Rattle.report_contents.specs.declared.form.Form.{Form}
use Rattle.report_contents.specs.declared.form.Style.{Style}
use Rattle.report_contents.specs.declared.form.Style.TheVariants.{Part, Sheet, Whole}
use Rattle.report_contents.specs.declared.query.Layout.{Layout}
use Rattle.report_contents.specs.declared.query.Layout.TheVariants as layout
use Rattle.report_contents.specs.declared.query.Query.{Query}
use Rattle.report_contents.specs.declared.query.Selection.{Selection}
use Rattle.report_contents.specs.declared.range.Range.{Range}
use Rattle.report_contents.specs.Queries.{is_selected}
use Rattle.report_contents.specs.Ranges.{sum_before}
use Rattle.report_contents.specs.Sheet.{sheet_heading, sheet_line}
use Rattle.report_contents.specs.Lines.{line, filled_to, left_in, right_in, with_sign, text_of}

-- the account in twelve digits
abbrev pub heading_line : ℕ → List ℕ
heading_line account = line (codes "STATEMENT ACCOUNT " ++ filled_to 48 12 (decimal account))

-- a seventh text stands after the others, if there is one
abbrev pub after_others : Option (List ℕ) → List ℕ
after_others None = []
after_others (Some text) = codes " " ++ text

-- six texts, each right in the places of its column, joined by one space, and the seventh
abbrev pub columns : List ℕ → List ℕ → List ℕ → List ℕ → List ℕ → List ℕ → Option (List ℕ) → List ℕ
columns ordinal moment teller branch delta balance reference =
    line (right_in 13 ordinal ++ codes " " ++ right_in 12 moment ++ codes " " ++ right_in 8 teller
    ++ codes " " ++ right_in 6 branch ++ codes " "
    ++ right_in 14 delta ++ codes " " ++ right_in 14 balance ++ after_others reference)

-- the names of the columns
abbrev pub names_line : List ℕ
names_line = columns (codes "ordinal") (codes "moment") (codes "teller") (codes "branch") (codes "delta")
    (codes "balance") (Some (codes "reference"))

-- a posting with the reference of its request, and the running balance with it
abbrev pub posting_line : StatedPosting → ℤ → List ℕ
posting_line s balance =
    let r = s.posting in
    columns (decimal r.ordinal) (decimal r.moment) (signed_decimal r.teller) (signed_decimal r.branch)
    (with_sign r.delta) (signed_decimal balance) s.reference

-- lines of postings, each with the balance after it: the sum of the account's deltas up to its line and with it
abbrev pub lines_by : (StatedPosting → ℤ → List ℕ) → ℤ → List StatedPosting → List (List ℕ)
lines_by line_with before [] = []
lines_by line_with before (s ∷ rows) = line_with s (before +ℤ s.posting.delta)
    ∷ lines_by line_with (before +ℤ s.posting.delta) rows

-- a balance by its name, below the balances of postings
abbrev pub balance_line : List ℕ → ℤ → List ℕ
balance_line name balance = line (left_in 57 name ++ codes " " ++ right_in 14 (signed_decimal balance))

-- what the postings before a range add up to
abbrev pub opening_line : ℤ → List ℕ
opening_line balance = balance_line (codes "opening balance") balance

-- the balance of the account's row; of a range, what the postings up to its end add up to
abbrev pub closing_line : ℤ → List ℕ
closing_line balance = balance_line (codes "closing balance") balance

-- ---- a form

-- the first line; a sheet has the names of its columns there
abbrev pub heading_by : Style → ℕ → List ℕ
heading_by (Whole balance) account = heading_line account
heading_by (Part opening closing) account = heading_line account
heading_by (Sheet ahead) account = sheet_heading

abbrev pub heading_of : Form → ℕ → List ℕ
heading_of form account = heading_by form.style account

-- what stands between it and the postings
abbrev pub names_by : Style → List ℕ
names_by (Whole balance) = names_line
names_by (Part opening closing) = names_line ++ opening_line opening
names_by (Sheet ahead) = []

abbrev pub names_of : Form → List ℕ
names_of form = names_by form.style

-- the line of a posting with the balance after it
abbrev pub styled_line : Style → StatedPosting → ℤ → List ℕ
styled_line (Whole balance) = posting_line
styled_line (Part opening closing) = posting_line
styled_line (Sheet ahead) = sheet_line ahead

-- one that isn't selected has none
abbrev pub line_of : Form → StatedPosting → ℤ → List ℕ
line_of form s balance = if is_selected form.selection s then styled_line form.style s balance else []

-- what stands below the postings
abbrev pub last_by : Style → List ℕ
last_by (Whole balance) = closing_line balance
last_by (Part opening closing) = closing_line closing
last_by (Sheet ahead) = []

abbrev pub last_of : Form → List ℕ
last_of form = last_by form.style

-- the lines of a statement of these postings of an account, which opens at zero
abbrev pub stated_lines : ℕ → Form → List StatedPosting → List (List ℕ)
stated_lines account form rows = heading_of form account ∷ names_of form
    ∷ (lines_by (line_of form) (pos 0) rows ++ last_of form ∷ [])

unfoldable pub stated_text : ℕ → Form → List StatedPosting → List ℕ
stated_text account form rows = text_of (stated_lines account form rows)

-- what is selected of a range of the postings of an account: its balances are sums of all of them
abbrev pub part_of : Selection → Range → List StatedPosting → Form
part_of selection range rows = record {
  selection = selection;
  style = Part (sum_before range.from rows) (sum_before range.until rows);
}

-- ---- what is asked for

-- with this balance of the account's row, and these as all its postings
abbrev pub style_for : Layout → Option Range → ℤ → List StatedPosting → Style
style_for (layout.Sheet ahead) range balance rows = Sheet ahead
style_for layout.Columns None balance rows = Whole balance
style_for layout.Columns (Some range) balance rows = Part (sum_before range.from rows) (sum_before range.until rows)

abbrev pub form_for : Query → ℤ → List StatedPosting → Form
form_for query balance rows = record {
  selection = query.selection;
  style = style_for query.layout query.selection.range balance rows;
}
