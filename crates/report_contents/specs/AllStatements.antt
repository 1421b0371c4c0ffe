-- The text of the statements of all accounts, one after another, over their postings by ordinal.
use Rattle.std.specs.Prelude.{◌≡◌, ◌↔◌, ◌<◌, ◌-◌, ◌^◌, ◌+ℤ◌, ◌++◌, ◌∷◌, [], ℕ, pos, nat_abs, Bool, List, IsTrue}
use Rattle.std.specs.Prelude.{Option, Some, None, filter, map}
use Rattle.std.specs.List.{Contains, flat_map, list_any}
use Rattle.std.specs.List.Sorted.{IsStrictlyIncreasing}
use Rattle.std.specs.Ordering.{int_eq}
use Rattle.message_records.specs.declared.limits.TheConstants.{MAX_BALANCE}
use Rattle.posting_rules.specs.believed.Laws.{total}
use Rattle.walked_rows.specs.declared.stated.StatedPosting.{StatedPosting}
use Rattle.report_contents.specs.Lines.{text_of}
use Rattle.report_contents.specs.Queries.{is_selected}
use Rattle.report_contents.specs.Sheet.{sheet_heading}
use Rattle.report_contents.specs.StatementText.{heading_of, last_of, line_of, lines_by, names_of, part_of}
use Rattle.report_contents.specs.declared.form.Form.{Form}
use Rattle.report_contents.specs.declared.form.Style.TheVariants.{Sheet}
use Rattle.report_contents.specs.declared.query.Layout.{Layout}
use Rattle.report_contents.specs.declared.query.Layout.TheVariants as layout
use Rattle.report_contents.specs.declared.query.Query.{Query}
use Rattle.report_contents.specs.declared.query.Selection.{Selection}
use Rattle.report_contents.specs.declared.range.Range.{Range}

-- ---- whose statements

-- the posting is one of this account
abbrev pub is_posting_of : ℕ → StatedPosting → Bool
is_posting_of account s = int_eq s.posting.account (pos account)

-- the postings of an account
abbrev pub postings_of : ℕ → List StatedPosting → List StatedPosting
postings_of account rows = filter (is_posting_of account) rows

-- the account has a posting that is selected
abbrev pub is_listed : Selection → List StatedPosting → ℕ → Bool
is_listed selection rows account = list_any (is_selected selection) (postings_of account rows)

-- these are all such accounts, by rising numbers
pub record AreListed (selection : Selection) (rows : List StatedPosting) (accounts : List ℕ) : Type 0 where
  pub rise : IsStrictlyIncreasing accounts
  pub are : (account : ℕ) → Contains accounts account ↔ IsTrue (is_listed selection rows account)

-- ---- the text

-- every second that a posting can have been made in
abbrev pub all_time : Range
all_time = record { from = pos 0; until = pos (2 ^ 63 - 1) }

-- the range that is asked for, or all time
abbrev pub range_or_all : Option Range → Range
range_or_all None = all_time
range_or_all (Some range) = range

-- how the statement of an account that has these postings is written: as one of a range, or as rows of a sheet
abbrev pub form_in : Layout → Selection → List StatedPosting → Form
form_in (layout.Sheet ahead) selection rows = record { selection = selection; style = Sheet ahead }
form_in layout.Columns selection rows = part_of selection (range_or_all selection.range) rows

-- a sheet has the names of its columns once, above all
abbrev pub top_of : Layout → List ℕ
top_of (layout.Sheet ahead) = sheet_heading
top_of layout.Columns = []

-- and nothing above the rows of an account
abbrev pub above_in : Layout → Form → ℕ → List ℕ
above_in (layout.Sheet ahead) form account = []
above_in layout.Columns form account = heading_of form account ++ names_of form

-- the statement of an account that has these postings, up to the last of those that are given
abbrev pub text_up_to : Query → ℕ → (rows given : List StatedPosting) → List ℕ
text_up_to query account rows given =
    let form = form_in query.layout query.selection rows in
    above_in query.layout form account ++ text_of (lines_by (line_of form) (pos 0) given)

-- all of it
abbrev pub account_text : Query → ℕ → List StatedPosting → List ℕ
account_text query account rows =
    text_up_to query account rows rows ++ last_of (form_in query.layout query.selection rows)

-- the statements of these accounts
abbrev pub statements_text : Query → List StatedPosting → List ℕ → List ℕ
statements_text query rows accounts =
    top_of query.layout ++ flat_map (λ a. account_text query a (postings_of a rows)) accounts

-- the text is that of the statements of all accounts that have a posting that is selected
pub record AreStatements (query : Query) (rows : List StatedPosting) (text : List ℕ) : Type 0 where
  pub accounts : List ℕ
  pub listed : AreListed query.selection rows accounts
  pub is : text ≡ statements_text query rows accounts

-- it is that of those up to a posting whose running balance is out of its limits, without it
pub record EndAtBalance (query : Query) (rows : List StatedPosting) (text : List ℕ) : Type 0 where
  pub earlier : List ℕ
  pub account : ℕ
  pub later : List ℕ
  pub listed : AreListed query.selection rows (earlier ++ account ∷ later)
  pub given : List StatedPosting
  pub next : StatedPosting
  pub more : List StatedPosting
  pub are : postings_of account rows ≡ given ++ next ∷ more
  pub beyond : MAX_BALANCE < nat_abs (total (map (λ s. s.posting.delta) given) +ℤ next.posting.delta)
  pub is : text ≡ statements_text query rows earlier ++ text_up_to query account (postings_of account rows) given
