-- The statement of an account after a log: its posted requests in order, each with the balance after it.
use Rattle.std.specs.Prelude.{ℕ, ◌+◌, ◌==◌, ◌&&◌, Bool, List, [], ◌∷◌, ◌++◌, length, if◌then◌else◌}
use Rattle.walked_rows.specs.declared.stated.StatedPosting.{StatedPosting}
use Rattle.posting_rules.specs.believed.Commands.{Command}
use Rattle.posting_rules.specs.believed.Entries.{DecidedRequest, is_posted, account_balance, decided}
use Rattle.posting_rules.specs.believed.Tables.{history_row_of}
use Rattle.report_contents.specs.Lines.{text_of}
use Rattle.report_contents.specs.Stored.{posting_stored}
use Rattle.report_contents.specs.StatementText.{form_for, heading_of, last_of, line_of, names_of}
use Rattle.report_contents.specs.declared.form.Form.{Form}
use Rattle.report_contents.specs.declared.query.Query.{Query}

-- a posting under its ordinal, as a file has it, with the reference of its request
abbrev pub stated_of : ℕ → DecidedRequest → StatedPosting
stated_of ordinal e = record {
  posting = posting_stored (history_row_of ordinal e);
  reference = e.request.reference;
}

-- a decided request was posted to this account
abbrev pub is_posted_to : ℕ → DecidedRequest → Bool
is_posted_to a e = is_posted e && (e.request.account == a)

-- the postings of the requests that pass a test, the oldest first
abbrev pub postings_that : (DecidedRequest → Bool) → List DecidedRequest → List StatedPosting
postings_that test [] = []
postings_that test (e ∷ es) =
    if test e
    then postings_that test es ++ stated_of (length es + 1) e ∷ []
    else postings_that test es

-- the postings to an account
abbrev pub postings_to : ℕ → List DecidedRequest → List StatedPosting
postings_to a es = postings_that (is_posted_to a) es

-- the postings to all accounts
abbrev pub all_postings : List DecidedRequest → List StatedPosting
all_postings es = postings_that is_posted es

-- the lines of an account in a form, each with the account's balance after it
abbrev pub lines_to : Form → ℕ → List DecidedRequest → List (List ℕ)
lines_to form a [] = []
lines_to form a (e ∷ es) =
    if is_posted_to a e
    then lines_to form a es ++ line_of form (stated_of (length es + 1) e) (account_balance (e ∷ es) a) ∷ []
    else lines_to form a es

-- the form of what is asked for after a log: with the account's balance, and what is before a range and up to its end
-- as sums of all postings
abbrev pub form_after : List Command → ℕ → Query → Form
form_after log a query = form_for query (account_balance (decided log) a) (postings_to a (decided log))

-- a statement in a form
abbrev pub statement_in : List Command → ℕ → Form → List ℕ
statement_in log a form =
    text_of (heading_of form a ∷ names_of form ∷ (lines_to form a (decided log) ++ last_of form ∷ []))

-- the statement of an account after a log, of what is asked for
unfoldable pub statement_after : List Command → ℕ → Query → List ℕ
statement_after log a query = statement_in log a (form_after log a query)
