-- What of the statements of all accounts is written, part by part.
use Rattle.std.specs.Prelude.{◌≡◌, ◌<◌, ◌+ℤ◌, ◌++◌, ◌∷◌, ℕ, nat_abs, List, Option, Result, Ok, Err}
use Rattle.std.specs.{Bool.MatchBool, List.flat_map, List.list_any}
use Rattle.std.specs.Io.KnownBytes.{Appends}
use Rattle.message_records.specs.declared.limits.TheConstants.{MAX_BALANCE}
use Rattle.posting_rules.specs.declared.fault.Fault.TheVariants.{Damaged}
use Rattle.posting_rules.specs.declared.fault.Rule.TheVariants.{Balance}
use Rattle.walked_rows.specs.declared.stated.StatedPosting.{StatedPosting}
use Rattle.report_contents.specs.AllStatements.{AreListed, account_text, postings_of, text_up_to}
use Rattle.report_contents.specs.Lines.{text_of}
use Rattle.report_contents.specs.Queries.{is_selected}
use Rattle.report_contents.specs.Written.{AppendsPart}
use Rattle.report_contents.specs.declared.form.Form.{Form}
use Rattle.report_contents.specs.declared.query.Query.{Query}
use Rattle.bank_reports.specs.declared.fault.ReportFault.{ReportFault}
use Rattle.bank_reports.specs.declared.fault.ReportFault.TheVariants.{Write, Bank}
use Rattle.bank_reports.specs.Postings.{delta_of, form_lines, sum_of}

-- of these postings, the text of those before one whose running balance is out of its limits was written
pub record StopsBefore (text : List StatedPosting → List ℕ) (rows : List StatedPosting) (old new : Option (List ℕ))
    : Type 0 where
  pub given : List StatedPosting
  pub next : StatedPosting
  pub more : List StatedPosting
  pub are : rows ≡ given ++ next ∷ more
  pub beyond : MAX_BALANCE < nat_abs (sum_of given +ℤ delta_of next)
  pub wrote : Appends old new (text given)

-- all of a text of postings was written, or a prefix of it; or the text of those before such a one
abbrev pub WritesUpTo : List ℕ → (List StatedPosting → List ℕ) → List StatedPosting → Option (List ℕ) → Option (List ℕ)
    → Result (Unit {0}) ReportFault → Type 0
WritesUpTo whole text rows old new (Ok done) = Appends old new whole
WritesUpTo whole text rows old new (Err Write) = AppendsPart old new whole
WritesUpTo whole text rows old new (Err (Bank (Damaged Balance))) = StopsBefore text rows old new
WritesUpTo whole text rows old new (Err other) = ⊥

-- the lines of postings in a form
abbrev pub WritesLines : Form → List StatedPosting → Option (List ℕ) → Option (List ℕ)
    → Result (Unit {0}) ReportFault → Type 0
WritesLines form rows = WritesUpTo (text_of (form_lines form rows)) (λ given. text_of (form_lines form given)) rows

-- the statement of an account that has these postings was written, or a prefix of it; or that up to such a posting
abbrev pub WritesAccount : Query → ℕ → List StatedPosting → Option (List ℕ) → Option (List ℕ)
    → Result (Unit {0}) ReportFault → Type 0
WritesAccount query account rows =
    WritesUpTo (account_text query account rows) (λ given. text_up_to query account rows given) rows

-- of one that has a posting that is selected; of another nothing
abbrev pub WritesListed : Query → ℕ → List StatedPosting → Option (List ℕ) → Option (List ℕ)
    → Result (Unit {0}) ReportFault → Type 0
WritesListed query account rows old new result =
    MatchBool (list_any (is_selected query.selection) rows) (WritesAccount query account rows old new result)
    ((result ≡ Ok tt) × (new ≡ old))

-- the statements of these accounts
abbrev pub parts_text : Query → List StatedPosting → List ℕ → List ℕ
parts_text query rows accounts = flat_map (λ a. account_text query a (postings_of a rows)) accounts

-- the statements of all accounts were written, or a prefix of them; or those up to a posting whose running balance is out of its limits
abbrev pub WritesParts : Query → List StatedPosting → Option (List ℕ) → Option (List ℕ)
    → Result (Unit {0}) ReportFault → Type 0
WritesParts query rows old new (Ok done) =
    (accounts : List ℕ) × AreListed query.selection rows accounts × Appends old new (parts_text query rows accounts)
WritesParts query rows old new (Err Write) =
    (accounts : List ℕ) × AreListed query.selection rows accounts
    × AppendsPart old new (parts_text query rows accounts)
WritesParts query rows old new (Err (Bank (Damaged Balance))) =
    (earlier : List ℕ) × (account : ℕ) × (later : List ℕ) × AreListed query.selection rows (earlier ++ account ∷ later)
    × StopsBefore (λ given. parts_text query rows earlier ++ text_up_to query account (postings_of account rows) given)
    (postings_of account rows) old new
WritesParts query rows old new (Err other) = ⊥
