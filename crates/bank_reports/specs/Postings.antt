-- What is written of the postings of an account, and why not all of them are.
use Rattle.std.specs.Prelude.{◌≡◌, ◌⊎◌, ◌<◌, ◌≤◌, ◌-◌, ◌^◌, ◌+ℤ◌, ℕ, ℤ, pos, nat_abs, List, [], ◌∷◌, ◌++◌, filter}
use Rattle.std.specs.Prelude.{map, length, Option, None, Some, Result, Ok, Err, ⊤}
use Rattle.std.specs.Io.KnownBytes.{Appends}
use Rattle.sqlite.specs.Effect.{Database}
use Rattle.message_records.specs.declared.limits.TheConstants.{MAX_BALANCE}
use Rattle.posting_rules.specs.declared.fault.Fault.TheVariants.{Store, Down, Damaged}
use Rattle.posting_rules.specs.declared.fault.Rule.{Rule}
use Rattle.posting_rules.specs.declared.fault.Rule.TheVariants.{Balance, Value}
use Rattle.posting_rules.specs.believed.Laws.{total}
use Rattle.bank_transactions.specs.believed.Stored.{IsStoredBalance}
use Rattle.walked_rows.specs.declared.stated.StatedPosting.{StatedPosting}
use Rattle.walked_rows.specs.Pairs.{Pair}
use Rattle.walked_rows.specs.Stored.{BreaksStated, is_stated_of, stated_pair}
use Rattle.report_contents.specs.Lines.{text_of}
use Rattle.report_contents.specs.StatementText.{heading_of, last_of, line_of, lines_by, names_of, part_of}
use Rattle.report_contents.specs.declared.form.Form.{Form}
use Rattle.report_contents.specs.declared.form.Style.TheVariants.{Sheet, Whole}
use Rattle.report_contents.specs.declared.query.Layout.{Layout}
use Rattle.report_contents.specs.declared.query.Layout.TheVariants as layout
use Rattle.report_contents.specs.declared.query.Query.{Query}
use Rattle.report_contents.specs.declared.query.Selection.{Selection}
use Rattle.report_contents.specs.declared.range.Range.{Range}
use Rattle.report_contents.specs.Written.{AppendsPart}
use Rattle.bank_reports.specs.declared.fault.ReportFault.{ReportFault}
use Rattle.bank_reports.specs.declared.fault.ReportFault.TheVariants.{NoAccount, Write, Bank}

abbrev pub delta_of : StatedPosting → ℤ
delta_of s = s.posting.delta

-- what postings add up to
abbrev pub sum_of : List StatedPosting → ℤ
sum_of rows = total (map delta_of rows)

-- The line of a posting was written in this form, and this is the balance after it; or a prefix of it was; or
-- that balance is out of its limits, and nothing was written.
abbrev pub WritesLine : Form → StatedPosting → ℤ → Option (List ℕ) → Option (List ℕ)
    → Result ℤ ReportFault → Type 0
WritesLine form s before old new (Ok after) = (after ≡ before +ℤ delta_of s)
    × Appends old new (line_of form s after)
WritesLine form s before old new (Err Write) = AppendsPart old new (line_of form s (before +ℤ delta_of s))
WritesLine form s before old new (Err (Bank (Damaged Balance))) = (new ≡ old)
    × (MAX_BALANCE < nat_abs (before +ℤ delta_of s))
WritesLine form s before old new (Err _) = ⊥

-- the first row that wasn't given breaks the rule
abbrev pub StopsAtRow : List Pair → Rule → Type 0
StopsAtRow rest broken = (p : Pair) × (more : List Pair) × (rest ≡ p ∷ more) × BreaksStated broken p

-- why rows that are read are reported as damaged: that, or there are 2^64 - 1 rows
abbrev pub WhyStopped : List StatedPosting → List Pair → Rule → Type 0
WhyStopped given rest broken = StopsAtRow rest broken ⊎ ((broken ≡ Value) × (2 ^ 64 - 1 ≤ length given))

-- why the rest wasn't read
abbrev pub WhyRead : List StatedPosting → List Pair → Result (Unit {0}) ReportFault → Type 0
WhyRead given rest (Ok done) = rest ≡ []
WhyRead given rest (Err (Bank Store)) = ⊤
WhyRead given rest (Err (Bank Down)) = ⊤
WhyRead given rest (Err (Bank (Damaged rule))) = WhyStopped given rest rule
WhyRead given rest (Err _) = ⊥

-- the balance after the first row that wasn't given is out of its limits
abbrev pub StopsAtBalance : List StatedPosting → List Pair → Type 0
StopsAtBalance given rest =
    (s : StatedPosting) × (more : List Pair) × (rest ≡ stated_pair s ∷ more)
    × (MAX_BALANCE < nat_abs (sum_of given +ℤ delta_of s))

-- why rows that are stated are: so they are as they are read, or a balance is out of its limits
abbrev pub WhyDamaged : List StatedPosting → List Pair → Rule → Type 0
WhyDamaged given rest broken = WhyStopped given rest broken ⊎ ((broken ≡ Balance) × StopsAtBalance given rest)

-- why the rest wasn't given
abbrev pub Why : List StatedPosting → List Pair → Result (Unit {0}) ReportFault → Type 0
Why given rest (Err Write) = ⊤
Why given rest (Err (Bank (Damaged rule))) = WhyDamaged given rest rule
Why given rest other = WhyRead given rest other

-- all of a text was written, or at a fault a prefix of it
abbrev pub WritesText : {E : Type 0} → List ℕ → Option (List ℕ) → Option (List ℕ)
    → Result (Unit {0}) E → Type 0
WritesText text old new (Ok done) = Appends old new text
WritesText text old new (Err e) = AppendsPart old new text

-- the lines of postings in a form
abbrev pub form_lines : Form → List StatedPosting → List (List ℕ)
form_lines form rows = lines_by (line_of form) (pos 0) rows

-- the closing line is after the last posting
abbrev pub closing_after : Form → List Pair → List (List ℕ)
closing_after form [] = last_of form ∷ []
closing_after form (p ∷ rest) = []

-- the statement so far
abbrev pub text_so_far : ℕ → Form → List StatedPosting → List Pair → List ℕ
text_so_far account form given rest =
    text_of (heading_of form account ∷ names_of form
    ∷ (form_lines form given ++ closing_after form rest))

-- of these rows the first were given and the rest weren't, and the statement of those that were given was written
pub record WritesStatement (account : ℕ) (form : Form) (all : List Pair) (old new : Option (List ℕ))
    (result : Result (Unit {0}) ReportFault) : Type 0 where
  pub given : List StatedPosting
  pub rest : List Pair
  pub are : map stated_pair given ++ rest ≡ all
  pub why : Why given rest result
  pub wrote : WritesText (text_so_far account form given rest) old new result

-- not all were added: why, and nothing was written
abbrev pub EndsBefore : List StatedPosting → List Pair → Option (List ℕ) → Option (List ℕ)
    → Result (Unit {0}) ReportFault → Type 0
EndsBefore summed rest old new result =
    (fault : ReportFault) × (result ≡ Err fault) × Why summed rest (Err fault) × (new ≡ old)

-- of these rows the first were added, for the balances of a range: all of them, and then what is selected is written,
-- or not all
pub record WritesPart (account : ℕ) (selection : Selection) (range : Range) (all : List Pair)
    (old new : Option (List ℕ)) (result : Result (Unit {0}) ReportFault) : Type 0 where
  pub summed : List StatedPosting
  pub rest : List Pair
  pub are : map stated_pair summed ++ rest ≡ all
  pub ends : ((rest ≡ []) × WritesStatement account (part_of selection range summed) all old new result)
      ⊎ EndsBefore summed rest old new result

-- the layout says what is written beside the postings
abbrev pub WritesLaid : ℕ → ℤ → Selection → Layout → Option Range → List Pair → Option (List ℕ) → Option (List ℕ)
    → Result (Unit {0}) ReportFault → Type 0
WritesLaid account balance selection (layout.Sheet ahead) range all old new result =
    WritesStatement account (record { selection = selection; style = Sheet ahead }) all old new result
WritesLaid account balance selection layout.Columns None all old new result =
    WritesStatement account (record { selection = selection; style = Whole balance }) all old new result
WritesLaid account balance selection layout.Columns (Some range) all old new result =
    WritesPart account selection range all old new result

-- what is asked for is stated of an account that has this balance
abbrev pub WritesSelected : ℕ → ℤ → Query → List Pair → Option (List ℕ) → Option (List ℕ)
    → Result (Unit {0}) ReportFault → Type 0
WritesSelected account balance query all old new result =
    WritesLaid account balance query.selection query.layout query.selection.range all old new result

-- Of these rows of history the account's are written, each with its reference, and then the balance that its own row
-- has; or what is asked for of them is.
abbrev pub StatesRows : Database → ℕ → Query → List Pair → Option (List ℕ) → Option (List ℕ)
    → Result (Unit {0}) ReportFault → Type 0
StatesRows db account query rows old new result =
    (balance : ℤ) × IsStoredBalance db account (Some balance)
    × WritesSelected account balance query (filter (is_stated_of (Some account)) rows) old new result

-- a report wrote all, or the writer failed
abbrev pub HasWritten : Result (Unit {0}) ReportFault → Type 0
HasWritten (Ok done) = ⊤
HasWritten (Err Write) = ⊤
HasWritten (Err _) = ⊥

-- the bank returned no fault
abbrev pub HasAnswered : Result (Unit {0}) ReportFault → Type 0
HasAnswered (Ok done) = ⊤
HasAnswered (Err NoAccount) = ⊤
HasAnswered (Err Write) = ⊤
HasAnswered (Err (Bank fault)) = ⊥
