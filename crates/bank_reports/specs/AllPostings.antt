-- What is written of the postings of all accounts, and why not all of it is.
use Rattle.std.specs.Prelude.{◌≡◌, ◌⊎◌, ◌<ℤ◌, ◌≤ℤ◌, ◌++◌, ◌∷◌, [], ℕ, ℤ, pos, List, map, Option, Result}
use Rattle.std.specs.Prelude.{Ok, Err, ⊤}
use Rattle.std.specs.Io.KnownBytes.{Appends}
use Rattle.message_records.specs.declared.limits.TheConstants.{MAX_ACCOUNT}
use Rattle.posting_rules.specs.declared.fault.Fault.TheVariants.{Memory, Store, Down, Damaged}
use Rattle.posting_rules.specs.declared.fault.Rule.TheVariants.{Balance, Value}
use Rattle.walked_rows.specs.declared.stated.StatedPosting.{StatedPosting}
use Rattle.walked_rows.specs.Pairs.{Pair}
use Rattle.walked_rows.specs.Stored.{stated_pair}
use Rattle.report_contents.specs.AllStatements.{AreStatements, EndAtBalance}
use Rattle.report_contents.specs.declared.query.Query.{Query}
use Rattle.report_contents.specs.Written.{AppendsPart}
use Rattle.bank_reports.specs.declared.fault.ReportFault.{ReportFault}
use Rattle.bank_reports.specs.declared.fault.ReportFault.TheVariants.{Write, Bank}
use Rattle.bank_reports.specs.Postings.{WhyStopped}

-- ---- rows that are gathered

-- no account has this number
abbrev pub IsNoAccount : ℤ → Type 0
IsNoAccount number = (number <ℤ pos 1) ⊎ (pos MAX_ACCOUNT <ℤ number)

abbrev pub IsOfAccount : StatedPosting → Type 0
IsOfAccount s = (pos 1 ≤ℤ s.posting.account) × (s.posting.account ≤ℤ pos MAX_ACCOUNT)

-- the first row that wasn't gathered is of no account
abbrev pub StopsAtAccount : List Pair → Type 0
StopsAtAccount rest =
    (s : StatedPosting) × (more : List Pair) × (rest ≡ stated_pair s ∷ more) × IsNoAccount s.posting.account

-- why the rest wasn't gathered
abbrev pub WhyUngathered : List StatedPosting → List Pair → ReportFault → Type 0
WhyUngathered gathered rest (Bank Memory) = ⊤
WhyUngathered gathered rest (Bank Store) = ⊤
WhyUngathered gathered rest (Bank Down) = ⊤
WhyUngathered gathered rest (Bank (Damaged rule)) =
    WhyStopped gathered rest rule ⊎ ((rule ≡ Value) × StopsAtAccount rest)
WhyUngathered gathered rest other = ⊥

-- not all were: why, and nothing was written
abbrev pub EndsUngathered : List StatedPosting → List Pair → Option (List ℕ) → Option (List ℕ)
    → Result (Unit {0}) ReportFault → Type 0
EndsUngathered gathered rest old new result =
    (fault : ReportFault) × (result ≡ Err fault) × WhyUngathered gathered rest fault × (new ≡ old)

-- ---- statements of what was gathered

-- All statements of what was gathered were written, or a prefix of them; or those up to the posting whose running balance is out of its
-- limits; or memory was refused, and nothing was.
abbrev pub WritesGathered : Query → List StatedPosting → Option (List ℕ) → Option (List ℕ)
    → Result (Unit {0}) ReportFault → Type 0
WritesGathered query gathered old new (Ok done) =
    (text : List ℕ) × AreStatements query gathered text × Appends old new text
WritesGathered query gathered old new (Err Write) =
    (text : List ℕ) × AreStatements query gathered text × AppendsPart old new text
WritesGathered query gathered old new (Err (Bank (Damaged Balance))) =
    (text : List ℕ) × EndAtBalance query gathered text × Appends old new text
WritesGathered query gathered old new (Err (Bank Memory)) = new ≡ old
WritesGathered query gathered old new (Err other) = ⊥

-- of these rows the first were gathered: all of them, and then their statements were written, or not all
pub record WritesStatements (query : Query) (all : List Pair) (old new : Option (List ℕ))
    (result : Result (Unit {0}) ReportFault) : Type 0 where
  pub gathered : List StatedPosting
  pub rest : List Pair
  pub are : map stated_pair gathered ++ rest ≡ all
  pub ends : ((rest ≡ []) × WritesGathered query gathered old new result)
      ⊎ EndsUngathered gathered rest old new result
