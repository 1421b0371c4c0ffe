-- What the visitors of postings have done: old and new are the known bytes of the writer before the first posting and
-- now.
use Rattle.std.specs.Prelude.{◌≡◌, ◌⊎◌, ℕ, List, ◌∷◌, ◌++◌, map, Option, Result, Ok, Err}
use Rattle.std.specs.Io.KnownBytes.{Appends}
use Rattle.walked_rows.specs.declared.stated.StatedPosting.{StatedPosting}
use Rattle.walked_rows.specs.Pairs.{Pair}
use Rattle.walked_rows.specs.Stored.{stated_pair}
use Rattle.report_contents.specs.Lines.{text_of}
use Rattle.report_contents.specs.Ranges.{HasSummed}
use Rattle.report_contents.specs.declared.range_sums.RangeSums.{RangeSums}
use Rattle.bank_reports.specs.declared.fault.ReportFault.{ReportFault}
use Rattle.bank_reports.specs.declared.visitors.Lines.{Lines}
use Rattle.bank_reports.specs.Postings.{WhyRead, WritesLine, form_lines, sum_of}

-- ---- sums

-- the postings given were added, and nothing was written
pub record HasAdded (first : RangeSums) (old : Option (List ℕ)) (given : List StatedPosting) (now : RangeSums)
    (new : Option (List ℕ)) : Type 0 where
  pub summed : HasSummed first.range now given
  pub silent : new ≡ old

abbrev pub never_refused : RangeSums → Option (List ℕ) → List StatedPosting → StatedPosting → ReportFault
    → Option (List ℕ) → Type 0
never_refused first old given row fault new = ⊥

-- ---- lines

-- the lines of the postings given were written, and this is the balance after them
pub record HasLined (first : Lines) (old : Option (List ℕ)) (given : List StatedPosting) (now : Lines)
    (new : Option (List ℕ)) : Type 0 where
  pub form : now.form ≡ first.form
  pub wrote : Appends old new (text_of (form_lines first.form given))
  pub balance : now.balance ≡ sum_of given

-- the lines of these were written, and that of the next wasn't, or not all of it
pub record RefusesLine (first : Lines) (old : Option (List ℕ)) (given : List StatedPosting) (row : StatedPosting)
    (fault : ReportFault) (new : Option (List ℕ)) : Type 0 where
  pub before : Option (List ℕ)
  pub wrote : Appends old before (text_of (form_lines first.form given))
  pub ended : WritesLine first.form row (sum_of given) before new (Err fault)

-- ---- any visitor, by what it has and what it refused

-- the rest of the rows weren't read, and this is why
pub record EndsReading {V : Type 0} (Visited : Option (List ℕ) → List StatedPosting → V → Option (List ℕ) → Type 0)
    (old new : Option (List ℕ)) (now : V) (given : List StatedPosting) (rest : List Pair)
    (result : Result (Unit {0}) ReportFault) : Type 0 where
  pub visited : Visited old given now new
  pub why : WhyRead given rest result

-- the first of the rest was refused by the visitor
pub record EndsRefused
    (Refused : Option (List ℕ) → List StatedPosting → StatedPosting → ReportFault → Option (List ℕ) → Type 0)
    (old new : Option (List ℕ)) (given : List StatedPosting) (rest : List Pair)
    (result : Result (Unit {0}) ReportFault) : Type 0 where
  pub row : StatedPosting
  pub more : List Pair
  pub next : rest ≡ stated_pair row ∷ more
  pub fault : ReportFault
  pub is : result ≡ Err fault
  pub refusal : Refused old given row fault new

-- whatever rows the file holds, some were visited, and then at a fault one may have been refused
abbrev pub EndsVisits : {V : Type 0} (Visited : Option (List ℕ) → List StatedPosting → V → Option (List ℕ) → Type 0)
    (Refused : Option (List ℕ) → List StatedPosting → StatedPosting → ReportFault → Option (List ℕ) → Type 0)
    (old : Option (List ℕ)) (now : V) (new : Option (List ℕ)) → Result (Unit {0}) ReportFault → Type 0
EndsVisits Visited Refused old now new (Ok done) = (given : List StatedPosting) × Visited old given now new
EndsVisits Visited Refused old now new (Err fault) = (given : List StatedPosting)
    × (Visited old given now new ⊎ ((row : StatedPosting) × Refused old given row fault new))

-- of these rows the first were visited, and the rest weren't
pub record VisitsPostings {V : Type 0} (Visited : V → Option (List ℕ) → List StatedPosting → V → Option (List ℕ) → Type 0)
    (Refused : V → Option (List ℕ) → List StatedPosting → StatedPosting → ReportFault → Option (List ℕ) → Type 0)
    (first now : V) (all : List Pair) (old new : Option (List ℕ)) (result : Result (Unit {0}) ReportFault)
    : Type 0 where
  pub given : List StatedPosting
  pub rest : List Pair
  pub are : map stated_pair given ++ rest ≡ all
  pub ends : EndsReading (Visited first) old new now given rest result
      ⊎ EndsRefused (Refused first) old new given rest result
