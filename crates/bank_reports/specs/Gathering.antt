-- Postings that are gathered in memory, and then stand by their accounts.
use Rattle.std.specs.Prelude.{◌≡◌, ◌⊎◌, ℕ, All, List, Option, nat_abs}
use Rattle.std.specs.List.Sorted.{IsNonDecreasingBy}
use Rattle.posting_rules.specs.declared.fault.Fault.TheVariants.{Damaged, Memory}
use Rattle.posting_rules.specs.declared.fault.Rule.TheVariants.{Value}
use Rattle.walked_rows.specs.declared.stated.StatedPosting.{StatedPosting}
use Rattle.report_contents.specs.AllStatements.{postings_of}
use Rattle.bank_reports.specs.declared.fault.ReportFault.{ReportFault}
use Rattle.bank_reports.specs.declared.fault.ReportFault.TheVariants.{Bank}
use Rattle.bank_reports.specs.declared.gathering.Gathered.{Gathered}
use Rattle.bank_reports.specs.AllPostings.{IsNoAccount, IsOfAccount}

-- the postings given were kept, and nothing was written
pub record HasGathered (first : Gathered) (old : Option (List ℕ)) (given : List StatedPosting) (now : Gathered)
    (new : Option (List ℕ)) : Type 0 where
  pub rows : now.rows.items ≡ given
  pub numbers : All IsOfAccount given
  pub silent : new ≡ old

-- the next posting isn't of an account, or memory was refused; and nothing was written
pub record RefusesRow (first : Gathered) (old : Option (List ℕ)) (given : List StatedPosting) (row : StatedPosting)
    (fault : ReportFault) (new : Option (List ℕ)) : Type 0 where
  pub why : ((fault ≡ Bank (Damaged Value)) × IsNoAccount row.posting.account) ⊎ (fault ≡ Bank Memory)
  pub silent : new ≡ old

-- the number of a posting's account, where it is one
abbrev pub account_of : StatedPosting → ℕ
account_of s = nat_abs s.posting.account

-- the same postings by rising accounts, those of each in the same order
pub record IsByAccount (given rows : List StatedPosting) : Type 0 where
  pub rise : IsNonDecreasingBy account_of rows
  pub numbers : All IsOfAccount rows
  pub same : (account : ℕ) → postings_of account rows ≡ postings_of account given
