-- Rows that are gathered, and then the statements of what was gathered.
use Rattle.std.proofs.Common.{◌≡◌, ◌∷◌, ◌⊎◌, List, Option, Result, Ok, Err, ℕ, refl, sym, subst, inl, inr}
use Rattle.posting_rules.specs.declared.fault.{Fault.TheVariants.Damaged, Fault.TheVariants.Down, Fault.TheVariants.Memory}
use Rattle.posting_rules.specs.declared.fault.{Fault.TheVariants.Store, Rule.TheVariants.Value}
use Rattle.walked_rows.specs.{Pairs.Pair, Stored.stated_pair, declared.stated.StatedPosting.StatedPosting}
use Rattle.report_contents.specs.declared.query.Query.{Query}
use Rattle.bank_reports.specs.declared.fault.ReportFault.{ReportFault}
use Rattle.bank_reports.specs.declared.fault.ReportFault.TheVariants.{Bank, NoAccount, Write}
use Rattle.bank_reports.specs.declared.gathering.Gathered.{Gathered}
use Rattle.bank_reports.specs.AllPostings.{IsNoAccount, WhyUngathered, WritesGathered, WritesStatements}
use Rattle.bank_reports.specs.Gathering.{HasGathered, RefusesRow}
use Rattle.bank_reports.specs.Postings.{WhyRead}
use Rattle.bank_reports.specs.Visitors.{EndsVisits, VisitsPostings}
use Rattle.bank_reports.proofs.{Further.error_is, ReportEnds.not_ok}

-- why no more was read is why no more was gathered
why_gathered : (gathered : List StatedPosting) (rest : List Pair) (fault : ReportFault)
    → WhyRead gathered rest (Err fault) → WhyUngathered gathered rest fault
why_gathered gathered rest NoAccount why = why
why_gathered gathered rest Write why = why
why_gathered gathered rest (Bank Memory) why = absurd why
why_gathered gathered rest (Bank Store) why = tt
why_gathered gathered rest (Bank Down) why = tt
why_gathered gathered rest (Bank (Damaged rule)) why = inl why

-- nor is there one more where it was refused
why_refused : (gathered : List StatedPosting) (row : StatedPosting) (rest more : List Pair) (fault : ReportFault)
    → rest ≡ stated_pair row ∷ more
    → ((fault ≡ Bank (Damaged Value)) × IsNoAccount row.posting.account) ⊎ (fault ≡ Bank Memory)
    → WhyUngathered gathered rest fault
why_refused gathered row rest more fault next (inl none) =
    subst (λ f. WhyUngathered gathered rest f) (sym none.0) (inr (refl, (row, more, next, none.1)))
why_refused gathered row rest more fault next (inr memory) = subst (λ f. WhyUngathered gathered rest f) (sym memory) tt

module _ {first now : Gathered} {rows : List Pair} {old mid : Option (List ℕ)} where
  -- not all were gathered
  pub ungathered : (query : Query) (fault : ReportFault)
      → VisitsPostings HasGathered RefusesRow first now rows old mid (Err fault)
      → WritesStatements query rows old mid (Err fault)
  ungathered query fault it = elim it.ends [
    | inl read ↦ record {
      gathered = it.given;
      rest = it.rest;
      are = it.are;
      ends = inr (fault, refl, why_gathered it.given it.rest fault read.why, read.visited.silent);
    }
    | inr ended ↦ record {
      gathered = it.given;
      rest = it.rest;
      are = it.are;
      ends = inr (
        fault,
        refl,
        subst (λ f. WhyUngathered it.given it.rest f) (sym (error_is _ _ ended.is))
            (why_refused it.given ended.row it.rest ended.more ended.fault ended.next ended.refusal.why),
        ended.refusal.silent,
      );
    }
  ]

  -- all were, and then their statements were written
  pub gathered_then : (query : Query) (new : Option (List ℕ)) (end : Result (Unit {0}) ReportFault)
      → VisitsPostings HasGathered RefusesRow first now rows old mid (Ok tt)
      → WritesGathered query now.rows.items mid new end → WritesStatements query rows old new end
  gathered_then query new end it written = elim it.ends [
    | inl read ↦ record {
      gathered = it.given;
      rest = it.rest;
      are = it.are;
      ends = inl (
        read.why,
        subst (λ (o : Option (List ℕ)). WritesGathered query it.given o new end) read.visited.silent
            (subst (λ rs. WritesGathered query rs mid new end) read.visited.rows written),
      );
    }
    | inr ended ↦ absurd (not_ok _ _ _ refl ended.is)
  ]

-- where not all were gathered, nothing was written, whatever rows there are
pub silent_so_far : (first now : Gathered) (old mid : Option (List ℕ)) (fault : ReportFault)
    → EndsVisits (HasGathered first) (RefusesRow first) old now mid (Err fault) → mid ≡ old
silent_so_far first now old mid fault it = elim it.1 [ inl visited ↦ visited.silent | inr refused ↦ refused.1.silent ]

-- ---- how statements of what was gathered end

pub record OnlyWrites (old new : Option (List ℕ)) (end : Result (Unit {0}) ReportFault) : Type 0 where
  pub found : end ≡ Err NoAccount → ⊥
  pub store : end ≡ Err (Bank Store) → ⊥
  pub down : end ≡ Err (Bank Down) → ⊥
  pub memory : end ≡ Err (Bank Memory) → new ≡ old

pub gathered_ends : (query : Query) (gathered : List StatedPosting) (old new : Option (List ℕ))
    (end : Result (Unit {0}) ReportFault) → WritesGathered query gathered old new end → OnlyWrites old new end
gathered_ends query gathered old new end written = record {
  found = λ is. as_told (Err NoAccount) is;
  store = λ is. as_told (Err (Bank Store)) is;
  down = λ is. as_told (Err (Bank Down)) is;
  memory = λ is. as_told (Err (Bank Memory)) is;
}
  where
    as_told : (other : Result (Unit {0}) ReportFault) → end ≡ other → WritesGathered query gathered old new other
    as_told other is = subst (λ r. WritesGathered query gathered old new r) is written
