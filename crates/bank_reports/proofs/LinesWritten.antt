-- The lines of postings that are at hand, one after another, and the statement of their account.
use Rattle.std.proofs.Common.{◌≡◌, ◌++◌, ℕ, List, [], ◌∷◌, Option, Ok, Err, sym, ap, subst, ◌∙◌, append_assoc}
use Rattle.std.specs.Prelude.{ℤ, pos, ◌+ℤ◌}
use Rattle.std.specs.Io.KnownBytes.{Appends}
use Rattle.std.proofs.KnownBytes.{Appends-trans}
use Rattle.posting_rules.specs.declared.fault.{Fault.TheVariants.Damaged, Rule.TheVariants.Balance}
use Rattle.walked_rows.specs.declared.stated.StatedPosting.{StatedPosting}
use Rattle.report_contents.specs.AllStatements.{above_in, account_text, form_in}
use Rattle.report_contents.specs.{Lines.text_of, Written.AppendsPart}
use Rattle.report_contents.specs.StatementText.{last_of, line_of, lines_by}
use Rattle.report_contents.specs.declared.{form.Form.Form, query.Query.Query}
use Rattle.report_contents.proofs.Joined.{text_of-append}
use Rattle.report_contents.proofs.Written.{first_part, same_all, same_part, then_part}
use Rattle.bank_reports.specs.declared.fault.ReportFault.{ReportFault}
use Rattle.bank_reports.specs.declared.fault.ReportFault.TheVariants.{Bank, Write}
use Rattle.bank_reports.specs.Parts.{WritesAccount, WritesLines}
use Rattle.bank_reports.specs.Postings.{WritesLine, form_lines, sum_of}
use Rattle.bank_reports.proofs.Further.{text_more}
use Rattle.bank_reports.proofs.Lined.{sum_of-snoc}
use Rattle.bank_reports.proofs.OnLogs.{lines-append}

-- ---- lines

module _ (form : Form) (given : List StatedPosting) (r : StatedPosting) (old mid new : Option (List ℕ))
    (wrote : Appends old mid (text_of (form_lines form given))) where
  -- one more was written
  pub one_more_line : (after : ℤ) → WritesLine form r (sum_of given) mid new (Ok after)
      → (after ≡ sum_of (given ++ r ∷ [])) × Appends old new (text_of (form_lines form (given ++ r ∷ [])))
  one_more_line after line = (
    line.0 ∙ sym (sum_of-snoc given r),
    same_all old new (text_more form given r)
        (Appends-trans old mid new _ _ wrote (same_all mid new (ap (line_of form r) line.0) line.1)),
  )

  -- the next wasn't, or not all of it
  pub lines_end : (more rows : List StatedPosting) → rows ≡ given ++ r ∷ more → (fault : ReportFault)
      → WritesLine form r (sum_of given) mid new (Err fault) → WritesLines form rows old new (Err fault)
  lines_end more rows are Write part =
      let begun = given ++ r ∷ [] in
      let rest = text_of (lines_by (line_of form) (pos 0 +ℤ sum_of begun) more) in
      same_part old new
      (sym (text_of-append (form_lines form begun) (lines_by (line_of form) (pos 0 +ℤ sum_of begun) more))
      ∙ ap text_of (sym (lines-append (line_of form) (pos 0) begun more))
      ∙ ap (λ l. text_of (form_lines form l)) (append_assoc given (r ∷ []) more ∙ sym are))
      (first_part old new (text_of (form_lines form begun)) rest
      (same_part old new (text_more form given r) (then_part old mid new _ _ wrote part)))
  lines_end more rows are (Bank (Damaged Balance)) ended = record {
    given = given;
    next = r;
    more = more;
    are = are;
    beyond = ended.1;
    wrote = subst (λ (o : Option (List ℕ)). Appends old o (text_of (form_lines form given))) (sym ended.0) wrote;
  }
  lines_end more rows are other never = absurd never

-- ---- the statement of an account

module _ (query : Query) (account : ℕ) (rows : List StatedPosting) (old : Option (List ℕ)) where
  abbrev form : Form
  form = form_in query.layout query.selection rows

  abbrev above : List ℕ
  above = above_in query.layout form account

  abbrev lines : List ℕ
  lines = text_of (form_lines form rows)

  pub above_end : (new : Option (List ℕ)) → AppendsPart old new above
      → AppendsPart old new (account_text query account rows)
  above_end new part = first_part old new (above ++ lines) (last_of form) (first_part old new above lines part)

  module _ (mid : Option (List ℕ)) (wrote : Appends old mid above) where
    pub account_end : (new : Option (List ℕ)) (fault : ReportFault) → WritesLines form rows mid new (Err fault)
        → WritesAccount query account rows old new (Err fault)
    account_end new Write part =
        first_part old new (above ++ lines) (last_of form) (then_part old mid new above lines wrote part)
    account_end new (Bank (Damaged Balance)) stops = record {
      given = stops.given;
      next = stops.next;
      more = stops.more;
      are = stops.are;
      beyond = stops.beyond;
      wrote = Appends-trans old mid new above _ wrote stops.wrote;
    }
    account_end new other never = absurd never

    module _ (late : Option (List ℕ)) (written : Appends mid late lines) where
      pub closing_end : (new : Option (List ℕ)) → AppendsPart late new (last_of form)
          → AppendsPart old new (account_text query account rows)
      closing_end new part =
          then_part old late new (above ++ lines) (last_of form) (Appends-trans old mid late above lines wrote written) part

      pub account_written : (new : Option (List ℕ)) → Appends late new (last_of form)
          → Appends old new (account_text query account rows)
      account_written new last =
          Appends-trans old late new (above ++ lines) (last_of form) (Appends-trans old mid late above lines wrote written) last
