-- The parts of a statement, one after another.
use Rattle.std.proofs.Common.{◌≡◌, ◌++◌, ℕ, List, [], ◌∷◌, Option, Ok, Err, refl, sym, ap, ◌∙◌, append-nil, append_assoc}
use Rattle.std.specs.Io.KnownBytes.{Appends}
use Rattle.std.proofs.KnownBytes.{Appends-trans}
use Rattle.walked_rows.specs.{declared.stated.StatedPosting.StatedPosting, Pairs.Pair}
use Rattle.report_contents.specs.{Lines.text_of, Written.AppendsPart}
use Rattle.report_contents.specs.StatementText.{heading_of, last_of, names_of}
use Rattle.report_contents.specs.declared.form.Form.{Form}
use Rattle.report_contents.proofs.Joined.{text_of-append}
use Rattle.report_contents.proofs.Written.{first_part, same_all, same_part, then_part}
use Rattle.bank_reports.specs.declared.fault.ReportFault.{ReportFault, TheVariants.Write}
use Rattle.bank_reports.specs.Postings.{WritesStatement, closing_after, form_lines, text_so_far}
use Rattle.bank_reports.proofs.Further.{WritesPostings}

module _ (account : ℕ) (form : Form) (all : List Pair) (old : Option (List ℕ)) where
  above : List ℕ
  above = heading_of form account ++ names_of form

  later : List StatedPosting → List Pair → List ℕ
  later given rest = text_of (form_lines form given ++ closing_after form rest)

  so_far : (given : List StatedPosting) (rest : List Pair)
      → above ++ later given rest ≡ text_so_far account form given rest
  unfolding above later
  so_far given rest = append_assoc (heading_of form account) (names_of form) (later given rest)

  -- what stands above the lines failed
  pub above_err : (new : Option (List ℕ)) → AppendsPart old new (heading_of form account ++ names_of form)
      → WritesStatement account form all old new (Err Write)
  unfolding above
  above_err new part = record {
    given = [];
    rest = all;
    are = refl;
    why = tt;
    wrote = same_part old new (so_far [] all) (first_part old new above (later [] all) part);
  }

  module _ (two : Option (List ℕ)) (heading : Appends old two (heading_of form account ++ names_of form)) where
    -- a prefix of what stands after that
    after : (new : Option (List ℕ)) (given : List StatedPosting) (rest : List Pair)
        → AppendsPart two new (later given rest) → AppendsPart old new (text_so_far account form given rest)
    unfolding above
    after new given rest part =
        same_part old new (so_far given rest) (then_part old two new above (later given rest) heading part)

    -- the postings failed
    pub postings_err : (new : Option (List ℕ)) (fault : ReportFault) → WritesPostings form all two new (Err fault)
        → WritesStatement account form all old new (Err fault)
    unfolding later
    postings_err new fault p = record {
      given = p.given;
      rest = p.rest;
      are = p.are;
      why = p.why;
      wrote = after new p.given p.rest
          (same_part two new (sym (text_of-append (form_lines form p.given) (closing_after form p.rest)))
          (first_part two new (text_of (form_lines form p.given)) (text_of (closing_after form p.rest)) p.wrote));
    }

    module _ (three : Option (List ℕ)) (p : WritesPostings form all two three (Ok tt)) where
      closes : text_of (form_lines form p.given) ++ last_of form ≡ later p.given p.rest
      unfolding later
      closes =
          ap (λ l. text_of (form_lines form p.given) ++ l) (sym (append-nil (last_of form)))
          ∙ sym (text_of-append (form_lines form p.given) (last_of form ∷ []))
          ∙ ap (λ rest. text_of (form_lines form p.given ++ closing_after form rest)) (sym p.why)

      -- the closing line failed
      pub closing_err : (new : Option (List ℕ)) → AppendsPart three new (last_of form)
          → WritesStatement account form all old new (Err Write)
      closing_err new part = record {
        given = p.given;
        rest = p.rest;
        are = p.are;
        why = tt;
        wrote = after new p.given p.rest (same_part two new closes
            (then_part two three new (text_of (form_lines form p.given)) (last_of form) p.wrote part));
      }

      -- all is written
      pub all_written : (new : Option (List ℕ)) → Appends three new (last_of form)
          → WritesStatement account form all old new (Ok tt)
      unfolding above
      all_written new wrote = record {
        given = p.given;
        rest = p.rest;
        are = p.are;
        why = p.why;
        wrote = same_all old new (so_far p.given p.rest)
            (Appends-trans old two new above (later p.given p.rest) heading (same_all two new closes
            (Appends-trans two three new (text_of (form_lines form p.given)) (last_of form) p.wrote wrote)));
      }
