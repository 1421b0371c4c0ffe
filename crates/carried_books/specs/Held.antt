-- Rows whose numbers are no request's are among the damaged rows of a file.
use Rattle.std.specs.Prelude.{◌≡◌, ◌++◌, ◌∷◌, List, map}
use Rattle.std.proofs.Common.{inl, inr, subst, ap, ◌∙◌}
use Rattle.std.proofs.lemmas.List.{map-append}
use Rattle.message_records.specs.declared.limits.TheConstants.{MAX_NUMBER, MAX_TELLER}
use Rattle.posting_rules.specs.declared.fault.Rule.{Rule}
use Rattle.sql_meanings.specs.believed.Entries.{Entry}
use Rattle.store_rows.specs.believed.BankTables.{request}
use Rattle.store_rows.specs.believed.Columns.{number_at}
use Rattle.walked_rows.specs.KeptRows.{kept_with}
use Rattle.walked_rows.specs.Requests.{IsFrom}
use Rattle.walked_rows.specs.Rows.{HasStoredRows}
use Rattle.walked_rows.specs.StepOutcomes.{BreaksBy}
use Rattle.walked_rows.specs.Stored.{request_entry, request_of}
use Rattle.bank_replays.specs.{Damaged.AreHeld, Damaged.HasBrokenRow, Visiting.Bars}
use Rattle.bank_replays.specs.FileTables.{FileTables}
use Rattle.carried_books.specs.Gathering.{RefusesNoNumber}

-- a row whose number is no request's is that of no request
into_kept : (f : FileTables) (rule : Rule) (before : List Entry) (x : Entry) (more : List Entry)
    → f.requests ≡ before ++ x ∷ more → Bars request_entry (BreaksBy request_of) RefusesNoNumber rule x
    → HasBrokenRow rule f
into_kept f rule before x more are (inl breaks) = inr (inr (inr (inr (inr (inl (before, x, more, are, breaks))))))
into_kept f rule before x more are (inr (r, is, (by, none))) =
    inr (inr (inr (inr (inr (inr (inr (inr (inr (
      map (kept_with f.history f.references) before,
      kept_with f.history f.references x,
      map (kept_with f.history f.references) more,
      ap (map (kept_with f.history f.references)) are ∙ map-append (kept_with f.history f.references) before (x ∷ more),
      inr (
        by,
        λ answered. none
            (subst (λ (e : Entry). IsFrom 1 MAX_TELLER (number_at 0 e)) is answered.0.teller)
            (subst (λ (e : Entry). IsFrom 1 MAX_NUMBER (number_at 1 e)) is answered.0.number),
      ),
    )))))))))

pub numbers_held : AreHeld (λ db rows. HasStoredRows db request rows)
    (Bars request_entry (BreaksBy request_of) RefusesNoNumber)
numbers_held db f has = (f.requests, has.requests, λ rule h. into_kept f rule h.0 h.1 h.2 h.3 h.4)
