-- All kept numbers were looked at.
use Rattle.std.proofs.Common.{rules, ◌≡◌, ◌∙◌, Err, List, true, refl, sym, subst}
use Rattle.std.specs.List.{AllByRecursion}
use Rattle.posting_rules.specs.declared.rows.ClosingRow.{ClosingRow}
use Rattle.bank_replays.proofs.Exits.{fails_by}
use Rattle.carried_books.specs.Gathering.{is_carried}
use Rattle.carried_books.proofs.ShownRows.{carried_by_rows}
use Rattle.carried_books.proofs.GatheredRows.{kept_from_none, none_holds, ok_is}
use Rattle.carried_books.proofs.Told.{told_any, told_fails}
use Rattle.carried_books.proofs.gathering.stray_in.Goals as goal

pub returns-in_err-gather_kept : goal.returns-in_err-gather_kept
returns-in_err-gather_kept g c =
    let fault = c.in_err-gather_kept.field-0.0 in
    let same : c.from_residual.result ≡ Err fault = fails_by c.from_residual.ensures.1 in
    record {
      reads = rw same (told_fails fault refl c.in_err-gather_kept.ensures.reads);
      none = λ clean is. absurd (let e = sym same ∙ is in cc);
    }

pub returns : goal.returns
returns g c =
    let it = c.in_ok-gather_kept.ensures in
    let whole : c.deref.result.now ≡ c.gather_kept.new.gathered.runs.items = search rules in
    record {
      reads = told_any it.reads _;
      none = λ clean is t shows high.
          carried_by_rows c.args.desk c.args.used.now t.requests high
          (subst (λ (runs : List ClosingRow). AllByRecursion (λ run. is_carried c.args.desk c.args.used.now run ≡ true) runs)
          (whole ∙ kept_from_none t c.none-kept.result c.gather_kept.new.gathered c.none-kept.ensures.runs (it.rows clean t shows))
          (none_holds c.stray_number.result (ok_is _ _ is) c.stray_number.ensures));
    }
