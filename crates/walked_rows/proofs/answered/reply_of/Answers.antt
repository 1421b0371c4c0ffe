-- The outcome and the balance were read as they stand in the row; a search takes long to see it.
use Rattle.std.proofs.Common.{◌≡◌, None, pos, sym, ap, subst, ◌∙◌, rules, w64, to_z, of_z}
use Rattle.std.proofs.lemmas.Int.{to_z-of_z}
use Rattle.message_records.specs.declared.limits.TheConstants.{MAX_BALANCE}
use Rattle.message_records.specs.declared.records.Outcome.TheVariants.{Posted}
use Rattle.message_records.specs.believed.{Outcomes.code_of, Ranges.cents_within}
use Rattle.walked_rows.specs.Requests.{IsKeptCode}
use Rattle.walked_rows.proofs.Answering.{cents_beyond}
use Rattle.walked_rows.proofs.answered.reply_of.Goals as goal

pub returns-in_err-outcome : goal.returns-in_err-outcome
returns-in_err-outcome c =
    let z = c.args.row.now.request.outcome in
    let same : to_z w64 (of_z w64 z) ≡ z = search (rules, to_z-of_z) in
    rw c.from_residual.ensures record {
      some = tt;
      none = λ of_row. c.in_err-outcome.ensures.none (subst IsKeptCode (sym same) of_row.outcome);
    }

pub returns-in_err-new : goal.returns-in_err-new
returns-in_err-new c =
    let code = c.args.row.now.request.outcome in
    let read : to_z w64 (of_z w64 code) ≡ code = search (rules, to_z-of_z) in
    let z = c.args.row.now.request.balance in
    let same : to_z w64 (of_z w64 z) ≡ z = search (rules, to_z-of_z) in
    let posted : c.in_ok-outcome.outcome ≡ Posted = search rules in
    rw c.from_residual-in_err-new.ensures record {
      some = tt;
      none = λ of_row. cents_beyond MAX_BALANCE z (subst (λ x. None ≡ cents_within MAX_BALANCE x) same
          c.in_err-new.ensures)
          (of_row.balance (sym read ∙ c.in_ok-outcome.ensures.some.0 ∙ ap (λ o. pos (code_of o)) posted));
    }
