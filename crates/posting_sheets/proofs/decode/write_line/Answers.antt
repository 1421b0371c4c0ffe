-- The row of a reply, and its line.
use Rattle.std.proofs.Common.{◌≡◌, Err, false, refl, rules}
use Rattle.std.specs.Result.{is_err}
use Rattle.posting_sheets.specs.Walking.{line_with}
use Rattle.posting_sheets.proofs.Decoded.{untold, written-all}
use Rattle.posting_sheets.proofs.decode.write_line.Goals as goal

pub returns-in_err-row-clause-answers : goal.returns-in_err-row-clause-answers
returns-in_err-row-clause-answers g c beside at =
    let same : c.from_residual.result ≡ Err c.in_err-row.field-0.0 = search rules in
    rw same (untold beside _ _ c.in_err-row.field-0.0 _ (c.in_err-row.ensures.found beside at))

pub returns-in-Ok-write_out-clause-line : goal.returns-in-Ok-write_out-clause-line
returns-in-Ok-write_out-clause-line g c beside at =
    let found = c.in_ok-row.ensures.found beside at in
    let reply = c.in-Ok.ensures.found in
    let good : is_err c.write_out.result ≡ false = rw c.in-Ok-write_out.is refl in
    let text : c.as_bytes.result.now ≡ line_with c.args.money c.in_ok-row.row c.in-Ok.reply = search rules in (
      (
        c.in-Ok.reply,
        reply.0,
        reply.1,
        c.in_ok-row.row,
        found.0,
        written-all c.write_out.result _ _ _ good (rw text at c.write_out.ensures.written),
      ),
      found.1,
    )
