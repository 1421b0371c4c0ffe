use Rattle.std.proofs.Common.{◌≡◌, refl, rules, inl, Err}
use Rattle.std.proofs.KnownBytes.{Keeps-refl}
use Rattle.bank_commands.proofs.files.why_in.Goals as goal

pub returns-in_err-look_for : goal.returns-in_err-look_for
returns-in_err-look_for g c =
    let f = c.in_err-look_for.field-0.0 in
    let same : c.from_residual.result ≡ Err f = search rules in
    rw same (inl ((f, refl), Keeps-refl _))

pub returns-in-Err : goal.returns-in-Err
returns-in-Err g c = inl ((_, refl), Keeps-refl _)
