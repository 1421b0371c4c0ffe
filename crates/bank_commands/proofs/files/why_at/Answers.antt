use Rattle.std.proofs.Common.{refl, inl}
use Rattle.std.proofs.KnownBytes.{Keeps-refl}
use Rattle.bank_commands.proofs.Told.{prints_none}
use Rattle.bank_commands.proofs.files.why_at.Goals as goal

pub returns : goal.returns
returns g c = inl ((_, refl), Keeps-refl _)

pub returns-in-Ok : goal.returns-in-Ok
returns-in-Ok g c = prints_none _ _ _ _ c.why_over.result.end c.why_over.ensures.looks.0 (λ _ _ did. did.1.1)
