-- The status by the verdict.
use Rattle.std.proofs.Common.{◌∙◌, ap, sym}
use Rattle.std.specs.Prelude.{if◌then◌else◌}
use Rattle.command_line.specs.declared.status.Status.TheVariants.{Done, Inconsistent}
use Rattle.command_line.proofs.auditing.status_of.Goals as goal

pub returns-then-is_consistent : goal.returns-then-is_consistent
returns-then-is_consistent c =
    ap (λ sound. if sound then Done else Inconsistent) (sym c.if-is_consistent.true ∙ c.is_consistent.ensures)

pub returns-else-is_consistent : goal.returns-else-is_consistent
returns-else-is_consistent c =
    ap (λ sound. if sound then Done else Inconsistent)
    (sym c.if-is_consistent.false ∙ c.is_consistent.ensures)
