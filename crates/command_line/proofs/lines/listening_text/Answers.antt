-- The parts that were written are the line.
use Rattle.std.proofs.Common.{◌≡◌, ◌∙◌, ap, List, ℕ, ◌++◌}
use Rattle.std.proofs.lemmas.Fmt.{contents_after_writes}
use Rattle.arrayvec.specs.declared.array_string.ArrayString.{ArrayString}
use Rattle.command_line.specs.Lines.{listening_line}
use Rattle.command_line.proofs.lines.listening_text.Goals as goal

abbrev Appended : ArrayString 160 → List ℕ → ArrayString 160 → Type 0
Appended s bytes t = t.bytes ≡ s.bytes ++ bytes

pub returns-in-Ok : goal.returns-in-Ok
returns-in-Ok c =
    contents_after_writes Appended (λ line. line.bytes) (λ s bytes t is. is) _ _ _ c.in-Ok.ensures.writes
    ∙ ap (λ (bytes : List ℕ). bytes ++ listening_line c.args.address) c.new-line.ensures
