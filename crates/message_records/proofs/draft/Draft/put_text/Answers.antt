-- The text stands after what was written, and spaces after the text.
use Rattle.std.proofs.Common.{◌≡◌, ◌≤◌, ◌+◌, List, ℕ, length, ap, ◌∙◌, arith}
use Rattle.message_records.proofs.DraftedFields.{written_length, length_placed, field_rest}
use Rattle.message_records.proofs.draft.Draft.put_text.Goals as goal

pub invariant_of-self : goal.invariant_of-self
invariant_of-self g c =
    let d = c.self.inside in
    let start = written_length g.row.SIZE d.written d.bytes c.args.self.now c.self.invariant.0
    c.self.invariant.1 c.self.view_is in
    let n = length c.args.text.now in
    let placed = c.copy_from_slice.new.self in
    let same : length placed ≡ n = ap (λ (t : List ℕ). length t) c.copy_from_slice.ensures.after in
    let fits : d.written + n ≤ length d.bytes = omega (arith, start, c.self.invariant.0) in
    let inside : d.written ≤ length d.bytes = omega (arith, fits) in (
      length_placed d.written n d.bytes placed fits same ∙ c.self.invariant.0,
      omega (arith, start),
      field_rest g.row.SIZE d.written n d.bytes placed inside same c.self.invariant.2,
    )
