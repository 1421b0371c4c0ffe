-- The digits stand after what was written, and spaces after the digits.
use Rattle.std.proofs.Common.{◌≡◌, ◌≤◌, ◌+◌, List, ℕ, length, ap, ◌∙◌, arith}
use Rattle.message_records.proofs.Digits.{length-digits}
use Rattle.message_records.proofs.DraftedFields.{written_length, length_placed, digits_placed, field_rest}
use Rattle.message_records.proofs.draft.Draft.put_number.Goals as goal

pub invariant_of-self : goal.invariant_of-self
invariant_of-self g c =
    let d = c.self.inside in
    let n = c.args.count in
    let start = written_length g.row.SIZE d.written d.bytes c.args.self.now c.self.invariant.0
    c.self.invariant.1 c.self.view_is in
    let fits : d.written + n ≤ length d.bytes = omega (arith, start, c.self.invariant.0) in
    let placed = digits_placed d.written n c.args.number d.bytes c.put_digits.new.out fits
    c.put_digits.ensures in
    let same : length c.put_digits.new.out ≡ n = ap (λ (t : List ℕ). length t) placed
    ∙ length-digits n c.args.number in
    let inside : d.written ≤ length d.bytes = omega (arith, fits) in (
      length_placed d.written n d.bytes c.put_digits.new.out fits same ∙ c.self.invariant.0,
      omega (arith, start),
      field_rest g.row.SIZE d.written n d.bytes c.put_digits.new.out inside same c.self.invariant.2,
    )
