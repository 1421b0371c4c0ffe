-- A byte from the end on.
use Rattle.std.proofs.Common.{◌≤◌, ◌∙◌, length, sym, arith}
use Rattle.posting_sheets.proofs.Trimmed.{all_kept, one_fewer, printable_front}
use Rattle.posting_sheets.proofs.quoting.trimmed.Goals as goal

pub returns-then-text-len-ne32-clause-value : goal.returns-then-text-len-ne32-clause-value
returns-then-text-len-ne32-clause-value c =
    let it = c.spaces.invariant in
    let some : 1 ≤ c.spaces.len = omega (arith, it.count, c.spaces-test.true) in
    let low : c.spaces.len ≤ length c.args.text.now = omega (arith, it.count) in
    sym (all_kept c.args.text.now c.spaces.len some low c.if-text-len-ne32.true) ∙ it.same

pub returns-then-text-len-ne32-clause-printable : goal.returns-then-text-len-ne32-clause-printable
returns-then-text-len-ne32-clause-printable c = printable_front c.spaces.len c.args.text.now c.requires

pub spaces-preserved : goal.spaces-preserved
spaces-preserved c =
    let it = c.spaces.invariant in
    let some : 1 ≤ c.spaces.len = omega (arith, it.count, c.spaces-test.true) in
    let low : c.spaces.len ≤ length c.args.text.now = omega (arith, it.count) in
    record {
      count = omega (arith, it.count, some);
      same = one_fewer c.args.text.now c.spaces.len some low c.if-text-len-ne32.false ∙ it.same;
    }
