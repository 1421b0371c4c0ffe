use Rattle.std.proofs.Common.{◌≡◌, ◌≤◌, ℕ, List, Some, length, arith, rules}
use Rattle.message_records.specs.believed.Reading.{number_of}
use Rattle.branch_loader.specs.Plans.{number_within}
use Rattle.branch_loader.proofs.read.number_within.Goals as goal

-- digits of a number in the range
number_there : (most : ℕ) (field : List ℕ) (n : ℕ) → 1 ≤ length field → length field ≤ 9
    → Some n ≡ number_of field → 1 ≤ n → n ≤ most
    → Some n ≡ number_within most field
number_there most field n some few is least within = search rules

pub returns-then-value-from : goal.returns-then-value-from
returns-then-value-from c =
    number_there c.args.most c.args.field.now c.in_ok-value.value (search rules) c.if-field-gt9.false
    c.in_ok-value.ensures.value c.if-value-ge1.true (omega arith)
