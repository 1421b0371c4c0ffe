-- Writing digits from the last one.
use Rattle.std.proofs.Common.{◌≡◌, ◌++◌, drop, length}
use Rattle.message_records.specs.believed.Spelling.{digits}
use Rattle.message_records.proofs.draft.put_digits.Given as goal

-- the digits that are left complete the number
abbrev pub invariant-loop-place : goal.invariant-loop-place
invariant-loop-place l = digits l.place l.rest ++ drop l.place l.out ≡ digits (length l.fn.out) l.number
