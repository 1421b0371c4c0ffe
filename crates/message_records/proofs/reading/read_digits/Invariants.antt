-- Reading digits from the first one.
use Rattle.std.proofs.Common.{◌≡◌, ◌<◌, ◌^◌, drop}
use Rattle.message_records.specs.believed.Reading.{number_after}
use Rattle.message_records.proofs.reading.read_digits.Given as goal

-- the digits that are left complete the number
abbrev pub invariant-loop-digit : goal.invariant-loop-digit
invariant-loop-digit l = record {
  completes : number_after l.number (drop l.digit-index l.digits) ≡ number_after 0 l.digits;
  below : l.number < 10 ^ l.digit-index;
}
