-- Testing bytes from the first one.
use Rattle.std.proofs.Common.{◌≡◌, drop}
use Rattle.message_records.specs.believed.Records.{is_printable}
use Rattle.message_records.proofs.reference.is_printable.Given as goal

-- the bytes that are left decide
abbrev pub invariant-loop-byte : goal.invariant-loop-byte
invariant-loop-byte l = is_printable l.text ≡ is_printable (drop l.byte-index l.text)
