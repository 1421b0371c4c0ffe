-- Testing bytes from the first one.
use Rattle.std.proofs.Common.{◌≡◌, drop}
use Rattle.csv.specs.Writing.{default_writer, needs_quotes}
use Rattle.posting_sheets.proofs.quoting.needs_quotes.Given as goal

-- the bytes that are left decide
abbrev pub invariant-loop-byte : goal.invariant-loop-byte
invariant-loop-byte l = needs_quotes default_writer l.text ≡ needs_quotes default_writer (drop l.byte-index l.text)
