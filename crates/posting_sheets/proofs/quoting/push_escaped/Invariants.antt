-- Bytes are appended one by one.
use Rattle.std.proofs.Common.{◌≡◌, ◌≤◌, ◌+◌, ◌*◌, ◌++◌, drop, length}
use Rattle.std.specs.Prelude.{IsTrue}
use Rattle.csv.specs.Writing.{default_writer, escaped}
use Rattle.message_records.specs.believed.Records.{is_printable}
use Rattle.posting_sheets.proofs.quoting.push_escaped.Given as goal

-- those that are left are to stand after what is there
abbrev pub invariant-loop-byte : goal.invariant-loop-byte
invariant-loop-byte l = record {
  bytes : l.line.bytes ++ escaped default_writer (drop l.byte-index l.text)
      ≡ l.fn.line.bytes ++ escaped default_writer l.text;
  printable : IsTrue (is_printable (drop l.byte-index l.text));
  room : length l.line.bytes + 2 * length (drop l.byte-index l.text) ≤ length l.fn.line.bytes + 2 * length l.text;
}
