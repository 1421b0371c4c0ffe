-- Bytes are appended one by one.
use Rattle.std.proofs.Common.{◌≡◌, ◌++◌, drop}
use Rattle.std.specs.Prelude.{IsTrue}
use Rattle.message_records.specs.believed.Records.{is_printable}
use Rattle.posting_sheets.proofs.quoting.push_text.Given as goal

-- those that are left are to stand after what is there
abbrev pub invariant-loop-byte : goal.invariant-loop-byte
invariant-loop-byte g l = (l.line.bytes ++ drop l.byte-index l.text ≡ l.fn.line.bytes ++ l.text)
    × IsTrue (is_printable (drop l.byte-index l.text))
