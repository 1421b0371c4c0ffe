-- Characters are appended one by one.
use Rattle.std.proofs.Common.{◌≡◌, ◌++◌, ◌+◌, replicate, length}
use Rattle.report_contents.proofs.lines.push_repeated.Given as goal

-- so many stand after what was there
abbrev pub invariant-repeats : goal.invariant-repeats
invariant-repeats g l = (l.line.bytes ≡ l.fn.line.bytes ++ replicate l.counter l.character)
    × (length l.line.bytes ≡ length l.fn.line.bytes + l.counter)
