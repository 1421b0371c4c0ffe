-- Spaces from the end on.
use Rattle.std.proofs.Common.{◌≡◌, ◌+◌, length, take}
use Rattle.posting_sheets.specs.References.{trimmed}
use Rattle.posting_sheets.proofs.quoting.trimmed.Given as goal

-- what is after the first bytes falls away
abbrev pub invariant-spaces : goal.invariant-spaces
invariant-spaces l = record {
  count : l.len + l.counter ≡ length l.text;
  same : trimmed (take l.len l.text) ≡ trimmed l.text;
}
