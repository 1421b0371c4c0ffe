use Rattle.std.specs.Io.KnownBytes.{Consumes}
use Rattle.posting_core.proofs.Telling.{HasMade}
use Rattle.branch_loader.proofs.text.read_text.Given as goal

-- the text so far was read, by one read a turn
abbrev pub invariant-reads : goal.invariant-reads
invariant-reads g l = record {
  read : Consumes (g.R.Source.remaining l.fn.reader) (g.R.Source.remaining l.reader) l.text.items;
  made : HasMade (g.R.Source.calls l.fn.reader) (g.R.Source.calls l.reader) l.counter;
}
