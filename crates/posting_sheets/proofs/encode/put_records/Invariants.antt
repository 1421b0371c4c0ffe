use Rattle.branch_loader.specs.Records.{Records}
use Rattle.posting_sheets.proofs.Sheeted.{IsPutUpTo}
use Rattle.posting_sheets.proofs.encode.put_records.Given as goal

-- the records of so many rows are put after the bytes
abbrev pub invariant-rows : goal.invariant-rows
invariant-rows g l = record {
  plain : g.S.RecordSource.is_plain l.source;
  put : (all : Records) → g.S.RecordSource.has_left l.fn.source all
      → IsPutUpTo (g.S.RecordSource.has_left l.source) all l.form l.count l.fn.records.items l.records.items;
}
