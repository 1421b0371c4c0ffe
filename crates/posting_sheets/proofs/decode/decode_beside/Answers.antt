-- The sheet of postings can't be read.
use Rattle.std.proofs.Common.{◌≡◌, inl, refl, rules}
use Rattle.posting_core.proofs.Telling.{adds-none}
use Rattle.posting_sheets.specs.{Sheets.sheet_of}
use Rattle.posting_sheets.proofs.Begun.{beside-ends, no_memory, nothing-beside}
use Rattle.posting_sheets.specs.declared.fault.RepliesFault.TheVariants as Fault
use Rattle.posting_sheets.proofs.decode.decode_beside.Goals as goal

pub returns-in-Err-Csv-clause-decodes : goal.returns-in-Err-Csv-clause-decodes
returns-in-Err-Csv-clause-decodes g c =
    nothing-beside _ _ _ c.read_text.ensures.read.0 _ _ Fault.Sheet c.read_text.ensures.read.1 (refl, refl, refl)

pub returns-in-Err : goal.returns-in-Err
returns-in-Err g c = record {
  decodes = nothing-beside _ _ _ c.read_text.ensures.read.0 _ _ Fault.Memory c.read_text.ensures.read.1
      (no_memory c.args.money (sheet_of c.read_text.ensures.read.0));
  ends = inl (adds-none _);
}

-- it was read
pub returns-clause-decodes : goal.returns-clause-decodes
returns-clause-decodes g c =
    let stated = c.in-Ok.ensures.read in
    let same : c.deref.result.now ≡ stated.0 = search rules in
    let d = c.decode_beside_text.ensures.decodes in record {
      text = c.deref.result.now;
      stated = rw same stated.1;
      replies = d.replies;
      are_replies = d.are_replies;
      answer = d.answer;
      rest = d.rest;
      read = d.read;
      written = d.written;
      wrote = d.wrote;
      decoded = d.decoded;
    }

pub returns-clause-ends : goal.returns-clause-ends
returns-clause-ends g c =
    beside-ends c.decode_beside_text.result _ _ _ _ _ _ _ _ c.in-Ok.ensures.end c.in-Ok.ensures.ended
    c.decode_beside_text.ensures.ends
