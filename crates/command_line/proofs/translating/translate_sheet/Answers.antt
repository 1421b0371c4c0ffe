use Rattle.std.proofs.Common.{refl}
use Rattle.command_line.proofs.translating.translate_sheet.Goals as goal

pub returns-in-Ok : goal.returns-in-Ok
returns-in-Ok g c = record {
  sheet = c.encode_sheet.result;
  encodes = c.encode_sheet.ensures.encodes;
  ends = c.encode_sheet.ensures.ends;
  ended = rw c.in-Ok.is refl;
}

pub returns-in-Err : goal.returns-in-Err
returns-in-Err g c = record {
  sheet = c.encode_sheet.result;
  encodes = c.encode_sheet.ensures.encodes;
  ends = c.encode_sheet.ensures.ends;
  ended = rw (c.in-Err.is, c.from.ensures) refl;
}
