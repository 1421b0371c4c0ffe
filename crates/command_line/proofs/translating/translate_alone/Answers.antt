use Rattle.std.proofs.Common.{refl}
use Rattle.command_line.proofs.translating.translate_alone.Goals as goal

pub returns-in-Ok : goal.returns-in-Ok
returns-in-Ok g c = record {
  replies = c.decode_replies.result;
  decodes = c.decode_replies.ensures.decodes;
  ends = c.decode_replies.ensures.ends;
  ended = rw c.in-Ok.is refl;
}

pub returns-in-Err : goal.returns-in-Err
returns-in-Err g c = record {
  replies = c.decode_replies.result;
  decodes = c.decode_replies.ensures.decodes;
  ends = c.decode_replies.ensures.ends;
  ended = rw (c.in-Err.is, c.from.ensures) refl;
}
