-- The sheet isn't opened, or it is read beside the replies.
use Rattle.std.proofs.Common.{inl, inr, refl}
use Rattle.std.proofs.KnownBytes.{Keeps-refl}
use Rattle.command_line.proofs.translating.translate_beside.Goals as goal

pub returns-in-Err : goal.returns-in-Err
returns-in-Err g c =
    inl (record {
      fault = c.of_sheet_file.result;
      ended = refl;
      of_sheet = c.of_sheet_file.ensures.kind;
      unread = refl;
      unwritten = Keeps-refl _;
    })

pub returns-in-Ok-decode_beside : goal.returns-in-Ok-decode_beside
returns-in-Ok-decode_beside g c =
    inr (
      c.in-Ok.postings,
      c.decode_beside.new.postings,
      c.in-Ok.ensures.named,
      record {
        replies = c.decode_beside.result;
        decodes = c.decode_beside.ensures.decodes;
        ends = c.decode_beside.ensures.ends;
        ended = rw c.in-Ok-decode_beside.is refl;
      },
    )

pub returns : goal.returns
returns g c =
    inr (
      c.in-Ok.postings,
      c.decode_beside.new.postings,
      c.in-Ok.ensures.named,
      record {
        replies = c.decode_beside.result;
        decodes = c.decode_beside.ensures.decodes;
        ends = c.decode_beside.ensures.ends;
        ended = rw (c.in-Err-decode_beside.is, c.from.ensures) refl;
      },
    )
