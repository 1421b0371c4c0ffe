-- There is no sheet beside the replies.
use Rattle.std.proofs.Common.{None}
use Rattle.posting_sheets.proofs.decode.decode_replies.Goals as goal

pub returns-clause-decodes : goal.returns-clause-decodes
returns-clause-decodes g c =
    let d = c.decode_lines.ensures.decodes None tt in record {
      replies = d.replies;
      are_replies = d.are_replies;
      rest = d.rest;
      read = d.read;
      written = d.written;
      wrote = d.wrote;
      decoded = d.decoded;
    }

pub returns-clause-ends : goal.returns-clause-ends
returns-clause-ends g c = c.decode_lines.ensures.ends None tt
