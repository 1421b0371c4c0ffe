-- The record and the reply come after the others.
use Rattle.std.proofs.Common.{refl}
use Rattle.branch_loader.proofs.Following.{waits_more}
use Rattle.branch_loader.proofs.followers.Waiting.push.Goals as goal

pub returns : goal.returns
returns c = record {
  waits = λ entries it at.
      waits_more c.args.self.now.moment c.args.self.now.records.items _ c.args.self.now.replies.items _ entries _
      c.encode_request.result c.encode_reply.result it at c.push.ensures.items c.push-2.ensures.items
      c.encode_request.ensures.spelling c.encode_reply.ensures.spelling;
  posted = refl;
}
