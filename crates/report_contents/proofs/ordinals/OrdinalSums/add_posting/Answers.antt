-- One more posting.
use Rattle.std.proofs.Common.{rules, length, w64, FitsSigned}
use Rattle.std.specs.List.{filter}
use Rattle.report_contents.specs.Beside.{delta_in, is_odd}
use Rattle.report_contents.proofs.OneMore.{sum_more_64, alone_more}
use Rattle.report_contents.proofs.ordinals.OrdinalSums.add_posting.Goals as goal

pub returns : goal.returns
returns c =
    let fit : FitsSigned w64 c.args.posting.delta = search rules in
    record {
      added = λ requests history h.
          record {
            requests = h.requests;
            history = sum_more_64 delta_in c.args.self.now.history c.plus.result history
                (c.args.posting, c.args.request) fit h.history c.plus.ensures.count c.plus.ensures.sum;
            unmatched = alone_more history c.args.posting c.args.request c.is_none.result
                c.args.self.now.unmatched (length (filter is_odd requests)) c.from-alone.result
                c.is_none.ensures c.from-alone.ensures h.unmatched;
          };
    }
