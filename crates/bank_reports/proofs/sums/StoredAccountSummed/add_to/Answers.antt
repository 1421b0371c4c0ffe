-- One more account.
use Rattle.std.proofs.Common.{rules, w64, FitsSigned}
use Rattle.report_contents.specs.Audit.{account_balance}
use Rattle.report_contents.proofs.OneMore.{sum_more_64}
use Rattle.bank_reports.proofs.sums.StoredAccountSummed.add_to.Goals as goal

pub returns : goal.returns
returns c rows given h =
    let fit : FitsSigned w64 c.args.self.balance = search rules in
    record {
      tellers = h.tellers;
      branches = h.branches;
      accounts = sum_more_64 account_balance c.args.sums.now.accounts c.plus-sums.result given c.args.self fit
          h.accounts c.plus-sums.ensures.count c.plus-sums.ensures.sum;
      ordinals = h.ordinals;
    }
