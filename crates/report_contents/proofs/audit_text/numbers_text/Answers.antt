-- Ten lines, one after another.
use Rattle.std.proofs.Common.{rules, [], FitsSigned}
use Rattle.std.specs.Int.{w128}
use Rattle.report_contents.proofs.Joined.{IsText, one_more, one_sum}
use Rattle.report_contents.proofs.audit_text.numbers_text.Goals as goal

pub returns : goal.returns
returns c =
    let a = c.args.audit.now in
    let accounts_fit : FitsSigned w128 a.account_sum = search rules in
    let tellers_fit : FitsSigned w128 a.teller_sum = search rules in
    let branches_fit : FitsSigned w128 a.branch_sum = search rules in
    let history_fits : FitsSigned w128 a.history_sum = search rules in
    let none : IsText c.new-lines.result.bytes [] = record { is = c.new-lines.ensures } in
    let branches = one_more _ none c.push_count.ensures.bytes in
    let tellers = one_more _ branches c.push_count-2.ensures.bytes in
    let accounts = one_more _ tellers c.push_count-3.ensures.bytes in
    let requests = one_more _ accounts c.push_count-4.ensures.bytes in
    let history = one_more _ requests c.push_count-5.ensures.bytes in
    let account_sum = one_sum _ a.account_sum accounts_fit history c.push_line.ensures.bytes in
    let teller_sum = one_sum _ a.teller_sum tellers_fit account_sum c.push_line-2.ensures.bytes in
    let branch_sum = one_sum _ a.branch_sum branches_fit teller_sum c.push_line-3.ensures.bytes in
    let history_sum = one_sum _ a.history_sum history_fits branch_sum c.push_line-4.ensures.bytes in
    (one_more _ history_sum c.push_count-6.ensures.bytes).is
