-- What it means that a request and a posting agree.
use Rattle.std.proofs.Common.{refl, rules}
use Rattle.report_contents.proofs.Lists.{same_words}
use Rattle.report_contents.proofs.matching.agree.Goals as goal

pub returns : goal.returns
returns c =
    let h = c.args.posting.now in
    let r = c.args.request.now in
    let account = same_words h.account r.account (search rules) (search rules) in
    let teller = same_words h.teller r.teller (search rules) (search rules) in
    let branch = same_words h.branch r.branch (search rules) (search rules) in
    let delta = same_words h.delta r.delta (search rules) (search rules) in
    rw (account, teller, branch, delta) refl
