-- What was opened is one command more.
use Rattle.std.proofs.Common.{rules, ◌≡◌, ◌∷◌, ℕ, Some, sym, subst}
use Rattle.std.specs.Prelude.{◌&&◌, nat_le}
use Rattle.message_records.specs.believed.Ranges.{whole_within}
use Rattle.message_records.specs.declared.limits.TheConstants.{MAX_BRANCH}
use Rattle.posting_rules.specs.believed.Commands.{Open, opened_with}
use Rattle.posting_rules.specs.believed.Counter.{ShowsLog}
use Rattle.posting_rules.proofs.Verdicts.{when}
use Rattle.bank_store.specs.believed.Seen.{bank_seen}
use Rattle.bank_replays.proofs.refill.open_planned.Goals as goal

-- the branch is the one of the number
branch_is : (n m : ℕ) → whole_within 1 MAX_BRANCH n ≡ Some m → n ≡ m
branch_is n m is = (when (nat_le 1 n && nat_le n MAX_BRANCH) n m is).1

pub returns-in-Ok-clause-opens : goal.returns-in-Ok-clause-opens
returns-in-Ok-clause-opens g c sure can log shows =
    let call = c.in-Ok.ensures.call in
    let here : whole_within 1 MAX_BRANCH c.args.branch ≡ Some c.in-Some.branch = search rules in
    subst (λ (b : ℕ). ShowsLog (bank_seen g.T.Store c.open_branch.new.self)
    (Open b (opened_with c.args.planned.accounts c.args.planned.floor) ∷ log))
    (sym (branch_is c.args.branch c.in-Some.branch here))
    (call.done.shows (sure.clean c.open_branch.new.self.conn) log shows)

pub returns-in-Ok-clause-spares : goal.returns-in-Ok-clause-spares
returns-in-Ok-clause-spares g c none = absurd (none (search rules))
