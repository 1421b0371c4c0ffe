-- The line of one branch more was hashed.
use Rattle.std.proofs.Common.{rules, ◌≡◌, ◌++◌, ◌∙◌, ℕ, List, map, ap, subst}
use Rattle.std.proofs.Common.{append_assoc}
use Rattle.sha2.specs.Hashers.{Holds256}
use Rattle.walked_rows.specs.{Stored.branch_entry, StoredBeside.floor_entry}
use Rattle.bank_replays.specs.Writing.{plan_line, plan_lines}
use Rattle.bank_replays.proofs.Planned.{line_more}
use Rattle.bank_replays.proofs.plan_digests.HashingVisitorStoredBranchSha256.visit.Goals as goal

pub returns-clause-visited : goal.returns-clause-visited
returns-clause-visited c first rows visited message holds =
    let row = c.args.row in
    let those = map floor_entry c.args.self.now.lines.floors.items in
    let before = plan_lines those (map branch_entry rows) in
    let text : c.as_str.result.now ≡ plan_line those (branch_entry row) = search rules in
    subst (Holds256 c.update.new.self)
    (append_assoc message before c.as_str.result.now
    ∙ ap (λ (l : List ℕ). message ++ l) (ap (λ (l : List ℕ). before ++ l) text ∙ line_more those rows row))
    (c.update.ensures (message ++ before) (visited message holds))
