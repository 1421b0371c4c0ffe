-- The line of one row more was hashed.
use Rattle.std.proofs.Common.{rules, ◌≡◌, ◌++◌, ◌∙◌, ℕ, List, map, ap, subst}
use Rattle.std.proofs.Common.{append_assoc}
use Rattle.sha2.specs.Hashers.{Holds256}
use Rattle.walked_rows.specs.StoredBeside.{closing_entry}
use Rattle.bank_replays.specs.ClosingDigests.{closing_line, closing_lines}
use Rattle.bank_replays.proofs.Closed.{closing_more}
use Rattle.bank_replays.proofs.closing_digests.ClosingLinesVisitorStoredClosingSha256.visit.Goals as goal

pub returns-clause-visited : goal.returns-clause-visited
returns-clause-visited c first rows visited message holds =
    let row = c.args.row in
    let before = closing_lines (map closing_entry rows) in
    let text : c.as_str.result.now ≡ closing_line (closing_entry row) = search rules in
    subst (Holds256 c.update.new.self)
    (append_assoc message before c.as_str.result.now
    ∙ ap (λ (l : List ℕ). message ++ l) (ap (λ (l : List ℕ). before ++ l) text ∙ closing_more rows row))
    (c.update.ensures (message ++ before) (visited message holds))
