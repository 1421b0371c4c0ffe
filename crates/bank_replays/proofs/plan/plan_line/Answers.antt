-- The floor is the one that the file has under the branch's number.
use Rattle.std.proofs.Common.{rules, ◌≡◌, ◌∙◌, ℤ, Option, ap}
use Rattle.std.specs.Prelude.{option_map}
use Rattle.posting_rules.specs.believed.Tables.{row_at}
use Rattle.walked_rows.specs.Stored.{branch_entry}
use Rattle.bank_replays.specs.Writing.{branch_of, line_with, lowest_of, text_of_floor}
use Rattle.bank_replays.proofs.Planned.{floor_is}
use Rattle.bank_replays.proofs.plan.plan_line.Goals as goal

pub returns : goal.returns
returns c =
    let row = c.args.row.now in
    let those = c.args.lines.now.floors.items in
    let floor : c.floor_of-floor.result ≡ option_map lowest_of (row_at branch_of those row.branch) = search rules in
    c.line_of.ensures
    ∙ ap (λ (f : Option ℤ). line_with (branch_entry row) (text_of_floor f)) (floor ∙ floor_is those row.branch)
