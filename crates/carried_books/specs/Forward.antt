-- What a desk may post.
use Rattle.std.specs.Prelude.{◌≡◌, ℕ, List, true, ◌||◌, ◌==◌}
use Rattle.message_records.specs.believed.Records.{RequestFields}
use Rattle.posting_rules.specs.declared.rows.ClosingRow.{ClosingRow}
use Rattle.posting_rules.specs.believed.Closings.{is_closed_in}
use Rattle.posting_rules.specs.believed.Commands.{number_key}
use Rattle.posting_rules.specs.believed.Numbering.{branch_of_teller}

-- it is of a teller of the desk, or of a number that was used
abbrev pub IsAllowed : ℕ → List ClosingRow → RequestFields → Type 0
IsAllowed desk used r =
    ((branch_of_teller r.teller == desk) || is_closed_in used (number_key r.teller r.number)) ≡ true
