-- What is answered to a closing of numbers.
use Rattle.std.specs.Prelude.{ℕ, List, Bool, ◌&&◌, nat_le, if◌then◌else◌}
use Rattle.std.specs.List.{list_any}
use Rattle.posting_rules.specs.declared.closed_numbers.Closing.{Closing}
use Rattle.posting_rules.specs.declared.closed_numbers.Closing.TheVariants as answer
use Rattle.posting_rules.specs.declared.rows.ClosingRow.{ClosingRow}
use Rattle.posting_rules.specs.believed.Closings.{are_free, closings}
use Rattle.posting_rules.specs.believed.Commands.{Command}

-- a run has all of these numbers
abbrev pub covers : ℕ → ℕ → ClosingRow → Bool
covers first last r = nat_le r.first first && nat_le last r.last

-- what is answered to a closing of these numbers
abbrev pub closing_for : List ClosingRow → ℕ → ℕ → Closing
closing_for runs first last =
    if are_free runs first last then answer.Closed
    else if list_any (covers first last) runs then answer.Already else answer.Overlaps

abbrev pub closing_after : List Command → ℕ → ℕ → Closing
closing_after log first last = closing_for (closings log) first last
