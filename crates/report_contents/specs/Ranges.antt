-- A range of time, and what the postings of an account before a second add up to.
use Rattle.std.specs.Prelude.{◌≡◌, ℤ, pos, ◌+ℤ◌, ◌≤ℤ◌, Bool, not, ◌&&◌, int_lt, List, filter, map, length, if◌then◌else◌}
use Rattle.posting_rules.specs.believed.Laws.{total}
use Rattle.walked_rows.specs.declared.stated.StatedPosting.{StatedPosting}
use Rattle.report_contents.specs.declared.range.Range.{Range}
use Rattle.report_contents.specs.declared.range_sums.RangeSums.{RangeSums}

-- the posting was made before this second
abbrev pub is_before : ℤ → StatedPosting → Bool
is_before second s = int_lt (pos s.posting.moment) second

-- it was made in the range: not before its first second, and before its end
abbrev pub is_within : Range → StatedPosting → Bool
is_within range s = not (is_before range.from s) && is_before range.until s

-- its amount, where it was made before this second
abbrev pub amount_before : ℤ → StatedPosting → ℤ
amount_before second s = if is_before second s then s.posting.delta else pos 0

-- what the postings before a second add up to
abbrev pub sum_before : ℤ → List StatedPosting → ℤ
sum_before second rows = total (map (λ s. s.posting.delta) (filter (is_before second) rows))

-- these postings were added: those before the range, and those up to its end
pub record HasSummed (wanted : Range) (sums : RangeSums) (rows : List StatedPosting) : Type 0 where
  pub range : sums.range ≡ wanted
  pub count : sums.count ≡ length rows
  pub before : sums.before ≡ sum_before wanted.from rows
  pub until : sums.until ≡ sum_before wanted.until rows

-- the balance before a range, and what was posted in it, make the balance at its end
abbrev pub RangesAddUp : Type 0
RangesAddUp = (range : Range) → range.from ≤ℤ range.until → (rows : List StatedPosting)
    → sum_before range.until rows ≡ sum_before range.from rows
    +ℤ total (map (λ s. s.posting.delta) (filter (is_within range) rows))
