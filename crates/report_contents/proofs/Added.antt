-- One more posting beside a range.
use Rattle.std.proofs.Common.{◌≡◌, ◌+◌, Bool, true, false, cond, List, [], ◌∷◌, ◌++◌, map, filter, refl, ap}
use Rattle.std.proofs.Common.{sym, ◌∙◌, append-nil, arith}
use Rattle.std.specs.Prelude.{ℤ, pos, ◌+ℤ◌, ◌&&◌, not, int_lt}
use Rattle.std.proofs.lemmas.{Int.ints, List.length-append, List.map-append, List.Elements.filter-append}
use Rattle.posting_rules.specs.believed.Laws.{total}
use Rattle.walked_rows.specs.declared.stated.StatedPosting.{StatedPosting}
use Rattle.report_contents.specs.declared.{range.Range.Range, range_sums.RangeSums.RangeSums}
use Rattle.report_contents.specs.Ranges.{HasSummed, RangesAddUp, amount_before, is_before, is_within, sum_before}
use Rattle.report_contents.proofs.OneMore.{total-snoc}

-- it is added where it is before the second
pub sum_before-snoc : (second : ℤ) (rows : List StatedPosting) (s : StatedPosting)
    → sum_before second (rows ++ s ∷ []) ≡ sum_before second rows +ℤ amount_before second s
sum_before-snoc second rows s =
    ap (λ l. total (map delta l)) (filter-append (is_before second) rows (s ∷ []))
    ∙ by_test (is_before second s)
  where
    delta : StatedPosting → ℤ
    delta s = s.posting.delta

    by_test : (b : Bool) → total (map delta (filter (is_before second) rows ++ cond b (s ∷ []) []))
        ≡ sum_before second rows +ℤ cond b s.posting.delta (pos 0)
    by_test true = ap total (map-append delta (filter (is_before second) rows) (s ∷ []))
        ∙ total-snoc (map delta (filter (is_before second) rows)) (delta s)
    by_test false = ap (λ l. total (map delta l)) (append-nil (filter (is_before second) rows))
        ∙ plus_none (sum_before second rows)
      where
        plus_none : (z : ℤ) → z ≡ z +ℤ pos 0
        plus_none z = omega (arith, ints)

pub one_more_summed : (range : Range) (sums sums' : RangeSums) (rows : List StatedPosting) (s : StatedPosting)
    → HasSummed range sums rows → sums'.range ≡ sums.range → sums'.count ≡ sums.count + 1
    → sums'.before ≡ sums.before +ℤ amount_before sums.range.from s
    → sums'.until ≡ sums.until +ℤ amount_before sums.range.until s → HasSummed range sums' (rows ++ s ∷ [])
one_more_summed range sums sums' rows s has same count before until = record {
  range = same ∙ has.range;
  count = count ∙ omega (arith, has.count, length-append rows (s ∷ []));
  before = before ∙ rw (has.range, has.before) (sym (sum_before-snoc range.from rows s));
  until = until ∙ rw (has.range, has.until) (sym (sum_before-snoc range.until rows s));
}

-- a posting before the range is before its end, too
pub ranges_add_up : RangesAddUp
ranges_add_up range order [] = refl
ranges_add_up range order (s ∷ rows) =
    by_tests (is_before range.from s) (is_before range.until s) refl refl (ranges_add_up range order rows)
  where
    delta : StatedPosting → ℤ
    delta s = s.posting.delta

    earlier_too : int_lt (pos s.posting.moment) range.from ≡ true
        → int_lt (pos s.posting.moment) range.until ≡ false → ⊥
    earlier_too one other = grind (arith, ints, order, one, other)

    by_tests : (a b : Bool) → is_before range.from s ≡ a → is_before range.until s ≡ b
        → sum_before range.until rows ≡ sum_before range.from rows +ℤ total (map delta (filter (is_within range) rows))
        → total (map delta (cond b (s ∷ filter (is_before range.until) rows) (filter (is_before range.until) rows)))
        ≡ total (map delta (cond a (s ∷ filter (is_before range.from) rows) (filter (is_before range.from) rows)))
        +ℤ total (map delta (cond (not a && b) (s ∷ filter (is_within range) rows) (filter (is_within range) rows)))
    by_tests true true one other all = omega (arith, ints, all)
    by_tests true false one other all = absurd (earlier_too one other)
    by_tests false true one other all = omega (arith, ints, all)
    by_tests false false one other all = all
