-- A table in which each place is empty.
use Rattle.std.proofs.Common.{◌≡◌, ◌<◌, ◌*◌, ◌%◌, ◌^◌, ◌++◌, ℕ, List, [], None, Option, arith, ap, take, replicate}
use Rattle.std.proofs.Math.Pow.{pow-lt}
use Rattle.std.proofs.lemmas.{Grind.common_steps, Nat.pow_pos}
use Rattle.std.specs.Prelude.{slice_index_or}
use Rattle.bank_transactions.specs.Known.{known_under, value_for}
use Rattle.bank_transactions.proofs.known_rows.table.Known.with_places.Goals as goal

counted : (bits : ℕ) → bits < 64 → 1 * 2 ^ bits % 18446744073709551616 ≡ 2 ^ bits
counted bits few = let small : 2 ^ bits < 18446744073709551616 = pow-lt few in omega arith

empty_at : {A : Type 0} (old new : List (Option A)) (n k i : ℕ) → old ≡ [] → new ≡ take n old ++ replicate k None
    → slice_index_or new i None ≡ None
empty_at old new n k i none is = grind (arith, common_steps)

pub overflow_sub-table : goal.overflow_sub-table
overflow_sub-table g c =
    let count = counted c.args.bits c.requires in
    let some = pow_pos c.args.bits in
    omega arith

pub invariant_of-table : goal.invariant_of-table
invariant_of-table g c =
    let count = counted c.args.bits c.requires in
    let some = pow_pos c.args.bits in
    record {
      whole = omega (arith, c.in_ok-resize.ensures.len);
      until = λ i. rw (empty_at c.new-entries.result.items c.resize.new.self.items _ _ i c.new-entries.ensures.items
          c.in_ok-resize.ensures.items) (omega arith);
    }

pub returns-clause-nothing : goal.returns-clause-nothing
unfolding known_under
returns-clause-nothing g c key =
    ap (value_for 0 key) (empty_at c.new-entries.result.items c.resize.new.self.items _ _ _ c.new-entries.ensures.items
    c.in_ok-resize.ensures.items)
