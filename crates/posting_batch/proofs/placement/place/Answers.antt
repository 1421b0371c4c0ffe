use Rattle.std.proofs.Common.{◌≡◌, ◌∙◌, List, Result, Ok, Err, ap, sym, refl, get_or, length, arith}
use Rattle.std.specs.{List.insert, Prelude.IsOk, Prelude.OnOk}
use Rattle.posting_batch.specs.Placed.{placed, rank}
use Rattle.posting_batch.proofs.Ranks.{placed_hit, placed_miss, placed_last}
use Rattle.posting_batch.proofs.placement.place.Goals as goal
use Rattle.posting_batch.proofs.placement.place.Goals.{else-before-len-via-then-before-len+else-is_same}
use Rattle.posting_batch.proofs.placement.place.Goals.{else-before-len-via-else-before-len}

given : {A E P : Type 0} (r : Result A E) → IsOk r → OnOk r P → P
given (Ok x) ok p = p
given (Err e) ok p = absurd cc

pub returns-then-is_same-clause-items : goal.returns-then-is_same-clause-items
returns-then-is_same-clause-items g c =
    let below = g.T.Ranked.below in
    let at = c.rank-before.ensures.value ∙ ap (rank below c.args.empty) c.as_slice.ensures in
    placed_hit below g.T.Ranked.same c.args.empty c.args.slots.now.items c.rank-before.result
    c.index-deref-before.result at (omega (arith, c.if-before-len.true, c.len.ensures))
    (c.index-deref-before.is ∙ ap (λ (xs : List g.row.T.Denot). get_or xs c.rank-before.result
    c.index-deref-before.result) c.deref.ensures)
    (sym c.is_same.ensures ∙ c.if-is_same.true)

pub returns-clause-items : goal.returns-clause-items
returns-clause-items g c =
    let below = g.T.Ranked.below in
    let same = g.T.Ranked.same in
    let e = c.args.empty in
    let xs = c.args.slots.now.items in
    let b = c.rank-before.result in
    let at = c.rank-before.ensures.value ∙ ap (rank below e) c.as_slice.ensures in
    let put : c.insert.new.self.items ≡ insert xs b e =
    given c.insert.result (c.insert.ensures.succeeds (omega (arith, c.requires))) c.insert.ensures.ok in
    let end : insert xs b e ≡ placed below same e xs = elim c.else-before-len.branch [
      | else-before-len-via-then-before-len+else-is_same w ↦
          placed_miss below same e xs b w.index-deref-before.result at
          (omega (arith, w.if-before-len.true, c.len.ensures))
          (w.index-deref-before.is
          ∙ ap (λ (ys : List g.row.T.Denot). get_or ys b w.index-deref-before.result) w.deref.ensures)
          (sym w.is_same.ensures ∙ w.if-is_same.false)
      | else-before-len-via-else-before-len w ↦ placed_last below same e xs b at
          (omega (arith, w.if-before-len.false, c.len.ensures))
    ] in
    put ∙ end

pub returns-clause-len : goal.returns-clause-len
returns-clause-len g c =
    let is = given c.insert.result (c.insert.ensures.succeeds (omega (arith, c.requires))) c.insert.ensures.len in
    omega (arith, is)

pub returns-clause-capacity : goal.returns-clause-capacity
returns-clause-capacity g c = c.insert.ensures.had_room (omega (arith, c.requires))

pub returns-then-is_same-clause-len : goal.returns-then-is_same-clause-len
returns-then-is_same-clause-len g c = omega arith

pub returns-then-is_same-clause-capacity : goal.returns-then-is_same-clause-capacity
returns-then-is_same-clause-capacity g c = refl

pub insert-requires : goal.insert-requires
insert-requires g c =
    let same = ap (λ (xs : List g.row.T.Denot). length xs) c.as_slice.ensures in
    omega (arith, c.rank-before.ensures.within, same)
