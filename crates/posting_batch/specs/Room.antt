-- Room in a list, and in the lists of slots.
use Rattle.std.specs.Prelude.{◌≡◌, ◌≤◌, ◌+◌, ◌*◌, [], ℕ}
use Rattle.smallvec.specs.SmallVec.{SmallVec, HasRoomFor, small_vec_len}
use Rattle.posting_batch.specs.declared.overlay.Overlay.{Overlay}

-- it is empty, and has room for so many
pub record IsRoomFor {T : Type 0} (count : ℕ) (items : SmallVec T) : Type 0 where
  pub empty : items.items ≡ []
  pub room : count ≤ items.capacity

-- there is room for the slots of so many records, which touch two branches each at most
pub record HasRoomForSlots (count : ℕ) (o : Overlay) : Type 0 where
  pub branches : HasRoomFor o.branches (2 * count)
  pub floors : HasRoomFor o.floors count
  pub tellers : HasRoomFor o.tellers count
  pub accounts : HasRoomFor o.accounts count
  pub kept : HasRoomFor o.kept count

-- so many more at most lie in the room that was there
abbrev pub AddsAtMost : {T : Type 0} → ℕ → SmallVec T → SmallVec T → Type 0
AddsAtMost count old new = (small_vec_len new ≤ small_vec_len old + count) × (new.capacity ≡ old.capacity)

-- the slots of one record more lie there
pub record AddsSlots (old new : Overlay) : Type 0 where
  pub branches : AddsAtMost 2 old.branches new.branches
  pub floors : AddsAtMost 1 old.floors new.floors
  pub tellers : AddsAtMost 1 old.tellers new.tellers
  pub accounts : AddsAtMost 1 old.accounts new.accounts
  pub kept : AddsAtMost 1 old.kept new.kept
