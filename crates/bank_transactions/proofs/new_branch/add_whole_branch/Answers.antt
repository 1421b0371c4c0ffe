-- A branch with its rows, then its floor.
use Rattle.std.proofs.Common.{ℕ, ℤ, List, Option, None, refl, inl, inr}
use Rattle.sqlite.specs.Order.{Row}
use Rattle.bank_transactions.specs.believed.Additions.{AddsBranch}
use Rattle.posting_rules.specs.believed.{Commands.opened_with, Tables.Tables}
use Rattle.posting_rules.specs.believed.AnyTables.{HasRoomToOpen}
use Rattle.bank_transactions.proofs.OpeningRows.{floor_apart}
use Rattle.bank_transactions.proofs.Running.{writes_adds, writes_err, writes_for, writes_then}
use Rattle.bank_transactions.proofs.Left.{leaves_err, leaves_then}
use Rattle.bank_transactions.proofs.Exits.{handed_on}
use Rattle.bank_transactions.proofs.new_branch.add_whole_branch.Goals as goal

-- where there is room with a floor there is without one
without_floor : (b count : ℕ) (floor : Option ℤ) (t : Tables) → HasRoomToOpen b (opened_with count floor) t
    → HasRoomToOpen b (opened_with count None) t
without_floor b count floor t room = record { tellers = room.tellers; accounts = room.accounts; floor = tt }

-- what is put in without a floor is put in with one too
with_its_floor : (b count : ℕ) (floor : Option ℤ) (text : List ℕ) (values : Row)
    → AddsBranch b (opened_with count None) text values → AddsBranch b (opened_with count floor) text values
with_its_floor b count floor text values (inl it) = inl it
with_its_floor b count floor text values (inr (inl it)) = inr (inl it)
with_its_floor b count floor text values (inr (inr (inl it))) = inr (inr (inl it))
with_its_floor b count floor text values (inr (inr (inr none))) = absurd (let is = none.1 in cc)

pub returns-in_err-add_branch_with_rows-clause-writes : goal.returns-in_err-add_branch_with_rows-clause-writes
returns-in_err-add_branch_with_rows-clause-writes g c =
    let same = handed_on c.from_residual.result c.from_residual.ensures.1 in
    rw same (writes_err (writes_adds (λ clean. with_its_floor c.args.branch c.args.count c.args.floor)
    c.in_err-add_branch_with_rows.ensures.writes) (λ t new. (without_floor _ _ _ t new.0, new.1)))

pub returns-clause-writes : goal.returns-clause-writes
returns-clause-writes g c =
    let b = c.args.branch in
    let count = c.args.count in
    let floor = c.args.floor in
    writes_for (writes_then (writes_for (writes_adds (λ clean. with_its_floor b count floor)
    c.in_ok-add_branch_with_rows.ensures.writes) (λ t new. ((without_floor b count floor t new.0, new.1), refl)))
    (writes_adds (λ clean text values own. inr (inr (inr own))) c.add_its_floor.ensures.writes)
    (λ t new. floor_apart t b count floor new.0.floor))
    (λ t new. (new, refl))

pub returns-in_err-add_branch_with_rows-clause-leaves : goal.returns-in_err-add_branch_with_rows-clause-leaves
returns-in_err-add_branch_with_rows-clause-leaves g c =
    let same = handed_on c.from_residual.result c.from_residual.ensures.1 in
    rw same leaves_err

pub returns-clause-leaves : goal.returns-clause-leaves
returns-clause-leaves g c =
    leaves_then c.in_ok-add_branch_with_rows.ensures.writes.does c.add_its_floor.ensures.writes.does
    c.in_ok-add_branch_with_rows.ensures.leaves c.add_its_floor.ensures.leaves
