-- The row of the floor, where there is one.
use Rattle.std.proofs.Common.{◌≡◌, None, [], ◌∷◌, ap, inl, refl}
use Rattle.std.specs.Prelude.{is_some, Some}
use Rattle.posting_rules.specs.believed.{Changes.with_floor, Tables.row_at, Tables.floor_key}
use Rattle.posting_rules.proofs.ChangesByKey.{no_floor_more}
use Rattle.store_rows.specs.believed.{BankTables.floor, SeveralRows.given, View.floor_entry, Inserts.floor_insert}
use Rattle.posting_rules.specs.declared.rows.FloorRow.{FloorRow}
use Rattle.bank_transactions.specs.believed.{Additions.AddsFloor, Ran.NewFloor}
use Rattle.bank_transactions.proofs.Leading.{alone, lead_one, puts_each}
use Rattle.bank_transactions.proofs.Running.{writes_add, writes_for, writes_none}
use Rattle.bank_transactions.proofs.Left.{leaves_add, leaves_for, leaves_none}
use Rattle.bank_transactions.proofs.Exits.{survives_itself}
use Rattle.bank_transactions.proofs.new_branch.add_its_floor.Goals as goal

pub returns-in_default-clause-writes : goal.returns-in_default-clause-writes
returns-in_default-clause-writes g c =
    rw c.in_default.is (writes_for (writes_none (survives_itself _)) (λ t free. (free, no_floor_more c.args.branch t)))

pub returns-clause-writes : goal.returns-clause-writes
returns-clause-writes g c =
    let b = c.args.branch in
    let lowest = c.in-Some.lowest in
    let row : FloorRow = record { branch = b; lowest = lowest } in
    let values = given (floor_entry row) in
    rw c.in-Some.is (writes_add {So = λ t. row_at floor_key t.floors b ≡ None} (AddsFloor b (Some lowest)) g.S.Store _ _
    floor_insert values (with_floor b (Some lowest)) (lowest, refl, refl, refl)
    (λ t free. lead_one (NewFloor (puts_each (floor_insert ∷ []) floor_insert (row ∷ []) (inl refl) (alone values) t))) floor
    (λ t. is_some (row_at floor_key t.floors b)) c.add_floor.result c.add_floor.ensures (λ t free. ap is_some free))

pub returns-in_default-clause-leaves : goal.returns-in_default-clause-leaves
returns-in_default-clause-leaves g c =
    rw c.in_default.is (leaves_for leaves_none (λ t. no_floor_more c.args.branch t))

pub returns-clause-leaves : goal.returns-clause-leaves
returns-clause-leaves g c =
    let b = c.args.branch in
    rw c.in-Some.is (leaves_add g.S.Store _ _ floor (λ t. is_some (row_at floor_key t.floors b))
    (with_floor b (Some c.in-Some.lowest)) c.add_floor.result c.add_floor.ensures)
