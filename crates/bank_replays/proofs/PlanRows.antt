-- What the rows of `branch` and of `branch_floor` plan, and that those of a log plan the branches that it opened.
use Rattle.std.proofs.Common.{◌≡◌, ◌∙◌, ◌<◌, ◌≤◌, ◌+◌, ℕ, ℤ, pos, Bool, true, false, cond, eqb, leb, List, [], ◌∷◌, length}
use Rattle.std.proofs.Common.{map, find, replicate, Option, Some, None, refl, sym, ap, subst, inl, inr, arith}
use Rattle.std.specs.Prelude.{◌++◌, IfSome, set, nat_abs, nat_le, option_and_then, option_map}
use Rattle.std.proofs.lemmas.{Bool.leb-false, Bool.leb-true}
use Rattle.std.proofs.lemmas.{Bool.cases_Bool, Bool.eqb-true, List.get_or-replicate, List.get_or_past, List.length-replicate}
use Rattle.std.proofs.lemmas.List.{get_or-set_other, get_or-set_same, length-set}
use Rattle.message_records.specs.believed.Ranges.{cents_within}
use Rattle.message_records.specs.declared.limits.TheConstants.{MAX_BALANCE}
use Rattle.posting_rules.specs.declared.limits.TheConstants.{LAST_BRANCH}
use Rattle.posting_rules.specs.believed.Commands.{IsCommand, IsFloor, Open, Terms}
use Rattle.posting_rules.specs.believed.Tables.{branch_key, branch_row_of, floor_key, floor_row_of, row_at}
use Rattle.posting_rules.specs.declared.rows.{BranchRow.BranchRow, FloorRow.FloorRow}
use Rattle.sql_meanings.specs.believed.Entries.{Entry, Rise, has_key}
use Rattle.sql_meanings.proofs.Places.{all_weaker}
use Rattle.store_rows.specs.believed.Columns.{number_at}
use Rattle.store_rows.specs.believed.View as view
use Rattle.store_rows.proofs.RowLists.{found_row}
use Rattle.walked_rows.proofs.RisingRows.{Rising, not_under, rising_keys}
use Rattle.walked_rows.specs.{Stored.branch_entry, StoredBeside.floor_entry}
use Rattle.walked_rows.specs.declared.{branches.StoredBranch.StoredBranch, floors.StoredFloor.StoredFloor}
use Rattle.bank_replays.specs.Refilling.{IsPlan, IsYet, Plans, changed_by, planned_at, terms_of, with_accounts, with_floor}
use Rattle.bank_replays.specs.Replayed.{accounts_in, planned_in}
use Rattle.bank_replays.specs.declared.{refill.Planned.Planned, refill.Refill.Refill}
use Rattle.sqlite_trees.specs.declared.store.Store.{Ghosts}
use Rattle.bank_replays.proofs.{Filled.apart, Filled.unplanned, Openable.terms_none, Openable.terms_some}

-- ---- what is made of what was planned

module _ {R : Type 0} (branch_of : R → ℕ) (change : R → Planned → Planned) (b : ℕ) where
  changed_none : (rows : List R) (yet : Planned) → row_at branch_of rows b ≡ None
      → changed_by branch_of change b rows yet ≡ yet
  changed_none [] yet none = refl
  changed_none (r ∷ rs) yet none = elim (cases_Bool (eqb (branch_of r) b)) [
    | inl t ↦ absurd (let e = rw t at none in cc)
    | inr f ↦ rw f (changed_none rs yet (rw f at none))
  ]

  changed_some : (rows : List R) (yet : Planned) (r : R) → Rising branch_of rows → row_at branch_of rows b ≡ Some r
      → changed_by branch_of change b rows yet ≡ change r yet
  changed_some [] yet r rise is = absurd cc
  changed_some (x ∷ rs) yet r rise is = elim (cases_Bool (eqb (branch_of x) b)) [
    | inl t ↦
        let same : x ≡ r = (let e = rw t at is in cc) in
        rw t (changed_none rs (change x yet)
        (not_under branch_of b rs (all_weaker (λ y. branch_of x < branch_of y) (λ y. branch_of y ≡ b → ⊥)
        (λ y low at. let here = eqb-true (branch_of x) b t in omega (arith, low, at, here)) rs rise.0))
        ∙ ap (λ (z : R). change z yet) same)
    | inr f ↦ rw f (changed_some rs yet r rise.1 (rw f at is))
  ]

-- one row more
changed_more : {R : Type 0} (branch_of : R → ℕ) (change : R → Planned → Planned) (b : ℕ) (rows : List R) (r : R)
    (yet : Planned) → changed_by branch_of change b (rows ++ r ∷ []) yet
    ≡ cond (eqb (branch_of r) b) (change r (changed_by branch_of change b rows yet)) (changed_by branch_of change b rows yet)
changed_more branch_of change b [] r yet = refl
changed_more branch_of change b (x ∷ rows) r yet =
    changed_more branch_of change b rows r (cond (eqb (branch_of x) b) (change x yet) yet)

pub plans_more : {S W R : Type 0} {g : Ghosts S} (branch_of : R → ℕ) (change : R → Planned → Planned)
    (first old new : Refill S W g) (rows : List R) (r : R) (number : ℕ) (yet : Planned)
    → Plans g branch_of change first old rows → new.bank ≡ old.bank → new.batch.items ≡ old.batch.items
    → number ≡ branch_of r → yet ≡ change r (planned_at old.planned.items (branch_of r))
    → new.planned.items ≡ set old.planned.items number yet → Plans g branch_of change first new (rows ++ r ∷ [])
plans_more {S} {W} {R} {g} branch_of change first old new rows r number yet it bank batch own is planned = record {
  bank = bank ∙ it.bank;
  batch = batch ∙ it.batch;
  count = ap (λ (l : List Planned). length l) planned ∙ length-set old.planned.items number yet ∙ it.count;
  each = λ b low.
      ap (λ (l : List Planned). planned_at l b) planned
      ∙ ap (λ (n : ℕ). planned_at (set old.planned.items n yet) b) own
      ∙ at b low
      ∙ sym (changed_more branch_of change b rows r (planned_at first.planned.items b));
}
  where
    at : (b : ℕ) → b < length first.planned.items → planned_at (set old.planned.items (branch_of r) yet) b
        ≡ cond (eqb (branch_of r) b) (change r (changed_by branch_of change b rows (planned_at first.planned.items b)))
        (changed_by branch_of change b rows (planned_at first.planned.items b))
    at b low = elim (cases_Bool (eqb (branch_of r) b)) [
      | inl t ↦
          let same = eqb-true (branch_of r) b t in
          let here = it.each b low in
          rw t (ap (λ (k : ℕ). planned_at (set old.planned.items (branch_of r) yet) k) (sym same)
          ∙ get_or-set_same old.planned.items (branch_of r) yet unplanned (omega (arith, low, same, it.count))
          ∙ is ∙ ap (λ (k : ℕ). change r (planned_at old.planned.items k)) same ∙ ap (change r) here)
      | inr f ↦
          rw f (get_or-set_other old.planned.items (branch_of r) b yet unplanned (apart (branch_of r) b f)
          ∙ it.each b low)
    ]

pub yet_same : (a a' : ℕ) (f f' : Option ℤ) → a ≡ a' → f ≡ f'
    → (let it : Planned = record { accounts = a; floor = f } in it) ≡ record { accounts = a'; floor = f' }
yet_same a a' f f' h k = cc

is_floor : (z : ℤ) → IsFloor z → cents_within MAX_BALANCE z ≡ Some z
is_floor z is = within (nat_le (nat_abs z) MAX_BALANCE) refl
  where
    within : (hit : Bool) → nat_le (nat_abs z) MAX_BALANCE ≡ hit → cents_within MAX_BALANCE z ≡ Some z
    within true at = rw at refl
    within false at = absurd (let low = is.1 in grind (arith, low, at))

-- what the row under the branch's number makes of it, if there is one
abbrev applied : {R : Type 0} (change : R → Planned → Planned) → Option R → Planned → Planned
applied change None yet = yet
applied change (Some r) yet = change r yet

changed_is : {R : Type 0} (branch_of : R → ℕ) (change : R → Planned → Planned) (b : ℕ) (rows : List R) (yet : Planned)
    → Rising branch_of rows → changed_by branch_of change b rows yet ≡ applied change (row_at branch_of rows b) yet
changed_is branch_of change b rows yet rise = go (row_at branch_of rows b) refl
  where
    go : (o : Option _) → row_at branch_of rows b ≡ o → changed_by branch_of change b rows yet ≡ applied change o yet
    go None is = changed_none branch_of change b rows yet is
    go (Some r) is = changed_some branch_of change b rows yet r rise is

-- of typed rows that is what the entries plan
planned_as : (o : Option StoredBranch) (f : Option StoredFloor)
    → applied with_floor f (applied with_accounts o unplanned) ≡ record {
      accounts = accounts_in (option_map branch_entry o);
      floor = option_and_then (λ (row : Entry). cents_within MAX_BALANCE (number_at 0 row)) (option_map floor_entry f);
    }
planned_as None None = refl
planned_as None (Some f) = refl
planned_as (Some r) None = refl
planned_as (Some r) (Some f) = refl

-- ---- all branches

module _ (branches : List StoredBranch) (floors : List StoredFloor) (rise : Rise (map branch_entry branches))
    (rise_floors : Rise (map floor_entry floors)) (first mid last : List Planned)
    (none : first ≡ replicate (LAST_BRANCH + 1) unplanned) (count : length mid ≡ length first)
    (count' : length last ≡ length mid)
    (each : (b : ℕ) → b < length first → planned_at mid b
    ≡ changed_by (λ (r : StoredBranch). r.branch) with_accounts b branches (planned_at first b))
    (each' : (b : ℕ) → b < length mid → planned_at last b
    ≡ changed_by (λ (r : StoredFloor). r.branch) with_floor b floors (planned_at mid b)) where
  length_is : length first ≡ LAST_BRANCH + 1
  length_is = ap (λ (l : List Planned). length l) none ∙ length-replicate (LAST_BRANCH + 1) unplanned

  first_is : (b : ℕ) → b < LAST_BRANCH + 1 → planned_at first b ≡ unplanned
  first_is b low =
      ap (λ (l : List Planned). planned_at l b) none ∙ get_or-replicate (LAST_BRANCH + 1) b unplanned unplanned low

  abbrev planned_by : ℕ → Planned
  planned_by b = planned_in (map branch_entry branches) (map floor_entry floors) b

  last_is : (b : ℕ) → b < LAST_BRANCH + 1 → planned_at last b ≡ planned_by b
  last_is b low =
      each' b (omega (arith, low, length_is, count))
      ∙ ap (changed_by (λ (r : StoredFloor). r.branch) with_floor b floors)
      (each b (omega (arith, low, length_is))
      ∙ ap (changed_by (λ (r : StoredBranch). r.branch) with_accounts b branches) (first_is b low)
      ∙ changed_is (λ (r : StoredBranch). r.branch) with_accounts b branches unplanned
      (rising_keys (λ (r : StoredBranch). r.branch) branch_entry (λ r. refl) branches rise))
      ∙ changed_is (λ (r : StoredFloor). r.branch) with_floor b floors
      (applied with_accounts (row_at (λ (r : StoredBranch). r.branch) branches b) unplanned)
      (rising_keys (λ (r : StoredFloor). r.branch) floor_entry (λ r. refl) floors rise_floors)
      ∙ planned_as (row_at (λ (r : StoredBranch). r.branch) branches b) (row_at (λ (r : StoredFloor). r.branch) floors b)
      ∙ sym (yet_same _ _ _ _
      (ap accounts_in (found_row (λ (r : StoredBranch). r.branch) branch_entry (λ r. refl) b branches))
      (ap (option_and_then (λ (row : Entry). cents_within MAX_BALANCE (number_at 0 row)))
      (found_row (λ (r : StoredFloor). r.branch) floor_entry (λ r. refl) b floors)))

  pub yet_all : (b : ℕ) → IsYet b (terms_of b (planned_by b)) None (planned_at last b)
  yet_all b = elim (cases_Bool (leb (LAST_BRANCH + 1) b)) [
    | inl t ↦
        let high = leb-true (LAST_BRANCH + 1) b t in
        inl (
          ap (λ (p : Planned). p.accounts) (get_or_past last b unplanned (omega (arith, high, length_is, count, count'))),
          sym (terms_none b (planned_by b) (λ can. let low = can.1 in omega (arith, high, low))),
        )
    | inr f ↦ inr (refl, ap (terms_of b) (sym (last_is b (leb-false (LAST_BRANCH + 1) b f))))
  ]

-- ---- of a log

-- what the rows of a branch that it opened, or didn't, plan
terms_are : (b : ℕ) (z : ℤ) (first : Option Terms) → IfSome first (λ terms. IsCommand (Open b terms))
    → terms_of b (record {
      accounts = accounts_in (option_map view.branch_entry (option_map (branch_row_of b z) first));
      floor = option_and_then (λ (row : Entry). cents_within MAX_BALANCE (number_at 0 row)) (option_map view.floor_entry
          (option_map (floor_row_of b) (option_and_then (λ (terms : Terms). terms.floor) first)));
    }) ≡ first
terms_are b z None can = terms_none b (record { accounts = 0; floor = None }) (λ is. let some = is.2 in omega (arith, some))
terms_are b z (Some terms) can =
    ap (terms_of b) (yet_same terms.accounts terms.accounts _ terms.floor refl (floor_same terms.floor can.4))
    ∙ terms_some b (record { accounts = terms.accounts; floor = terms.floor }) can
  where
    floor_same : (floor : Option ℤ) → IfSome floor IsFloor
        → option_and_then (λ (row : Entry). cents_within MAX_BALANCE (number_at 0 row))
        (option_map view.floor_entry (option_map (floor_row_of b) floor)) ≡ floor
    floor_same None can = refl
    floor_same (Some lowest) can = is_floor lowest can

module _ (ts : List BranchRow) (fs : List FloorRow) (balance : ℕ → ℤ) (plan : ℕ → Option Terms) (is : IsPlan plan)
    (are : (b : ℕ) → row_at branch_key ts b ≡ option_map (branch_row_of b (balance b)) (plan b))
    (are_floors : (b : ℕ) → row_at floor_key fs b
    ≡ option_map (floor_row_of b) (option_and_then (λ terms. terms.floor) (plan b))) where
  -- the branches that it opened are those of their rows
  pub plan_is : (b : ℕ) → terms_of b (planned_in (map view.branch_entry ts) (map view.floor_entry fs) b) ≡ plan b
  plan_is b =
      ap (terms_of b) (yet_same _ _ _ _
      (ap accounts_in (found_row branch_key view.branch_entry (λ r. refl) b ts ∙ ap (option_map view.branch_entry) (are b)))
      (ap (option_and_then (λ (row : Entry). cents_within MAX_BALANCE (number_at 0 row)))
      (found_row floor_key view.floor_entry (λ r. refl) b fs ∙ ap (option_map view.floor_entry) (are_floors b))))
      ∙ terms_are b (balance b) (plan b) (is b)
