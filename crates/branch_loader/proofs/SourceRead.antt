-- What a source of records told last.
use Rattle.std.proofs.Common.{◌≡◌, List, [], ◌∷◌, Option, Some, None, Bool, true, false, ℕ, Result, Ok, Err, ap}
use Rattle.std.proofs.Common.{subst, ◌∙◌, inl}
use Rattle.std.specs.Prelude.{⊤, ℤ, if◌then◌else◌}
use Rattle.csv.specs.declared.error.{Error.Error, ErrorKind.ErrorKind}
use Rattle.posting_core.specs.{believed.EndCalls.GrowsBy, believed.EndCalls.EndsWith, EndCalls.HasMore}
use Rattle.posting_core.proofs.Telling.{more_last}
use Rattle.branch_loader.specs.{declared.fault.PlanFault.PlanFault, believed.Plans.Rows, believed.Plans.Row}
use Rattle.branch_loader.specs.declared.fault.PlanFault.TheVariants.{Csv, Memory}
use Rattle.branch_loader.specs.Records.{Fields, RecordCall, Found, Failed, WasRecord, WasFailure, record_call}
use Rattle.branch_loader.specs.Plans.{IsToldSo, names, row_of, row_of_parts, row_of_fields, parts_of}

-- what one call told is the last that was told
last_told : (P : RecordCall → Type 0) (a b : Option (List RecordCall)) (r : Result Bool Error)
    (t : RecordCall) → record_call r ≡ t → P t
    → GrowsBy a b (record_call r ∷ []) → EndsWith P a b
last_told P a b r t is p tells = record {
  earlier = [];
  last = t;
  made = subst (λ (x : RecordCall). GrowsBy a b (x ∷ [])) is tells;
  is = p;
}

pub found_last : {a b : Option (List RecordCall)} (r : Result Bool Error) (found : Bool) → r ≡ Ok found
    → GrowsBy a b (record_call r ∷ []) → found ≡ true
    → EndsWith WasRecord a b
found_last {a = a} {b = b} r found is tells some = last_told WasRecord a b r (Found found)
    (ap record_call is) some tells

pub failed_last : (P : RecordCall → Type 0) {a b : Option (List RecordCall)} (r : Result Bool Error)
    (e : Error) (k x : ErrorKind) → r ≡ Err e
    → k ≡ e.kind → k ≡ x → P (Failed x) → GrowsBy a b (record_call r ∷ []) → EndsWith P a b
failed_last P {a = a} {b = b} r e k x is kind_is k_is p tells =
    let same : e.kind ≡ x = cc (kind_is, k_is) in
    last_told P a b r (Failed x) (ap record_call is ∙ ap Failed same) p tells

-- ---- what explains a fault

pub fault_told : (o a b : Option (List RecordCall)) (fault : PlanFault) → fault ≡ Memory
    → EndsWith WasFailure a b → HasMore o a → IsToldSo (Err fault) o b
fault_told o a b fault is failed before = rw is (inl (more_last WasFailure before failed))

-- a row's fault is none of the source and none of memory
IsOfRow : Result Row PlanFault → Type 0
IsOfRow (Err Csv) = ⊥
IsOfRow (Err Memory) = ⊥
IsOfRow r = ⊤

one_of : (b : Bool) (x y : Result Row PlanFault) → IsOfRow x → IsOfRow y → IsOfRow (if b then x else y)
one_of true x y p q = p
one_of false x y p q = q

row_fault : (before : Rows) (branch accounts : Option ℕ) (floor : Option (Option ℤ))
    → IsOfRow (row_of before branch accounts floor)
unfolding IsOfRow
row_fault before None accounts floor = tt
row_fault before (Some branch) None floor = tt
row_fault before (Some branch) (Some accounts) None = tt
row_fault before (Some branch) (Some accounts) (Some floor) = one_of (names branch before) _ _ tt tt

parts_fault : (before : Rows) (parts : Option (List ℕ × List ℕ × List ℕ)) → IsOfRow (row_of_parts before parts)
unfolding IsOfRow
parts_fault before None = tt
parts_fault before (Some p) = row_fault before _ _ _

not_of_row : (fault : PlanFault) (a b : Option (List RecordCall)) → IsOfRow (Err fault)
    → IsToldSo (Err fault) a b
unfolding IsOfRow
not_of_row Csv a b h = absurd h
not_of_row Memory a b h = absurd h
not_of_row other a b h = tt

pub row_told : (has_floors : Bool) (before : Rows) (fields : Fields) (fault : PlanFault)
    (a b : Option (List RecordCall))
    → row_of_fields has_floors before fields ≡ Err fault
    → IsToldSo (Err fault) a b
row_told has_floors before fields fault a b is =
    not_of_row fault a b (subst (λ (r : Result Row PlanFault). IsOfRow r) is
    (parts_fault before (parts_of has_floors fields)))

-- ---- a text that was read

-- no answer from a text in memory is of its source
pub not_csv : (result : Result Rows PlanFault) (a b : Option (List RecordCall)) → IsToldSo result a b
    → result ≡ Err Csv → ⊥
not_csv result a b h is = rw is at h
