-- What is stated, step by step.
use Rattle.std.proofs.Common.{◌≡◌, ◌≤◌, ◌<◌, ◌+◌, ◌∷◌, ◌++◌, ◌∙◌, ℕ, List, [], Some, None, Bool, true, false, Result}
use Rattle.std.proofs.Common.{Ok, Err, length, refl, take, drop, get_or}
use Rattle.std.proofs.lemmas.List.{at_drop_more, drop_all, take_all, take_more}
use Rattle.branch_loader.specs.Plans.{IsPlan, TellsPlan, header_of, plan_of_list, plan_of_records, row_of_fields}
use Rattle.branch_loader.specs.Plans.{row_of_listed, rows_by}
use Rattle.branch_loader.specs.{believed.Plans.Rows, believed.Plans.Row, declared.fault.PlanFault.PlanFault}
use Rattle.branch_loader.specs.Records.{TakesRecord, Records, Fields}
use Rattle.branch_loader.specs.declared.fault.PlanFault.TheVariants.{Header, Csv, Memory}
use Rattle.branch_loader.proofs.Rows.{listed-longer, listed-same}

-- an answer that tells a fault
pub tells-fault : (stated : Result Rows PlanFault) (f : PlanFault) → stated ≡ Err f → TellsPlan stated (Err f)
tells-fault stated Csv e = tt
tells-fault stated Memory e = tt
tells-fault stated other e = e

-- the rows go on by one where the next thing states a row
pub rows_by-ok : {A : Type 0} (row : Rows → A → Result Row PlanFault) (before : Rows) (x : A) (rest : List A)
    (p : Row)
    → row before x ≡ Ok p → rows_by row before (x ∷ rest) ≡ rows_by row (before ++ p ∷ []) rest
unfolding rows_by
rows_by-ok row before x rest p e = rw (e, rows_by) refl

-- and end where it states a fault
pub rows_by-err : {A : Type 0} (row : Rows → A → Result Row PlanFault) (before : Rows) (x : A) (rest : List A)
    (f : PlanFault)
    → row before x ≡ Err f → rows_by row before (x ∷ rest) ≡ Err f
unfolding rows_by
rows_by-err row before x rest f e = rw (e, rows_by) refl

-- a text with no record
pub plan-empty : plan_of_records [] ≡ Err Header
unfolding plan_of_records
plan-empty = refl

-- a text whose first record is no header
pub plan-no_header : (fields : Fields) (rest : Records) → header_of fields ≡ None
    → plan_of_records (fields ∷ rest) ≡ Err Header
unfolding plan_of_records
plan-no_header fields rest e = rw e refl

-- a header, and the rows after it
pub plan-header : (has_floors : Bool) (fields : Fields) (rest : Records) → header_of fields ≡ Some has_floors
    → plan_of_records (fields ∷ rest) ≡ rows_by (row_of_fields has_floors) [] rest
unfolding plan_of_records
plan-header has_floors fields rest e = rw e refl

-- where no thing is left the rows are the plan
pub rows_by-done : {A : Type 0} (row : Rows → A → Result Row PlanFault) (before : Rows)
    → rows_by row before [] ≡ Ok before
unfolding rows_by
rows_by-done row before = refl

-- what a read of the header leaves
pub took-header : {A : Records → Type 0} (has_floors found : Bool) (fields : Fields) (all : Records)
    (rows : Rows)
    → TakesRecord found fields all A → found ≡ true → header_of fields ≡ Some has_floors → rows ≡ []
    → (rest : Records) × A rest × (plan_of_records all ≡ rows_by (row_of_fields has_floors) rows rest)
took-header has_floors false fields all rows t f h n = cc f
took-header has_floors true fields all rows t f h n =
    (t.0, t.2, rw (t.1, n) (plan-header has_floors fields t.0 h))

-- what a read of another record leaves, where it states a row
pub took-row : {A : Records → Type 0} (has_floors found : Bool) (fields : Fields) (rest : Records)
    (rows new : Rows) (p : Row) (stated : Result Rows PlanFault)
    → TakesRecord found fields rest A → found ≡ true → stated ≡ rows_by (row_of_fields has_floors) rows rest
    → row_of_fields has_floors rows fields ≡ Ok p
    → new ≡ rows ++ p ∷ []
    → (more : Records) × A more × (stated ≡ rows_by (row_of_fields has_floors) new more)
took-row has_floors false fields rest rows new p stated t f s r n = cc f
took-row has_floors true fields rest rows new p stated t f s r n =
    (t.0, t.2, s ∙ rw (t.1, n) (rows_by-ok (row_of_fields has_floors) rows fields t.0 p r))

-- and where it states a fault
pub took-fault : (A : Records → Type 0) (has_floors found : Bool) (fields : Fields) (rest : Records)
    (rows : Rows) (fault : PlanFault) (stated : Result Rows PlanFault)
    → TakesRecord found fields rest A → found ≡ true → stated ≡ rows_by (row_of_fields has_floors) rows rest
    → row_of_fields has_floors rows fields ≡ Err fault
    → stated ≡ Err fault
took-fault A has_floors false fields rest rows fault stated t f s r = cc f
took-fault A has_floors true fields rest rows fault stated t f s r = s ∙ rw t.1
    (rows_by-err (row_of_fields has_floors) rows fields t.0 fault r)

-- a row of a list that states a row
pub listed-more : (list : Rows) (i : ℕ) (x q : Row) → i < length list → x ≡ get_or list i x
    → row_of_listed (take i list) x ≡ Ok q
    → plan_of_list list ≡ rows_by row_of_listed (take i list) (drop i list) → IsPlan (take i list)
    → IsPlan (take (i + 1) list)
    × (plan_of_list list ≡ rows_by row_of_listed (take (i + 1) list) (drop (i + 1) list))
listed-more list i x q within read row states plan =
    let same = listed-same (take i list) x q row in
    let row_x = rw same at row in
    let taken : take (i + 1) list ≡ take i list ++ x ∷ [] = take_more list i x within ∙ rw (← read) refl in
    let rest : drop i list ≡ x ∷ drop (i + 1) list = at_drop_more (λ (l : Rows). l) list i x within ∙ rw
    (← read) refl in (
      rw taken (listed-longer (take i list) x x plan row_x),
      states ∙ rw (rest, taken) (rows_by-ok row_of_listed (take i list) x (drop (i + 1) list) x row_x),
    )

-- one that states a fault
pub listed-fault : (list : Rows) (i : ℕ) (x : Row) (f : PlanFault) → i < length list → x ≡ get_or list i x
    → row_of_listed (take i list) x ≡ Err f
    → plan_of_list list ≡ rows_by row_of_listed (take i list) (drop i list) → plan_of_list list ≡ Err f
listed-fault list i x f within read row states =
    let rest : drop i list ≡ x ∷ drop (i + 1) list = at_drop_more (λ (l : Rows). l) list i x within ∙ rw
    (← read) refl in
    states ∙ rw rest (rows_by-err row_of_listed (take i list) x (drop (i + 1) list) f row)

-- a list that states all its rows
pub listed-all : (list : Rows) (i : ℕ) → length list ≤ i
    → plan_of_list list ≡ rows_by row_of_listed (take i list) (drop i list)
    → IsPlan (take i list)
    → (plan_of_list list ≡ Ok list) × IsPlan list
listed-all list i past states plan =
    let all : take i list ≡ list = take_all i list past in
    (states ∙ rw (all, drop_all i list past) (rows_by-done row_of_listed list), rw all at plan)
