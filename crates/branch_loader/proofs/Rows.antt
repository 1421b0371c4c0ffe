-- How a plan grows by a row, and that it is short.
use Rattle.std.proofs.Common.{◌≡◌, ◌≤◌, ◌<◌, ◌+◌, ◌∷◌, ◌++◌, ◌∙◌, ℕ, List, [], Option, Some, None, Bool, true, false}
use Rattle.std.proofs.Common.{Ok, Err, All, map, length, arith, refl, sym, ap, nat_eq, nat_le}
use Rattle.std.specs.Prelude.{if◌then◌else◌, ◌&&◌, ◌||◌, ◌==◌, ◌≤ℤ◌, ℤ, pos, suc, zero, option_and_then, option_map}
use Rattle.std.specs.Prelude.{IfSome, int_le}
use Rattle.std.specs.List.{IsDistinct, list_any}
use Rattle.std.proofs.lemmas.{Bool.Decides.nat_tests, Int.ints, Cmp.nat_eq_equiv, List.Elements.All-push}
use Rattle.std.proofs.lemmas.{Map.Keys.IsDistinct-push, Map.Steps.length-le_from_distinct_below}
use Rattle.std.proofs.lemmas.List.{length-map, map-append}
use Rattle.posting_rules.specs.declared.limits.TheConstants.{LAST_BRANCH, MAX_ACCOUNTS}
use Rattle.message_records.specs.believed.{Ranges.whole_within, Reading.number_of}
use Rattle.branch_loader.specs.Plans.{IsPlan, IsRow, names, number_within, row_of, row_of_fields, row_of_listed}
use Rattle.branch_loader.specs.Plans.{row_of_parts, parts_of, amount_of, below_zero, zero_alone, floor_of}
use Rattle.branch_loader.specs.Plans.{floor_within}
use Rattle.branch_loader.specs.believed.Plans.{Rows, Row}
use Rattle.branch_loader.specs.{declared.fault.PlanFault.TheVariants.Twice, Records.Fields}

-- the branches of rows
abbrev branches : Rows → List ℕ
branches rows = map (λ p. p.0) rows

names-branches : (branch : ℕ) (rows : Rows) → names branch rows ≡ list_any (nat_eq branch) (branches rows)
names-branches branch [] = refl
names-branches branch (p ∷ rows) = ap (λ (b : Bool). nat_eq branch p.0 || b) (names-branches branch rows)

-- a number from 1 to most, where there is one
abbrev pub Within : ℕ → Option ℕ → Type 0
Within most None = Unit {0}
Within most (Some n) = (1 ≤ n) × (n ≤ most)

whole_within-within : (most n : ℕ) → Within most (whole_within 1 most n)
whole_within-within most n = by (nat_le 1 n && nat_le n most) refl
  where
    by : (b : Bool) → (nat_le 1 n && nat_le n most) ≡ b → Within most (if b then Some n else None)
    by false e = tt
    by true e = grind (arith, nat_tests, e)

-- no rows are a plan
pub no-rows : IsPlan []
unfolding IsDistinct
no-rows = record { in_range = λ k d h. absurd (omega arith); distinct = tt }

-- a floor that is at most zero, where there is one
abbrev pub Lies : Option (Option ℤ) → Type 0
Lies floor = IfSome floor (λ f. IfSome f (λ z. z ≤ℤ pos 0))

-- a row more
plan-more : (rows : Rows) (branch accounts : Option ℕ) (floor : Option (Option ℤ)) (p : Row)
    → Within LAST_BRANCH branch → Within MAX_ACCOUNTS accounts → Lies floor
    → IsPlan rows → row_of rows branch accounts floor ≡ Ok p → IsPlan (rows ++ p ∷ [])
plan-more rows None accounts floor p b a f plan e = cc e
plan-more rows (Some branch) None floor p b a f plan e = cc e
plan-more rows (Some branch) (Some accounts) None p b a f plan e = cc e
plan-more rows (Some branch) (Some accounts) (Some floor) p b a f plan e = by (names branch rows) refl e
  where
    by : (t : Bool) → names branch rows ≡ t
        → (if t then Err (Twice (length rows + 1)) else Ok (branch, accounts, floor)) ≡ Ok p
        → IsPlan (rows ++ p ∷ [])
    by true n h = cc h
    by false n h =
        let one : p ≡ (branch, accounts, floor) = cc h in
        rw one (record {
          in_range = All-push IsRow rows (branch, accounts, floor) plan.in_range (b.0, b.1, a.0, a.1, f);
          distinct = rw (map-append (λ (p : Row). p.0) rows ((branch, accounts, floor) ∷ []))
              (IsDistinct-push nat_eq_equiv (branches rows) branch plan.distinct
              (sym (names-branches branch rows) ∙ n));
        })

-- a branch that rows name is within the numbers that can be opened
below : (rows : Rows) → All IsRow rows → (q : ℕ) → names q rows ≡ true → q < LAST_BRANCH + 1
below [] all q h = cc h
below (p ∷ rows) all q h = by (nat_eq q p.0) refl h (below rows (λ k d l. all (suc k) d (omega arith)) q)
  where
    by : (t : Bool) → nat_eq q p.0 ≡ t → (t || names q rows) ≡ true
        → (names q rows ≡ true → q < LAST_BRANCH + 1) → q < LAST_BRANCH + 1
    by true e n more = let same : q ≡ p.0 = grind (arith, nat_tests, e) in let first = all 0 p
        (omega arith) in omega arith
    by false e n more = more n

-- a plan is short
pub plan-short : (rows : Rows) → IsPlan rows → length rows ≤ LAST_BRANCH + 1
plan-short rows plan =
    rw length-map at (length-le_from_distinct_below (branches rows) (LAST_BRANCH + 1) plan.distinct
    (λ q h. below rows plan.in_range q (names-branches q rows ∙ h)))

-- what a field writes is in range
number_within-within : (most : ℕ) (field : List ℕ) → Within most (number_within most field)
number_within-within most field = by (nat_le 1 (length field) && nat_le (length field) 9) (number_of field)
  where
    by : (b : Bool) (written : Option ℕ)
        → Within most (if b then option_and_then (whole_within 1 most) written else None)
    by true None = tt
    by true (Some n) = whole_within-within most n
    by false written = tt

-- so is a floor that a field writes
below_zero-lies : (n : ℕ) → below_zero n ≤ℤ pos 0
below_zero-lies zero = omega arith
below_zero-lies (suc n) = omega arith

floor_of-lies : (field : List ℕ) → Lies (floor_of field)
floor_of-lies [] = tt
floor_of-lies (c ∷ cs) = by (c == 45)
  where
    minus : (o : Option ℕ) → Lies (option_map (λ n. Some (below_zero n)) o)
    minus None = tt
    minus (Some n) = below_zero-lies n

    alone : (o : Option ℕ) → Lies (option_map Some (option_and_then zero_alone o))
    alone None = tt
    alone (Some zero) = omega arith
    alone (Some (suc n)) = tt

    by : (b : Bool) → Lies (if b then option_map (λ n. Some (below_zero n)) (amount_of cs)
        else option_map Some (option_and_then zero_alone (amount_of (c ∷ cs))))
    by true = minus (amount_of cs)
    by false = alone (amount_of (c ∷ cs))

floor_within-lies : (floor : Option ℤ) → Lies (floor_within floor)
floor_within-lies None = tt
floor_within-lies (Some z) = by (int_le z (pos 0)) refl
  where
    by : (b : Bool) → int_le z (pos 0) ≡ b → Lies (if b then Some (Some z) else None)
    by true e = omega (arith, ints)
    by false e = tt

-- a record that states a row makes the plan longer
pub fields-more : (has_floors : Bool) (rows : Rows) (fields : Fields) (p : Row) → IsPlan rows
    → row_of_fields has_floors rows fields ≡ Ok p → IsPlan (rows ++ p ∷ [])
fields-more has_floors rows fields p plan e = by (parts_of has_floors fields) e
  where
    by : (o : Option (List ℕ × List ℕ × List ℕ)) → row_of_parts rows o ≡ Ok p → IsPlan (rows ++ p ∷ [])
    by None h = cc h
    by (Some q) h =
        plan-more rows (number_within LAST_BRANCH q.0) (number_within MAX_ACCOUNTS q.1) (floor_of q.2) p
        (number_within-within LAST_BRANCH q.0) (number_within-within MAX_ACCOUNTS q.1) (floor_of-lies q.2)
        plan h

-- so does one of a list, which is taken as it is
pub listed-longer : (rows : Rows) (q p : Row) → IsPlan rows → row_of_listed rows q ≡ Ok p
    → IsPlan (rows ++ p ∷ [])
listed-longer rows q p plan h =
    plan-more rows (whole_within 1 LAST_BRANCH q.0) (whole_within 1 MAX_ACCOUNTS q.1) (floor_within q.2) p
    (whole_within-within LAST_BRANCH q.0) (whole_within-within MAX_ACCOUNTS q.1) (floor_within-lies q.2)
    plan h

-- the row that one of a list states is that one
pub listed-same : (rows : Rows) (q p : Row) → row_of_listed rows q ≡ Ok p → p ≡ q
listed-same rows (branch, accounts, floor) p h = by (nat_le 1 branch && nat_le branch LAST_BRANCH)
    (nat_le 1 accounts && nat_le accounts MAX_ACCOUNTS) floor h
  where
    last : (t : Bool) (f : Option ℤ)
        → (if t then Err (Twice (length rows + 1)) else Ok (branch, accounts, f)) ≡ Ok p
        → p ≡ (branch, accounts, f)
    last true f e = cc e
    last false f e = cc e

    kept : (b : Bool) (z : ℤ)
        → row_of rows (Some branch) (Some accounts) (if b then Some (Some z) else None) ≡ Ok p
        → p ≡ (branch, accounts, Some z)
    kept true z e = last (names branch rows) (Some z) e
    kept false z e = cc e

    by : (b a : Bool) (f : Option ℤ)
        → row_of rows (if b then Some branch else None) (if a then Some accounts else None) (floor_within f)
        ≡ Ok p → p ≡ (branch, accounts, f)
    by true true None e = last (names branch rows) None e
    by true true (Some z) e = kept (int_le z (pos 0)) z e
    by true false f e = cc e
    by false a f e = cc e
