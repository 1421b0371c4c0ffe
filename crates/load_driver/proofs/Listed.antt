-- The open branches are listed one after another.
use Rattle.std.proofs.Common.{◌≡◌, ◌≤◌, ◌<◌, ◌+◌, ◌-◌, ℕ, zero, suc, true, false, List, [], ◌∷◌, ◌++◌, Some, None}
use Rattle.std.proofs.Common.{Result, Ok, Err, leb, refl, sym, ap, ◌∙◌, arith, append-nil, inl, inr}
use Rattle.std.proofs.{lemmas.Bool.Decides.nat_tests, lemmas.Bool.cases_Bool, Math.Nat.add-suc, lemmas.Int.ints}
use Rattle.std.specs.List.{AllByRecursion}
use Rattle.std.specs.Prelude.{nat_eq, ◌&&◌, ◌≤ℤ◌, ℤ, pos, Option, IfSome, int_le}
use Rattle.message_records.specs.believed.Ranges.{whole_within}
use Rattle.posting_rules.specs.declared.counter.BranchLine.{BranchLine}
use Rattle.posting_rules.specs.believed.Commands.{Command, opened}
use Rattle.posting_rules.specs.declared.limits.TheConstants.{LAST_BRANCH, MAX_ACCOUNTS}
use Rattle.posting_rules.specs.Branches.{IsLineAbove, IsNextBranch, IsNextOpen}
use Rattle.posting_rules.specs.believed.Counter.{Seen, ShowsLog, Takes}
use Rattle.branch_loader.specs.{believed.Plans.Row, believed.Plans.Rows, declared.fault.PlanFault.PlanFault}
use Rattle.branch_loader.specs.Plans.{IsRow, floor_within, names, plan_of_list, row_of_listed, rows_by}
use Rattle.posting_rules.proofs.CounterCalls.{Takes-append, was_up}
use Rattle.posting_rules.specs.Counter.{StaysByTables}
use Rattle.posting_core.proofs.ByTables.{stays_itself, stays_then}
use Rattle.branch_loader.proofs.Stated.{rows_by-ok, rows_by-done}
use Rattle.load_driver.specs.believed.Records.{open_branches, open_up_to, row_if_open}

-- ---- rows that are a plan

-- a number in its range is one of the type with that range
pub within : (most n : ℕ) → 1 ≤ n → n ≤ most → whole_within 1 most n ≡ Some n
within most n low high = let test : (leb 1 n && leb n most) ≡ true = grind (arith, nat_tests) in rw test refl

-- a floor of at most zero is one that a branch can have
lies : (floor : Option ℤ) → IfSome floor (λ z. z ≤ℤ pos 0) → floor_within floor ≡ Some floor
lies None low = refl
lies (Some z) low = elim (cases_Bool (int_le z (pos 0))) [ inl t ↦ rw t refl | inr f ↦ absurd (omega (arith, ints)) ]

-- a row in its ranges, of a branch that no row before names
row_is : (before : Rows) (p : Row) → IsRow p → names p.0 before ≡ false → row_of_listed before p ≡ Ok p
row_is before p row new =
    rw (within LAST_BRANCH p.0 row.0 row.1, within MAX_ACCOUNTS p.1 row.2 row.3, lies p.2 row.4, new) refl

-- rows after those that were read
rows_by-append : (before list after rows : Rows) → rows_by row_of_listed before list ≡ Ok rows
    → rows_by row_of_listed before (list ++ after) ≡ rows_by row_of_listed rows after
unfolding rows_by
rows_by-append before [] after rows e = let same : before ≡ rows = cc in rw same refl
rows_by-append before (x ∷ list) after rows e =
    by_row (row_of_listed before x) (λ p. rows_by-append (before ++ p ∷ []) list after rows) e
  where
    going : Result Row PlanFault → Rows → Result Rows PlanFault
    going r rest = elim r [ Ok p ↦ rows_by row_of_listed (before ++ p ∷ []) rest | Err fault ↦ Err fault ]

    by_row : (r : Result Row PlanFault)
        → ((p : Row) → rows_by row_of_listed (before ++ p ∷ []) list ≡ Ok rows
        → rows_by row_of_listed (before ++ p ∷ []) (list ++ after) ≡ rows_by row_of_listed rows after)
        → going r list ≡ Ok rows → going r (list ++ after) ≡ rows_by row_of_listed rows after
    by_row (Ok p) more is = more p is
    by_row (Err fault) more is = absurd cc

-- a list with a row more is a plan
plan_more : (rows : Rows) (p : Row) → IsRow p → names p.0 rows ≡ false → plan_of_list rows ≡ Ok rows
    → plan_of_list (rows ++ p ∷ []) ≡ Ok (rows ++ p ∷ [])
plan_more rows p row new is =
    rows_by-append [] rows (p ∷ []) rows is ∙ rows_by-ok row_of_listed rows p [] p (row_is rows p row new)
    ∙ rows_by-done row_of_listed (rows ++ p ∷ [])

-- the rows name branches up to a number
abbrev pub AreUpTo : ℕ → Rows → Type 0
AreUpTo most rows = AllByRecursion (λ (p : Row). p.0 ≤ most) rows

not_named : (rows : Rows) (most branch : ℕ) → most < branch → AreUpTo most rows → names branch rows ≡ false
not_named [] most branch above low = refl
not_named (p ∷ rows) most branch above low =
    let le = low.0 in
    let other : nat_eq branch p.0 ≡ false = grind (arith, nat_tests) in
    rw other (not_named rows most branch above low.1)

up_to_more : (rows : Rows) (most : ℕ) (p : Row) → most < p.0 → AreUpTo most rows → AreUpTo p.0 (rows ++ p ∷ [])
up_to_more [] most p above low = (omega arith, tt)
up_to_more (q ∷ rows) most p above low =
    let le = low.0 in
    (omega arith, up_to_more rows most p above low.1)

-- ---- the branches of a log

-- where none of the next numbers is open, no branch is added
pub none_more : (log : List Command) (low n : ℕ)
    → ((branch : ℕ) → low < branch → branch ≤ low + n → opened log branch ≡ None)
    → open_up_to log (low + n) ≡ open_up_to log low
unfolding open_up_to
none_more log low zero none = ap (open_up_to log) (let e : low + 0 ≡ low = omega arith in e)
none_more log low (suc n) none =
    ap (open_up_to log) (add-suc low n)
    ∙ ap (λ o. open_up_to log (low + n) ++ row_if_open (suc (low + n)) o)
    (none (suc (low + n)) (omega arith) (omega arith))
    ∙ append-nil (open_up_to log (low + n))
    ∙ none_more log low n (λ branch above le. none branch above (omega arith))

-- the next open branch is added
next_more : (log : List Command) (after : ℕ) (line : BranchLine) → IsNextOpen log after line
    → open_up_to log line.branch ≡ open_up_to log after ++ (line.branch, line.accounts, line.floor) ∷ []
unfolding open_up_to
next_more log after line is =
    let above = is.above in
    let n = line.branch - suc after in
    let number : line.branch ≡ suc (after + n) = omega arith in
    let none = none_more log after n (λ branch low high. is.none_between branch low (omega arith)) in
    ap (open_up_to log) number
    ∙ ap (λ (rows : Rows). rows ++ row_if_open (suc (after + n)) (opened log (suc (after + n)))) none
    ∙ ap (λ (b : ℕ). open_up_to log after ++ row_if_open b (opened log b)) (sym number)
    ∙ ap (λ o. open_up_to log after ++ row_if_open line.branch o) is.terms

-- ---- the walk

-- the rows so far, where the counter was asked for the branches up to a number
pub record Listing {C : Type 0} (seen : C → Seen) (old now : C) (rows : Rows) (after : ℕ) : Type 0 where
  pub plan : plan_of_list rows ≡ Ok rows
  pub up_to : AreUpTo after rows
  pub few : after ≤ LAST_BRANCH
  pub listed : (seen now).honest → (log : List Command) → ShowsLog (seen old) log
      → rows ≡ open_up_to log after
  pub takes : Takes (seen old) (seen now) []
  pub by_tables : StaysByTables (seen old) (seen now)
  pub honest : (seen now).honest → (seen old).honest
  pub up : (seen now).is_down → (seen old).is_down
  pub idle : (seen old).is_down → now ≡ old

pub listing_first : {C : Type 0} (seen : C → Seen) (c : C) → Listing seen c c [] 0
unfolding open_up_to rows_by
listing_first seen c = record {
  plan = refl;
  up_to = tt;
  few = omega arith;
  listed = λ h log s. refl;
  takes = record { shows = λ h log s. s; stands = λ h log s. s };
  by_tables = stays_itself (seen c);
  honest = λ h. h;
  up = λ d. d;
  idle = λ d. refl;
}

pub listing_more : {C : Type 0} (seen : C → Seen) (old now new : C) (rows : Rows) (after : ℕ)
    (line : BranchLine)
    → Listing seen old now rows after → IsLineAbove after line → Takes (seen now) (seen new) []
    → ((seen new).honest → (log : List Command) → ShowsLog (seen now) log → IsNextOpen log after line)
    → ((seen now).is_down → ⊥) → ((seen new).is_down → ⊥) → ((seen new).honest → (seen now).honest)
    → StaysByTables (seen now) (seen new) → Listing seen old new (rows ++ (line.branch, line.accounts, line.floor) ∷ []) line.branch
listing_more seen old now new rows after line l in_range takes next up_now is_up honest stays =
    let p : Row = (line.branch, line.accounts, line.floor) in
    let above = in_range.above in
    let row : IsRow p = (omega arith, in_range.branch, in_range.some, in_range.few, in_range.floor) in
    record {
      plan = plan_more rows p row (not_named rows after line.branch above l.up_to) l.plan;
      up_to = up_to_more rows after p above l.up_to;
      few = in_range.branch;
      listed = λ h log s.
          ap (λ (rs : Rows). rs ++ p ∷ []) (l.listed (honest h) log s)
          ∙ sym (next_more log after line (next h log (l.takes.shows (honest h) log s)));
      takes = Takes-append (seen old) (seen now) (seen new) [] [] l.takes takes honest;
      by_tables = stays_then (seen old) (seen now) (seen new) honest l.by_tables stays;
      honest = λ h. l.honest (honest h);
      up = λ d. absurd (is_up d);
      idle = λ d. absurd (was_up seen old now l.idle up_now d);
    }

-- no branch stands after the last one
pub listing_all : {C : Type 0} (seen : C → Seen) (old now : C) (rows : Rows) (after : ℕ) (log : List Command)
    → Listing seen old now rows after → IsNextBranch log after None → (seen now).honest
    → ShowsLog (seen old) log
    → rows ≡ open_branches log
listing_all seen old now rows after log l none h s =
    let few = l.few in
    let n = LAST_BRANCH - after in
    let all : after + n ≡ LAST_BRANCH = omega arith in
    l.listed h log s ∙ sym (none_more log after n (λ branch above le. none branch above))
    ∙ ap (open_up_to log) all
