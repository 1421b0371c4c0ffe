-- A run that is made longer by the next one.
use Rattle.std.proofs.Common.{◌≡◌, ◌≤◌, ◌<◌, ◌+◌, ◌++◌, ◌∙◌, ℕ, Bool, true, false, leb, max, List, [], ◌∷◌, length, take, get_or, append-nil, Option, Some, None, refl, sym, ap, subst}
use Rattle.std.proofs.Common.{arith}
use Rattle.std.specs.Prelude.{◌&&◌, ◌||◌, IfOk, Result, Ok, Err}
use Rattle.std.specs.List.Sorted.{IsNonDecreasingBy}
use Rattle.std.proofs.lemmas.List.{get_or_default, take_more}
use Rattle.std.proofs.lemmas.Bool.Decides.{nat_tests}
use Rattle.posting_rules.specs.declared.rows.ClosingRow.{ClosingRow}
use Rattle.posting_rules.specs.believed.Closings.{is_closed_in, meets}
use Rattle.posting_rules.proofs.Runs.{any-append}
use Rattle.posting_rules.specs.Numbers.{BeginsBy, ComesAfter, RiseFrom, RiseTo, as_list}

-- two runs that touch, of which the second begins no earlier, have the numbers of one from the first to the last of both
pub joined_has : (f l g m k x : ℕ) → f ≤ l → f ≤ g → g ≤ l + 1 → g ≤ m → k ≡ max l m
    → (leb f x && leb x k) ≡ ((leb f x && leb x l) || (leb g x && leb x m))
joined_has f l g m k x one order touch other is = grind (arith, nat_tests)

-- the next may begin later
pub rise_to_later : (low high later : ℕ) (runs : List ClosingRow) → high ≤ later → RiseTo low high runs
    → RiseTo low later runs
rise_to_later low high later [] le rise = omega (arith, le, rise)
rise_to_later low high later (r ∷ runs) le rise =
    (rise.0, rise.1, rise_to_later (r.last + 2) high later runs le rise.2)

-- one run more
pub rise_to_more : (low : ℕ) (runs : List ClosingRow) (r : ClosingRow) → r.first ≤ r.last → RiseTo low r.first runs
    → RiseTo low (r.last + 2) (runs ++ r ∷ [])
rise_to_more low [] r own rise = (rise, own, omega arith)
rise_to_more low (s ∷ runs) r own rise = (rise.0, rise.1, rise_to_more (s.last + 2) runs r own rise.2)

-- and they rise
pub rise_all : (low high : ℕ) (runs : List ClosingRow) → RiseTo low high runs → RiseFrom low runs
rise_all low high [] rise = tt
rise_all low high (r ∷ runs) rise = (rise.0, rise.1, rise_all (r.last + 2) high runs rise.2)

-- the run that was made longer is done, since the next doesn't touch it
pub next_apart : (done all : List ClosingRow) (run next : ClosingRow) (longer : Option ClosingRow) → longer ≡ Some run
    → ComesAfter done longer → leb next.first (run.last + 1) ≡ false → all ≡ done ++ run ∷ []
    → RiseTo 0 next.first all
next_apart done all run next longer is after apart pushed =
    let own : ComesAfter done (Some run) = subst (ComesAfter done) is after in
    let high : run.last + 2 ≤ next.first = grind (arith, nat_tests) in
    subst (RiseTo 0 next.first) (sym pushed)
    (rise_to_later 0 (run.last + 2) next.first (done ++ run ∷ []) high (rise_to_more 0 done run own.1 own.0))

-- all of them rise
pub all_rise : (done : List ClosingRow) (longer : Option ClosingRow) → ComesAfter done longer
    → RiseFrom 0 (done ++ as_list longer)
all_rise done None after = subst (λ (l : List ClosingRow). RiseFrom 0 (l ++ [])) (sym after) tt
all_rise done (Some run) after = rise_all 0 (run.last + 2) (done ++ run ∷ []) (rise_to_more 0 done run after.1 after.0)

pub run_rises : (done all : List ClosingRow) (run : ClosingRow) (longer : Option ClosingRow) → longer ≡ Some run
    → ComesAfter done longer → all ≡ done ++ run ∷ [] → RiseFrom 0 all
run_rises done all run longer is after pushed =
    subst (RiseFrom 0) (ap (λ (o : Option ClosingRow). done ++ as_list o) is ∙ sym pushed) (all_rise done longer after)

pub none_rises : (done : List ClosingRow) (longer : Option ClosingRow) → longer ≡ None → ComesAfter done longer
    → RiseFrom 0 done
none_rises done longer is after =
    subst (RiseFrom 0) (ap (λ (o : Option ClosingRow). done ++ as_list o) is ∙ append-nil done) (all_rise done longer after)

-- ---- one run after another

pub begins_later : (x y : ℕ) (longer : Option ClosingRow) → x ≤ y → BeginsBy x longer → BeginsBy y longer
begins_later x y None le by = tt
begins_later x y (Some run) le by = omega (arith, le, by)

-- none begins where there is none
pub none_begins : (done : List ClosingRow) (longer : Option ClosingRow) (x : ℕ) → done ++ as_list longer ≡ []
    → BeginsBy x longer
none_begins done None x none = tt
none_begins [] (Some run) x none = absurd cc
none_begins (r ∷ done) (Some run) x none = absurd cc

-- those after a run begin no earlier
pub begins_then : (items : List ClosingRow) (i k : ℕ) (z d : ClosingRow) (longer : Option ClosingRow) → i < length items
    → IsNonDecreasingBy (λ r. r.first) items → i + 1 ≤ k → k < length items → BeginsBy (get_or items i z).first longer
    → BeginsBy (get_or items k d).first longer
begins_then items i k z d longer lt rising low high by =
    begins_later (get_or items i z).first (get_or items k d).first longer
    (subst (λ (r : ClosingRow). r.first ≤ (get_or items k d).first) (get_or_default items i d z lt)
    (rising i k d (omega (arith, low)) high)) by

-- the numbers of one run more
pub numbers_then : (items : List ClosingRow) (i : ℕ) (z : ClosingRow) (x : ℕ) (before now : Bool) → i < length items
    → now ≡ (before || meets x x (get_or items i z)) → before ≡ is_closed_in (take i items) x
    → now ≡ is_closed_in (take (i + 1) items) x
numbers_then items i z x before now lt is so_far =
    is ∙ ap (λ (b : Bool). b || meets x x (get_or items i z)) so_far
    ∙ ap (λ (b : Bool). is_closed_in (take i items) x || b) (sym (or_none (meets x x (get_or items i z))))
    ∙ sym (any-append (meets x x) (take i items) (get_or items i z ∷ []))
    ∙ ap (λ (l : List ClosingRow). is_closed_in l x) (sym (take_more items i z lt))
  where
    or_none : (b : Bool) → (b || false) ≡ b
    or_none true = refl
    or_none false = refl

pub if_ok : {T E : Type 0} (P Q : T → Type 0) → ((t : T) → P t → Q t) → (r : Result T E) → IfOk r P → IfOk r Q
if_ok P Q so (Ok t) p = so t p
if_ok P Q so (Err e) p = tt
