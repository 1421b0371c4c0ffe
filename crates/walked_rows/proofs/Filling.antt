-- Room that is filled with rows and those beside them.
use Rattle.std.proofs.Common.{◌≡◌, ◌≤ℤ◌, ◌+ℤ◌, drop, slice_get, Ok, Err, Result, ℤ, pos, List, [], ◌∷◌, ◌++◌, map}
use Rattle.std.proofs.Common.{filter, Bool, Some, None, Option, refl, sym, ap, subst, ◌∙◌, inl, inr}
use Rattle.std.specs.Prelude.{IfOk, OnOk, IsSomeAnd}
use Rattle.sqlite.specs.declared.error.Error.{Error}
use Rattle.posting_rules.specs.declared.fault.Rule.{Rule}
use Rattle.sql_meanings.specs.believed.Entries.{Entry, Rise}
use Rattle.store_rows.specs.declared.fault.TableFault.{TableFault, TheVariants.Sqlite, TheVariants.Damaged}
use Rattle.walked_rows.specs.{StepOutcomes.BreaksFirst, Rising.RisesFrom}
use Rattle.walked_rows.specs.Pairs.{AreJoined, BreaksPair, BreaksUnder, Pair, pair_key, pair_with, paired, row_under}
use Rattle.walked_rows.specs.Rows.{items_after, items_from, rows_after, rows_from}
use Rattle.walked_rows.proofs.Joining.{pairs_after, pairs_from}
use Rattle.walked_rows.proofs.{Rises.from_lower, Rises.le_itself, Under.from_its_key}

-- ---- the first of those that were read ahead

pub first_is : {R : Type 0} (rs : List R) (r : R) → Some r ≡ slice_get rs 0 → rs ≡ r ∷ drop 1 rs
first_is [] r at = absurd (cc)
first_is (x ∷ rs) r at = ap (λ y. y ∷ rs) (let it = at in cc)

pub nothing_is : {R : Type 0} (rs : List R) → None ≡ slice_get rs 0 → rs ≡ []
nothing_is [] at = refl
nothing_is (x ∷ rs) at = absurd (cc)

module _ {R : Type 0} (key : R → ℤ) (from : ℤ) (rs more : List R) (r : R) (rest : Option ℤ)
    (is : rs ≡ r ∷ more)
    (rises : RisesFrom from (map key rs) rest) where
  both : (from ≤ℤ key r) × RisesFrom (key r +ℤ pos 1) (map key more) rest
  both = subst (λ l. RisesFrom from (map key l) rest) is rises

  -- they rise from its key on
  pub rises_itself : (start : ℤ) → start ≡ key r → RisesFrom start (map key rs) rest
  rises_itself start at =
      subst (λ k. RisesFrom k (map key rs) rest) (sym at)
      (subst (λ l. RisesFrom (key r) (map key l) rest) (sym is) (le_itself (key r), both.1))

  -- so do others that rise from its key on
  pub rises_too : {J E : Type 0} (other : J → ℤ) (start : ℤ) → start ≡ key r
      → (js : List J) (result : Result (Option ℤ) E)
      → IfOk result (λ next. RisesFrom start (map other js) next)
      → IfOk result (λ next. RisesFrom from (map other js) next)
  rises_too other start at js (Ok next) h =
      from_lower other from start js next (subst (λ k. from ≤ℤ k) (sym at) both.0) h
  rises_too other start at js (Err e) h = h

-- ---- from the first on

pub from_first : (base : List Entry) → Rise base → (from start : ℤ) (e : Entry) (more : List Entry)
    → rows_from from base ≡ e ∷ more
    → start ≡ e.key → rows_from from base ≡ rows_from start base
from_first base rise from start e more is at = from_its_key from base e more rise is
    ∙ ap (λ k. rows_from k base) (sym at)

module _ {J : Type 0} (pair : J → Pair) (others base : List Entry) (rise : Rise base) (from start : ℤ)
    (e : Entry) (more : List Entry) (is : rows_from from base ≡ e ∷ more) (at : start ≡ e.key) where
  -- those that were joined
  pub joined_first : (done : List J) (next : Option ℤ) → AreJoined pair others base start done next
      → AreJoined pair others base from done next
  joined_first done next h = ap (paired others) (from_first base rise from start e more is at) ∙ h

module _ (others base : List Entry) (from start : ℤ) (e : Entry) (more : List Entry)
    (is : rows_from from base ≡ e ∷ more)
    (at : start ≡ e.key) where
  -- the one beside the first can't be read
  pub breaks_first : (Because : Error → Type 0) (Breaks BreaksOther : Rule → Entry → Type 0)
      (fault : TableFault)
      → BreaksUnder Because BreaksOther start others fault
      → BreaksFirst Because (BreaksPair Breaks BreaksOther) (paired others (rows_from from base)) fault
  breaks_first Because Breaks BreaksOther (Sqlite x) h = h
  breaks_first Because Breaks BreaksOther (Damaged broken) h = (
    pair_with others e,
    paired others more,
    ap (paired others) is,
    inr (subst (λ k. IsSomeAnd (row_under others k) (BreaksOther broken)) at h),
  )

-- where there were none, none follow
pub nothing_joined : {R J : Type 0} (entry : R → Entry) (pair : J → Pair) (others base : List Entry)
    (from : ℤ) (own : List R) (rest : Option ℤ) (rows : List J)
    → own ≡ [] → rest ≡ None → rows ≡ [] → rows_from from base ≡ map entry own ++ rows_after rest base
    → AreJoined pair others base from rows None
nothing_joined entry pair others base from own rest rows empty ended cleared is =
    rw cleared (ap (paired others)
    (is ∙ ap (λ l. map entry l ++ rows_after rest base) empty ∙ ap (λ r. rows_after r base) ended))

-- something was joined
pub none_joined : {J E : Type 0} (js : List J) (result : Result (Option ℤ) E) → OnOk result (js ≡ [] → ⊥)
    → IfOk result (λ next. js ≡ [] → next ≡ None)
none_joined js (Ok next) some = λ none. absurd (some none)
none_joined js (Err e) some = some

-- ---- pairs that are given

module _ {J : Type 0} (pair : J → Pair) (others rows : List Entry) (q : Entry → Bool) (pairs : List Pair)
    (are : pairs ≡ paired others rows) (from : ℤ) where
  abbrev given : List Pair
  given = filter (λ p. q p.entry) pairs

  -- as far as they were joined
  pub filled : (done : List J) (next : Option ℤ) → AreJoined pair others (filter q rows) from done next
      → items_from pair_key from given ≡ map pair done ++ items_after pair_key next given
  filled done next h =
      pairs_from others rows q pairs are from ∙ h
      ∙ ap (λ l. map pair done ++ l) (sym (pairs_after others rows q pairs are next))

module _ (others rows : List Entry) (q : Entry → Bool) (pairs : List Pair) (are : pairs ≡ paired others rows)
    (from : ℤ)
    (Because : Error → Type 0) (Breaks BreaksOther : Rule → Entry → Type 0) where
  -- the first row can't be read
  pub breaks_own : (fault : TableFault) → BreaksFirst Because Breaks (rows_from from (filter q rows)) fault
      → BreaksFirst Because (BreaksPair Breaks BreaksOther)
      (items_from pair_key from (filter (λ p. q p.entry) pairs)) fault
  breaks_own (Sqlite e) h = h
  breaks_own (Damaged broken) h = (
    pair_with others h.0,
    paired others h.1,
    pairs_from others rows q pairs are from ∙ ap (paired others) h.2,
    inl h.3,
  )

  -- the first pair can't be read
  pub breaks_given : (Before : Error → Type 0) → ((e : Error) → Before e → Because e) → (fault : TableFault)
      → BreaksFirst Before (BreaksPair Breaks BreaksOther)
      (paired others (rows_from from (filter q rows))) fault
      → BreaksFirst Because (BreaksPair Breaks BreaksOther)
      (items_from pair_key from (filter (λ p. q p.entry) pairs)) fault
  breaks_given Before then (Sqlite e) h = then e h
  breaks_given Before then (Damaged broken) h =
      (h.0, h.1, pairs_from others rows q pairs are from ∙ h.2, h.3)
