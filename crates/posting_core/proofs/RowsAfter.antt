-- Rows in a vector: new ones are put after the others.
use Rattle.std.proofs.Common.{◌≡◌, ℕ, zero, suc, ◌+◌, ◌<◌, Bool, true, false, cond, eqb, List, [], ◌∷◌, ◌++◌, map}
use Rattle.std.proofs.Common.{Option, Some, None, refl, sym, ap, subst, ◌∙◌, append_assoc, append-nil, arith}
use Rattle.std.specs.{Prelude.nat_eq, Cmp.nat_eq_equiv, List.IsDistinct, Option.option_or}
use Rattle.std.proofs.lemmas.{Bool.eqb-true, List.map-append, List.Elements.All-from_recursion}
use Rattle.std.proofs.lemmas.{List.Folds.find-append, List.Folds.list_any_none, Map.Keys.IsDistinct-push}
use Rattle.posting_rules.specs.believed.Tables.{row_at, HasKeys}
use Rattle.posting_rules.specs.ChangesByKey.{GainsRow, AddsRows, is_from}
use Rattle.posting_rules.proofs.RowChanges.{free_apart, from_none, not_yet, one_row_more, rows_none, rows_more}
use Rattle.posting_core.specs.Appended.{rows_from}

-- ---- one row after the others

or_put : {R : Type 0} (b : Bool) (o : Option R) (x : R) → (b ≡ true → o ≡ None)
    → option_or o (cond b (Some x) None) ≡ cond b (Some x) o
or_put true o x none = ap (λ p. option_or p (Some x)) (none refl)
or_put false (Some r) x none = refl
or_put false None x none = refl

-- what is under each key then, where the row's own was free
pub row_at-after : {R : Type 0} (key : R → ℕ) (rows : List R) (x : R) → row_at key rows (key x) ≡ None → (n : ℕ)
    → row_at key (rows ++ x ∷ []) n ≡ cond (eqb (key x) n) (Some x) (row_at key rows n)
row_at-after key rows x none n =
    find-append (λ r. eqb (key r) n) rows (x ∷ [])
    ∙ or_put (eqb (key x) n) (row_at key rows n) x (λ t. ap (row_at key rows) (sym (eqb-true (key x) n t)) ∙ none)

pub row_after : {R : Type 0} (key : R → ℕ) (rows : List R) (x : R) → HasKeys key rows
    → row_at key rows (key x) ≡ None → GainsRow key x rows (rows ++ x ∷ [])
row_after key rows x keys none =
    let apart = list_any_none (nat_eq (key x)) (map key rows) (All-from_recursion
    (λ j. nat_eq (key x) j ≡ false) (map key rows) (free_apart key rows (key x) none)) in
    record {
      rows = row_at-after key rows x none;
      keys = subst (λ (ks : List ℕ). IsDistinct nat_eq ks) (sym (map-append key rows (x ∷ [])))
          (IsDistinct-push nat_eq_equiv (map key rows) (key x) keys apart);
    }

-- ---- rows with numbers in a row after the others

pub row_at-from : {R : Type 0} (key : R → ℕ) (row : ℕ → R) (first count : ℕ) (rows : List R)
    → ((n : ℕ) → key (row n) ≡ n) → ((n : ℕ) → n < count → row_at key rows (first + n) ≡ None) → (n : ℕ)
    → row_at key (rows ++ rows_from row first count) n
    ≡ cond (is_from first count n) (Some (row n)) (row_at key rows n)
row_at-from {R} key row first zero rows own none n =
    ap (λ (l : List R). row_at key l n) (append-nil rows)
    ∙ ap (λ (b : Bool). cond b (Some (row n)) (row_at key rows n)) (sym (from_none first n))
row_at-from {R} key row first (suc count) rows own none n =
    let before = rows ++ rows_from row first count in
    let x = row (first + count) in
    let earlier = row_at-from key row first count rows own (λ k lt. none k (omega arith)) in
    let free : row_at key before (key x) ≡ None =
    ap (row_at key before) (own (first + count)) ∙ earlier (first + count)
    ∙ rw (not_yet first count) (none count (omega arith)) in
    ap (λ (l : List R). row_at key l n) (sym (append_assoc rows (rows_from row first count) (x ∷ [])))
    ∙ row_at-after key before x free n
    ∙ ap (λ (k : ℕ). cond (eqb k n) (Some x) (row_at key before n)) (own (first + count))
    ∙ ap (cond (eqb (first + count) n) (Some x)) (earlier n)
    ∙ one_row_more row first count n (row_at key rows n)

pub rows_after : {R : Type 0} (key : R → ℕ) (row : ℕ → R) (first count : ℕ) (rows : List R)
    → ((n : ℕ) → key (row n) ≡ n) → HasKeys key rows
    → ((n : ℕ) → n < count → row_at key rows (first + n) ≡ None)
    → AddsRows key row first count rows (rows ++ rows_from row first count)
rows_after key row first zero rows own keys none =
    subst (λ new. AddsRows key row first 0 rows new) (sym (append-nil rows))
    (rows_none key row first rows keys)
rows_after {R} key row first (suc count) rows own keys none =
    let before = rows ++ rows_from row first count in
    let x = row (first + count) in
    let same : before ++ x ∷ [] ≡ rows ++ (rows_from row first count ++ x ∷ []) = append_assoc rows
    (rows_from row first count) (x ∷ []) in
    subst (λ (new : List R). AddsRows key row first (suc count) rows new) same
    (rows_more key row first count rows before (before ++ x ∷ []) own
    (rows_after key row first count rows own keys (λ n lt. none n (omega arith))) (none count (omega arith))
    (λ distinct free. row_after key before x distinct free))
