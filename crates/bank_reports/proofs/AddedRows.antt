-- Rows that were added one after another.
use Rattle.std.proofs.Common.{◌≡◌, ◌≤◌, ◌<◌, ◌⊎◌, ◌+◌, ◌++◌, ℕ, List, [], ◌∷◌, length, map, Err, sym, ap}
use Rattle.std.proofs.Common.{◌∙◌, append_assoc, append-nil, inl, inr, arith, subst}
use Rattle.std.specs.Prelude.{ℤ, pos, ◌+ℤ◌, ◌≤ℤ◌, ◌<ℤ◌}
use Rattle.std.proofs.lemmas.{Int.ints, List.length-append, List.map-append}
use Rattle.sqlite.specs.Effect.{Database}
use Rattle.posting_rules.specs.declared.fault.{Fault.Fault, Rule.Rule}
use Rattle.posting_rules.specs.declared.fault.Fault.TheVariants as faults
use Rattle.bank_store.specs.Walking.{Steps}
use Rattle.report_contents.specs.{Beside.AuditRows, declared.limits.TheConstants.MAX_ROWS}
use Rattle.bank_reports.specs.Adding.{AddsToSums, HasSums}
use Rattle.bank_reports.specs.{declared.sums.Sums.Sums}
use Rattle.walked_rows.specs.Broken.{HasBroken}

-- ---- the rows

-- so many rows were added, which are the first of those that were to come; the rest are to come
pub record IsGathered {R X : Type 0} (item : R → X) (HasItems : Database → List X → Type 0)
    (with_rows : AuditRows → List R → AuditRows) (db : Database)
    (Clean : Type 0) (old new : Sums) (all coming : List X → List X) (count : ℕ) : Type 0 where
  pub given : List R
  pub many : length given ≡ count
  pub are : Clean → (items : List X) → HasItems db items → map item given ++ coming items ≡ all items
  pub added : AddsToSums with_rows old new given

module _ {R X : Type 0} {item : R → X} {HasItems : Database → List X → Type 0}
    {with_rows : AuditRows → List R → AuditRows} {db : Database} {Clean Later : Type 0} {old mid : Sums}
    {all coming : List X → List X} {count : ℕ} (before : Later → Clean)
    (it : IsGathered item HasItems with_rows db Clean old mid all coming count) where
  -- one more
  pub one_more_row : (new : Sums) (left : List X → List X) (r : R)
      → (Later → (items : List X) → HasItems db items → coming items ≡ item r ∷ left items)
      → ((rows : AuditRows) (given : List R) → HasSums mid (with_rows rows given)
      → HasSums new (with_rows rows (given ++ r ∷ [])))
      → IsGathered item HasItems with_rows db Later old new all left (count + 1)
  one_more_row new left r step adds = record {
    given = it.given ++ r ∷ [];
    many = length-append it.given (r ∷ []) ∙ ap (λ n. n + 1) it.many;
    are = λ late items has.
        ap (λ l. l ++ left items) (map-append item it.given (r ∷ []))
        ∙ append_assoc (map item it.given) (item r ∷ []) (left items)
        ∙ ap (λ l. map item it.given ++ l) (sym (step late items has)) ∙ it.are (before late) items has;
    added = λ rows none. adds rows it.given (it.added rows none);
  }

  -- none is to come
  pub all_given : Later → (items : List X) → HasItems db items → coming items ≡ []
      → map item it.given ≡ all items
  all_given late items there none =
      sym (append-nil (map item it.given)) ∙ ap (λ l. map item it.given ++ l) (sym none)
      ∙ it.are (before late) items there

  -- the first to come is broken
  broken_row : (Breaks : X → Type 0) → Later → (items : List X) → HasItems db items
      → (e : X) (more : List X) → coming items ≡ e ∷ more → Breaks e
      → HasBroken Breaks (all items)
  broken_row Breaks late items there e more is breaks = (
    map item it.given,
    e,
    more,
    sym (it.are (before late) items there)
        ∙ ap (λ l. map item it.given ++ l) is,
    breaks,
  )

  -- what a step that failed says of all of them
  pub damaged_row : (Breaks : Rule → X → Type 0) → Later → (items : List X) → HasItems db items → (left : List X)
      → (fault : Fault) → Steps {R = R} item Breaks (coming items) left (Err fault)
      → (rule : Rule) → fault ≡ faults.Damaged rule → HasBroken (Breaks rule) (all items)
  damaged_row Breaks late items there left fault step rule is =
      let it = subst (λ f. Steps {R = R} item Breaks (coming items) left (Err f)) is step in
      broken_row (Breaks rule) late items there it.0 it.1 it.2 it.3

-- ---- how many there are

-- where there are so many rows with lesser keys, all of them above 0, a row with this key is after them
abbrev pub IsAfter : ℕ → ℤ → Type 0
IsAfter count key = (count ≡ 0) ⊎ (pos count <ℤ key)

-- so many rows were added, with lesser keys than those to come; all keys are above 0, and there are no more
-- than can be
pub record IsAlong (Comes : ℤ → Type 0) (count : ℕ) : Type 0 where
  pub next : ℤ
  pub comes : Comes next
  pub after : IsAfter count next
  pub few : count ≤ MAX_ROWS

module _ (Comes Later : ℤ → Type 0) (count : ℕ) (key : ℤ) (it : IsAlong Comes count)
    (from : it.next ≤ℤ key) (n : ℕ) (is : key ≡ pos n) (least : 1 ≤ n) where
  below : count < n
  below = elim it.after [
    | inl none ↦ omega (arith, none, least)
    | inr above ↦ omega (arith, ints, above, from, is)
  ]

  -- there is room for one more
  pub room_for : (most : ℕ) → n ≤ most → count < most
  room_for most within = let low = below in omega (arith, low, within)

  pub along_more : Later (key +ℤ pos 1) → n ≤ MAX_ROWS → IsAlong Later (count + 1)
  along_more comes within =
      let low = below in
      record {
        next = key +ℤ pos 1;
        comes = comes;
        after = inr (omega (arith, ints, low, is));
        few = omega (arith, low, within);
      }
