-- Rows that get their references, one after another.
use Rattle.std.proofs.Common.{◌≡◌, ◌+ℤ◌, ℤ, pos, List, [], ◌∷◌, ◌++◌, map, Some, Option, refl, sym, ap, subst, ◌∙◌}
use Rattle.sqlite.specs.declared.error.Error.{Error}
use Rattle.posting_rules.specs.declared.fault.Rule.{Rule}
use Rattle.sql_meanings.specs.{believed.Entries.Entry, believed.Entries.Rise, Seeks.is_from}
use Rattle.store_rows.specs.declared.fault.TableFault.TheVariants.{Damaged}
use Rattle.walked_rows.specs.{Pairs.row_under, Referring.AreReferred, Referring.referred_all}
use Rattle.walked_rows.specs.{Rows.rows_from, StepOutcomes.BreaksFirst}
use Rattle.walked_rows.proofs.{Gathering.first_left, Gathering.found_of, Joining.first_of, Joining.rest_of}

module _ {Own Item R : Type 0} (entry : Own → Entry) (joined : Own → Option Entry → Item) (item : R → Item)
    (view : Entry → Own) (same : (e : Entry) → entry (view e) ≡ e) (others : List Entry) where
  abbrev all_of : List Entry → List Item
  all_of = referred_all joined view others

  -- what is given of a row
  abbrev given_of : Own → Item
  given_of o = joined o (row_under others (entry o).key)

  by_own : (es : List Entry) → all_of es ≡ map given_of (map view es)
  by_own [] = refl
  by_own (e ∷ es) =
      ap (λ (x : Entry). joined (view e) (row_under others x.key) ∷ all_of es) (sym (same e))
      ∙ ap (λ l. given_of (view e) ∷ l) (by_own es)

  -- rows that are seen as the same are given as the same
  pub referred_after : (xs ys : List Entry) → map view xs ≡ map view ys → all_of xs ≡ all_of ys
  referred_after xs ys is = by_own xs ∙ ap (map given_of) is ∙ sym (by_own ys)

  module _ (base : List Entry) (rise : Rise base) (start : ℤ) where
    abbrev SoFar : List R → ℤ → Type 0
    SoFar done next = AreReferred joined view item others base start done (Some next)

    -- the first of those to come, and the others follow after its key
    first_own : (next : ℤ) (o : Own) (more : List Own) → map view (rows_from next base) ≡ o ∷ more
        → (rows_from next base ≡ entry o ∷ rows_from ((entry o).key +ℤ pos 1) base) × (view (entry o) ≡ o)
        × (map view (rows_from ((entry o).key +ℤ pos 1) base) ≡ more)
    first_own next o more is = go (rows_from next base) refl is
      where
        go : (es : List Entry) → rows_from next base ≡ es → map view es ≡ o ∷ more
            → (rows_from next base ≡ entry o ∷ rows_from ((entry o).key +ℤ pos 1) base) × (view (entry o) ≡ o)
            × (map view (rows_from ((entry o).key +ℤ pos 1) base) ≡ more)
        go [] are seen = absurd cc
        go (e ∷ es) are seen =
            let at : view e ≡ o = first_of (view e) o (map view es) more seen in
            let left = first_left next base e rise (found_of (is_from next) base e es are) in
            let after : rows_from (e.key +ℤ pos 1) base ≡ es =
            rest_of e e (rows_from (e.key +ℤ pos 1) base) es (sym left ∙ are) in
            subst (λ (x : Entry). (rows_from next base ≡ x ∷ rows_from (x.key +ℤ pos 1) base) × (view x ≡ o)
            × (map view (rows_from (x.key +ℤ pos 1) base) ≡ more)) (sym (same e) ∙ ap entry at)
            (left, at, ap (map view) after ∙ rest_of (view e) o (map view es) more seen)

    -- one more
    pub refers_on : (done : List R) (next : ℤ) (r : R) (o : Own) (more : List Own) → SoFar done next
        → map view (rows_from next base) ≡ o ∷ more → item r ≡ given_of o
        → (map view (rows_from ((entry o).key +ℤ pos 1) base) ≡ more)
        × SoFar (done ++ r ∷ []) ((entry o).key +ℤ pos 1)
    refers_on done next r o more so_far is made =
        let it = first_own next o more is in
        let after = all_of (rows_from ((entry o).key +ℤ pos 1) base) in (
          it.2,
          so_far ∙ ap (λ l. map item done ++ all_of l) it.0
              ∙ ap (λ x. map item done ++ joined x (row_under others (entry o).key) ∷ after) it.1
              ∙ ap (λ x. map item done ++ x ∷ after) (sym made)
              ∙ beyond done after,
        )
      where
        beyond : (xs : List R) (ks : List Item) → map item xs ++ item r ∷ ks ≡ map item (xs ++ r ∷ []) ++ ks
        beyond [] ks = refl
        beyond (x ∷ xs) ks = ap (λ l. item x ∷ l) (beyond xs ks)

    -- the reference of the first can't be read
    pub refers_none : (Because : Error → Type 0) (Breaks : Rule → Item → Type 0) (done : List R) (next : ℤ) (o : Own)
        (more : List Own) (broken : Rule) → SoFar done next → done ≡ [] → map view (rows_from next base) ≡ o ∷ more
        → Breaks broken (given_of o)
        → BreaksFirst Because Breaks (all_of (rows_from start base)) (Damaged broken)
    refers_none Because Breaks done next o more broken so_far none is broke =
        let it = first_own next o more is in
        let after = all_of (rows_from ((entry o).key +ℤ pos 1) base) in (
          given_of o,
          after,
          so_far ∙ ap (λ l. map item l ++ all_of (rows_from next base)) none ∙ ap all_of it.0
              ∙ ap (λ x. joined x (row_under others (entry o).key) ∷ after) it.1,
          broke,
        )
