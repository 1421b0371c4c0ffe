-- Kept requests that are given.
use Rattle.std.proofs.Common.{◌≡◌, ℤ, List, [], ◌∷◌, ◌++◌, map, filter, true, Some, None, Option}
use Rattle.std.proofs.Common.{refl, sym, ap, subst, ◌∙◌, inl}
use Rattle.sqlite.specs.declared.error.Error.{Error}
use Rattle.sql_meanings.specs.{believed.Entries.Entry, Seeks.is_from}
use Rattle.store_rows.specs.declared.fault.TableFault.{TableFault, TheVariants.Sqlite, TheVariants.Damaged}
use Rattle.walked_rows.specs.KeptRows.{AreKept, BreaksKept, KeptItem, kept_all, kept_item, kept_key, kept_with}
use Rattle.walked_rows.specs.Pairs.{pair_key, pair_with, paired}
use Rattle.walked_rows.specs.{StepOutcomes.BreaksFirst, declared.joined.Joined.Joined}
use Rattle.walked_rows.specs.{declared.kept.KeptRequest.KeptRequest, declared.postings.StoredPosting.StoredPosting}
use Rattle.walked_rows.specs.Rows.{items_after, items_from, rows_after, rows_from}
use Rattle.walked_rows.specs.Stored.{BreaksAsked, asked_pair}
use Rattle.walked_rows.specs.declared.requests.StoredRequest.{StoredRequest}
use Rattle.walked_rows.proofs.Joining.{first_of, image_filter, pairs_after, pairs_from}

module _ (postings others rows : List Entry) (all : List KeptItem) (are : all ≡ kept_all postings others rows) where
  abbrev given : List KeptItem
  given = filter (λ _. true) all

  abbrev base : List Entry
  base = filter (λ _. true) rows

  pub kept_from : (k : ℤ) → items_from kept_key k given ≡ kept_all postings others (rows_from k base)
  kept_from k =
      ap (λ ks. items_from kept_key k (filter (λ _. true) ks)) are
      ∙ ap (items_from kept_key k) (image_filter (kept_with postings others) (λ _. true) (λ _. true) (λ _. refl) rows)
      ∙ image_filter (kept_with postings others) (is_from k) _ (λ _. refl) base

  pub kept_from_next : (rest : Option ℤ)
      → items_after kept_key rest given ≡ kept_all postings others (rows_after rest base)
  kept_from_next None = refl
  kept_from_next (Some k) = kept_from k

  module _ (from : ℤ) where
    -- as far as they were gathered
    pub kept_so_far : (done : List KeptRequest) (next : Option ℤ) → AreKept postings others base from done next
        → items_from kept_key from given ≡ map kept_item done ++ items_after kept_key next given
    kept_so_far done next h =
        kept_from from ∙ h ∙ ap (λ l. map kept_item done ++ l) (sym (kept_from_next next))

    module _ (Because : Error → Type 0) where
      -- the first row or its posting can't be read
      pub kept_breaks_own : (fault : TableFault)
          → BreaksFirst Because BreaksAsked (paired postings (rows_from from base)) fault
          → BreaksFirst Because BreaksKept (items_from kept_key from given) fault
      kept_breaks_own (Sqlite e) h = h
      kept_breaks_own (Damaged broken) h = go (rows_from from base) refl h.2
        where
          go : (es : List Entry) → rows_from from base ≡ es → paired postings es ≡ h.0 ∷ h.1
              → BreaksFirst Because BreaksKept (items_from kept_key from given) (Damaged broken)
          go [] is same = absurd cc
          go (e ∷ es) is same = (
            kept_with postings others e,
            kept_all postings others es,
            kept_from from ∙ ap (kept_all postings others) is,
            inl (subst (BreaksAsked broken)
                (sym (first_of (pair_with postings e) h.0 (paired postings es) h.1 same)) h.3),
          )

      -- the first can't be read
      pub kept_breaks : (Before : Error → Type 0) → ((e : Error) → Before e → Because e) → (fault : TableFault)
          → BreaksFirst Before BreaksKept (kept_all postings others (rows_from from base)) fault
          → BreaksFirst Because BreaksKept (items_from kept_key from given) fault
      kept_breaks Before then (Sqlite e) h = then e h
      kept_breaks Before then (Damaged broken) h = (h.0, h.1, kept_from from ∙ h.2, h.3)

-- ---- rows of `request` with those of `history`, as they were read

module _ (postings rows : List Entry) (from : ℤ) where
  -- as far as they were
  pub asked_read : (done : List (Joined StoredRequest StoredPosting)) (rest : Option ℤ)
      → items_from pair_key from (filter (λ _. true) (paired postings rows))
      ≡ map asked_pair done ++ items_after pair_key rest (filter (λ _. true) (paired postings rows))
      → paired postings (rows_from from (filter (λ _. true) rows))
      ≡ map asked_pair done ++ paired postings (rows_after rest (filter (λ _. true) rows))
  asked_read done rest read =
      sym (pairs_from postings rows (λ _. true) (paired postings rows) refl from) ∙ read
      ∙ ap (λ l. map asked_pair done ++ l)
      (pairs_after postings rows (λ _. true) (paired postings rows) refl rest)

  -- the first can't be
  pub asked_breaks : (Because : Error → Type 0) (fault : TableFault)
      → BreaksFirst Because BreaksAsked (items_from pair_key from (filter (λ _. true) (paired postings rows)))
      fault
      → BreaksFirst Because BreaksAsked (paired postings (rows_from from (filter (λ _. true) rows))) fault
  asked_breaks Because fault = subst (λ l. BreaksFirst Because BreaksAsked l fault)
      (pairs_from postings rows (λ _. true) (paired postings rows) refl from)
