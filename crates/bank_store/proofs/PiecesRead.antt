-- Entries of rows that are read piece by piece.
use Rattle.std.proofs.Common.{◌≡◌, ◌⊎◌, ◌<◌, ◌≤◌, ◌+◌, ◌-◌, ◌++◌, ◌∙◌, ℕ, suc, pos, true, false, List, [], ◌∷◌, length, map}
use Rattle.std.proofs.Common.{take, drop, get_or, refl, sym, ap, subst, append-nil, append_assoc, arith, inl, inr}
use Rattle.std.proofs.Common.{int_cmp}
use Rattle.std.specs.{List.AllByRecursion, Ordering.is_ge}
use Rattle.std.proofs.lemmas.{Int.ints, List.Concat.flat_map-append, List.length-append, List.length-map, List.map-append}
use Rattle.std.proofs.lemmas.List.{drop_more, take-append-drop, take-append-le, take-map, take_all, take_more}
use Rattle.sqlite.specs.Effect.{Database}
use Rattle.posting_core.specs.believed.{Batches.joined, LogEntries.log_entries}
use Rattle.posting_core.specs.declared.followed.TheConstants.{ENTRIES_PER_ANSWER}
use Rattle.posting_rules.specs.believed.{Commands.Command, Tables.AreTablesOf, Tables.Tables}
use Rattle.store_rows.specs.believed.View.{Shows}
use Rattle.walked_rows.specs.{Broken.HasBroken, KeptRows.KeptItem, KeptRows.kept_item, KeptRows.kept_key}
use Rattle.walked_rows.specs.{Requests.IsAnsweredRow, Requests.IsNoRequest, Rows.items_from}
use Rattle.walked_rows.specs.declared.kept.KeptRequest.{KeptRequest}
use Rattle.walked_rows.proofs.RisingRows.{all-append}
use Rattle.bank_store.specs.KeptEntries.{entry_in, given_after}
use Rattle.bank_store.proofs.{LogEntries.TellsAfter, LogEntries.entries_since, LogRows.kept_of}

joined-append : (xs ys : List (List ℕ)) → joined (xs ++ ys) ≡ joined xs ++ joined ys
joined-append xs ys = flat_map-append (λ (text : List ℕ). text) xs ys

-- the entries of some and of others, after what was there
put_both : (old mid new : List ℕ) (done rows : List KeptItem) → mid ≡ old ++ joined (map entry_in done)
    → new ≡ mid ++ joined (map entry_in rows) → new ≡ old ++ joined (map entry_in (done ++ rows))
put_both old mid new done rows first then =
    then ∙ ap (λ (l : List ℕ). l ++ joined (map entry_in rows)) first
    ∙ append_assoc old (joined (map entry_in done)) (joined (map entry_in rows))
    ∙ ap (λ (l : List ℕ). old ++ l)
    (sym (joined-append (map entry_in done) (map entry_in rows))
    ∙ ap joined (sym (map-append entry_in done rows)))

-- past those that are done
take_past : {X : Type 0} (done xs : List X) (m : ℕ) → take (length done + m) (done ++ xs) ≡ done ++ take m xs
take_past [] xs m = let none : 0 + m ≡ m = omega arith in ap (λ n. take n xs) none
take_past (d ∷ done) xs m =
    let more : length (d ∷ done) + m ≡ suc (length done + m) = omega arith in
    ap (λ n. take n (d ∷ (done ++ xs))) more ∙ ap (λ l. d ∷ l) (take_past done xs m)

-- so many of the rows were put as entries, and the others are to come
pub record SoFar (whole coming : List KeptItem) (given : ℕ) (old new : List ℕ) : Type 0 where
  pub done : List KeptItem
  pub are : whole ≡ done ++ coming
  pub many : length done ≡ given
  pub put : new ≡ old ++ joined (map entry_in done)
  pub each : AllByRecursion IsAnsweredRow done

pub none_yet : (whole : List KeptItem) (old : List ℕ) → SoFar whole whole 0 old old
none_yet whole old =
    record { done = []; are = refl; many = refl; put = sym (append-nil old); each = tt }

module _ (whole coming rows more : List KeptItem) (given left : ℕ) (old mid new : List ℕ)
    (so_far : SoFar whole coming given old mid) (are : coming ≡ rows ++ more)
    (put : new ≡ mid ++ joined (map entry_in (take left rows)))
    (each : AllByRecursion IsAnsweredRow (take left rows)) where
  -- all of a piece were put, and there is room for more
  pub goes_on : length rows ≤ left → SoFar whole more (given + length rows) old new
  goes_on few =
      let all = take_all left rows few in
      record {
        done = so_far.done ++ rows;
        are = so_far.are ∙ ap (λ (l : List KeptItem). so_far.done ++ l) are
            ∙ sym (append_assoc so_far.done rows more);
        many = length-append so_far.done rows ∙ ap (λ n. n + length rows) so_far.many;
        put = put_both old mid new so_far.done rows so_far.put (rw all at put);
        each = all-append IsAnsweredRow so_far.done rows so_far.each
            (subst (AllByRecursion IsAnsweredRow) all each);
      }

  -- no more are given
  module _ (is : given + left ≡ ENTRIES_PER_ANSWER) (last : (more ≡ []) ⊎ (left ≤ length rows)) where
    taken : take left coming ≡ take left rows
    taken = ap (take left) are ∙ elim last [
      | inl none ↦ ap (λ (l : List KeptItem). take left (rows ++ l)) none ∙ ap (take left) (append-nil rows)
      | inr enough ↦ take-append-le left rows more enough
    ]

    given_are : take ENTRIES_PER_ANSWER whole ≡ so_far.done ++ take left rows
    given_are =
        ap (λ n. take n whole) (sym is ∙ ap (λ n. n + left) (sym so_far.many))
        ∙ ap (take (length so_far.done + left)) so_far.are
        ∙ take_past so_far.done coming left
        ∙ ap (λ (l : List KeptItem). so_far.done ++ l) taken

    pub all_put : (new ≡ old ++ joined (map entry_in (take ENTRIES_PER_ANSWER whole)))
        × AllByRecursion IsAnsweredRow (take ENTRIES_PER_ANSWER whole)
    all_put =
        rw given_are (
          put_both old mid new so_far.done (take left rows) so_far.put put,
          all-append IsAnsweredRow so_far.done (take left rows) so_far.each each,
        )

-- ---- a piece of what is to come was read, and the entries of its rows were put

module _ (whole coming more : List KeptItem) (rows : List KeptRequest) (left later : ℕ) (old mid new : List ℕ)
    (within : left ≤ ENTRIES_PER_ANSWER) (so_far : SoFar whole coming (ENTRIES_PER_ANSWER - left) old mid)
    (are : coming ≡ map kept_item rows ++ more)
    (put : new ≡ mid ++ joined (map entry_in (take left (map kept_item rows))))
    (each : AllByRecursion IsAnsweredRow (take left (map kept_item rows)))
    (is : later ≡ left - length rows) where
  many : length (map kept_item rows) ≡ length rows
  many = length-map rows kept_item

  -- there is room for more
  pub piece_goes_on : 1 ≤ later → SoFar whole more (ENTRIES_PER_ANSWER - later) old new
  piece_goes_on some =
      subst (λ n. SoFar whole more n old new) (omega (arith, within, many, is, some))
      (goes_on whole coming (map kept_item rows) more (ENTRIES_PER_ANSWER - left) left old mid new so_far are put each
      (omega (arith, many, is, some)))

  -- no more are to come, or none more is given
  pub piece_ends : (more ≡ []) ⊎ (later ≡ 0)
      → (new ≡ old ++ joined (map entry_in (take ENTRIES_PER_ANSWER whole)))
      × AllByRecursion IsAnsweredRow (take ENTRIES_PER_ANSWER whole)
  piece_ends last =
      all_put whole coming (map kept_item rows) more (ENTRIES_PER_ANSWER - left) left old mid new so_far are put each
      (omega (arith, within)) (elim last [
        | inl none ↦ inl none
        | inr full ↦ inr (omega (arith, many, is, full))
      ])

-- ---- one row more of a piece

module _ (rows : List KeptRequest) (i : ℕ) (row : KeptRequest) (low : i < length rows) (is : row ≡ get_or rows i row) where
  one_more : map kept_item (take (i + 1) rows) ≡ map kept_item (take i rows) ++ kept_item row ∷ []
  one_more =
      ap (map kept_item) (take_more rows i row low ∙ ap (λ (r : KeptRequest). take i rows ++ r ∷ []) (sym is))
      ∙ map-append kept_item (take i rows) (row ∷ [])

  pub put_one : (old mid new entry : List ℕ) → mid ≡ old ++ joined (map entry_in (map kept_item (take i rows)))
      → new ≡ mid ++ entry → entry ≡ entry_in (kept_item row)
      → new ≡ old ++ joined (map entry_in (map kept_item (take (i + 1) rows)))
  put_one old mid new entry so_far then same =
      put_both old mid new (map kept_item (take i rows)) (kept_item row ∷ []) so_far
      (then ∙ ap (λ (l : List ℕ). mid ++ l) (same ∙ sym (append-nil (entry_in (kept_item row)))))
      ∙ ap (λ (l : List KeptItem). old ++ joined (map entry_in l)) (sym one_more)

  pub each_one : AllByRecursion IsAnsweredRow (map kept_item (take i rows)) → IsAnsweredRow (kept_item row)
      → AllByRecursion IsAnsweredRow (map kept_item (take (i + 1) rows))
  each_one so_far answered =
      subst (AllByRecursion IsAnsweredRow) (sym one_more)
      (all-append IsAnsweredRow (map kept_item (take i rows)) (kept_item row ∷ []) so_far (answered, tt))

  -- it is that of no request
  pub broken_one : IsNoRequest (kept_item row) → HasBroken IsNoRequest (map kept_item rows)
  broken_one none = (
    map kept_item (take i rows),
    kept_item row,
    map kept_item (drop (i + 1) rows),
    ap (map kept_item) (sym (take-append-drop i rows)
        ∙ ap (λ (l : List KeptRequest). take i rows ++ l)
        (drop_more rows i row low ∙ ap (λ (r : KeptRequest). r ∷ drop (i + 1) rows) (sym is)))
        ∙ map-append kept_item (take i rows) (row ∷ drop (i + 1) rows),
    none,
  )

-- ---- the rows whose ordinals are from a number on

above : (after n : ℕ) → is_ge (int_cmp (pos n) (pos (after + 1))) ≡ true → after < n
above after n is = grind (arith, ints)

below : (after n : ℕ) → is_ge (int_cmp (pos n) (pos (after + 1))) ≡ false → n ≤ after
below after n is = grind (arith, ints)

pub tells_from : (after : ℕ) → TellsAfter after (λ z. is_ge (int_cmp z (pos (after + 1))))
tells_from after = record { above = above after; below = below after }

-- what is given of a log
pub given_of_log : (db : Database) (t : Tables) (log : List Command) (in_file : Shows db t) (shows : AreTablesOf t log)
    (after : ℕ) → joined (map entry_in (given_after after (kept_of db t log in_file shows)))
    ≡ joined (take ENTRIES_PER_ANSWER (drop after (log_entries log)))
given_of_log db t log in_file shows after =
    ap joined (sym (take-map entry_in ENTRIES_PER_ANSWER
    (items_from kept_key (pos (after + 1)) (kept_of db t log in_file shows)))
    ∙ ap (take ENTRIES_PER_ANSWER)
    (entries_since after (λ z. is_ge (int_cmp z (pos (after + 1)))) (tells_from after) db t log in_file shows))
