-- The entries of the kept rows of a file that shows a log are those of the log.
use Rattle.std.proofs.Common.{◌≡◌, ◌<◌, ◌≤◌, ◌+◌, ◌++◌, ℕ, ℤ, pos, Bool, true, false, cond, List, [], ◌∷◌, length, map, filter}
use Rattle.std.proofs.Common.{drop, refl, sym, ap, ◌∙◌, append-nil, inl, inr, arith}
use Rattle.std.proofs.lemmas.{Bool.cases_Bool, List.Elements.filter-append}
use Rattle.std.proofs.lemmas.List.{drop-append-le, drop-map, drop_all, length-append, length-map, map-append}
use Rattle.sqlite.specs.Effect.{Database}
use Rattle.posting_rules.specs.believed.{Commands.Command, Entries.DecidedRequest, Entries.decided}
use Rattle.posting_rules.specs.believed.Tables.{AreTablesOf, Tables, request_row_of}
use Rattle.posting_rules.specs.declared.rows.RequestRow.{RequestRow}
use Rattle.posting_core.specs.believed.LogEntries.{AnsweredRequest, answered_after, answered_of, each_answered, entry_of, log_entries}
use Rattle.sql_meanings.specs.believed.Entries.{Entry}
use Rattle.store_rows.specs.believed.View.{Shows}
use Rattle.walked_rows.specs.KeptRows.{KeptItem, kept_key}
use Rattle.bank_store.specs.KeptEntries.{answered_in, entry_in}
use Rattle.bank_store.proofs.LogRows.{Stand, item_of, kept_is, kept_of, last_answered, postings, references}
use Rattle.bank_store.proofs.LogRows.{requests_of, stand_earlier, stand_in}

pub answered_length : (es : List DecidedRequest) → length (each_answered es) ≡ length es
answered_length [] = refl
answered_length (e ∷ es) =
    let earlier = answered_length es in
    omega (arith, earlier, length-append (each_answered es) (answered_of e ∷ []))

rows_length : (es : List DecidedRequest) → length (requests_of es) ≡ length es
rows_length [] = refl
rows_length (e ∷ es) =
    let earlier = rows_length es in
    omega (arith, earlier, length-append (requests_of es) (request_row_of (length es + 1) e ∷ []))

-- as many entries as requests are decided
pub entries_length : (log : List Command) → length (log_entries log) ≡ length (decided log)
entries_length log = length-map (answered_after log) entry_of ∙ answered_length (decided log)

each_entry : (ks : List KeptItem) → map entry_in ks ≡ map entry_of (map answered_in ks)
each_entry [] = refl
each_entry (k ∷ ks) = ap (λ (l : List (List ℕ)). entry_in k ∷ l) (each_entry ks)

-- ---- the rows whose ordinals are above a number, as this tells

-- the ordinal is above the number, or it isn't
pub record TellsAfter (after : ℕ) (is_after : ℤ → Bool) : Type 0 where
  pub above : (n : ℕ) → is_after (pos n) ≡ true → after < n
  pub below : (n : ℕ) → is_after (pos n) ≡ false → n ≤ after

module _ (after : ℕ) (is_after : ℤ → Bool) (tells : TellsAfter after is_after) where
  -- those above it, as their entries have them
  abbrev pub since : List KeptItem → List AnsweredRequest
  since items = map answered_in (filter (λ k. is_after (kept_key k)) items)

  since-append : (xs ys : List KeptItem) → since (xs ++ ys) ≡ since xs ++ since ys
  since-append xs ys =
      ap (map answered_in) (filter-append (λ k. is_after (kept_key k)) xs ys)
      ∙ map-append answered_in (filter (λ k. is_after (kept_key k)) xs) (filter (λ k. is_after (kept_key k)) ys)

  one_since : (k : KeptItem) → is_after (kept_key k) ≡ true → since (k ∷ []) ≡ answered_in k ∷ []
  one_since k is = ap (λ (b : Bool). map answered_in (cond b (k ∷ []) [])) is

  none_since : (k : KeptItem) → is_after (kept_key k) ≡ false → since (k ∷ []) ≡ []
  none_since k is = ap (λ (b : Bool). map answered_in (cond b (k ∷ []) [])) is

  module _ (P Q : List Entry) where
    rows_since : (es : List DecidedRequest) → Stand P Q es
        → since (map (item_of P Q) (requests_of es)) ≡ drop after (each_answered es)
    rows_since [] stand = sym (drop_all after [] (omega arith))
    rows_since (e ∷ es) stand =
        ap since (map-append (item_of P Q) (requests_of es) (r ∷ []))
        ∙ since-append (map (item_of P Q) (requests_of es)) (k ∷ [])
        ∙ ap (λ (l : List AnsweredRequest). l ++ since (k ∷ [])) (rows_since es (stand_earlier P Q e es stand))
        ∙ last
      where
        r : RequestRow
        r = request_row_of (length es + 1) e

        k : KeptItem
        k = item_of P Q r

        last : drop after (each_answered es) ++ since (k ∷ []) ≡ drop after (each_answered es ++ answered_of e ∷ [])
        last = elim (cases_Bool (is_after (kept_key k))) [
          | inl t ↦
              let low : after < length es + 1 = tells.above (length es + 1) t in
              ap (λ (l : List AnsweredRequest). drop after (each_answered es) ++ l)
              (one_since k t ∙ ap (λ (a : AnsweredRequest). a ∷ []) (last_answered P Q e es stand))
              ∙ sym (drop-append-le after (each_answered es) (answered_of e ∷ [])
              (omega (arith, low, answered_length es)))
          | inr f ↦
              let high : length es + 1 ≤ after = tells.below (length es + 1) f in
              ap (λ (l : List AnsweredRequest). drop after (each_answered es) ++ l) (none_since k f)
              ∙ append-nil (drop after (each_answered es))
              ∙ drop_all after (each_answered es) (omega (arith, high, answered_length es))
              ∙ sym (drop_all after (each_answered es ++ answered_of e ∷ [])
              (omega (arith, high, answered_length es, length-append (each_answered es) (answered_of e ∷ []))))
        ]

  module _ (db : Database) (t : Tables) (log : List Command) (in_file : Shows db t) (shows : AreTablesOf t log) where
    -- of a log: all but the first so many
    pub answered_since : since (kept_of db t log in_file shows) ≡ drop after (answered_after log)
    answered_since =
        ap since (kept_is db t log in_file shows)
        ∙ rows_since (postings db t log in_file shows) (references db t log in_file shows) (decided log)
        (stand_in db t log in_file shows)

    -- their entries
    pub entries_since : map entry_in (filter (λ k. is_after (kept_key k)) (kept_of db t log in_file shows))
        ≡ drop after (log_entries log)
    entries_since =
        each_entry (filter (λ k. is_after (kept_key k)) (kept_of db t log in_file shows))
        ∙ ap (map entry_of) answered_since
        ∙ sym (drop-map entry_of after (answered_after log))

-- as many rows are kept as the log has entries
pub kept_length : (db : Database) (t : Tables) (log : List Command) (in_file : Shows db t) (shows : AreTablesOf t log)
    → length (kept_of db t log in_file shows) ≡ length (log_entries log)
kept_length db t log in_file shows =
    ap (λ (l : List KeptItem). length l) (kept_is db t log in_file shows)
    ∙ length-map (requests_of (decided log))
    (item_of (postings db t log in_file shows) (references db t log in_file shows))
    ∙ rows_length (decided log)
    ∙ sym (entries_length log)
