-- A text of each kept row after an ordinal, one row more.
use Rattle.std.proofs.Common.{◌≡◌, ◌++◌, ℕ, Bool, true, cond, List, [], ◌∷◌, map, filter, Option}
use Rattle.std.proofs.Common.{sym, ap, ◌∙◌, append-nil}
use Rattle.std.specs.List.{flat_map}
use Rattle.std.proofs.lemmas.List.{map-append, Concat.flat_map-append, Elements.filter-append}
use Rattle.report_contents.specs.Written.{AppendsPart}
use Rattle.report_contents.proofs.Written.{first_part, same_part}
use Rattle.walked_rows.specs.{KeptRows.KeptItem, KeptRows.kept_item, declared.kept.KeptRequest.KeptRequest}
use Rattle.bank_replays.specs.Writing.{is_after, texts_after}

module _ (text : KeptItem → List ℕ) (after : ℕ) where
  pub texts-append : (xs ys : List KeptItem) → texts_after text after (xs ++ ys) ≡ texts_after text after xs ++ texts_after text after ys
  texts-append xs ys =
      ap (flat_map text) (filter-append (is_after after) xs ys)
      ∙ flat_map-append text (filter (is_after after) xs) (filter (is_after after) ys)

  pub one_text : (k : KeptItem) → is_after after k ≡ true → texts_after text after (k ∷ []) ≡ text k
  one_text k is = ap (λ (b : Bool). flat_map text (cond b (k ∷ []) [])) is ∙ append-nil (text k)

  texts_more : (rows : List KeptRequest) (row : KeptRequest)
      → texts_after text after (map kept_item rows) ++ texts_after text after (kept_item row ∷ [])
      ≡ texts_after text after (map kept_item (rows ++ row ∷ []))
  texts_more rows row =
      sym (texts-append (map kept_item rows) (kept_item row ∷ []))
      ∙ ap (texts_after text after) (sym (map-append kept_item rows (row ∷ [])))

  pub text_more : (rows : List KeptRequest) (row : KeptRequest) → is_after after (kept_item row) ≡ true
      → texts_after text after (map kept_item rows) ++ text (kept_item row) ≡ texts_after text after (map kept_item (rows ++ row ∷ []))
  text_more rows row is =
      ap (λ (t : List ℕ). texts_after text after (map kept_item rows) ++ t) (sym (one_text (kept_item row) is))
      ∙ texts_more rows row

  -- those of the first rows are a prefix of those of all
  pub texts_part : (old new : Option (List ℕ)) (items rest all : List KeptItem) → items ++ rest ≡ all
      → AppendsPart old new (texts_after text after items) → AppendsPart old new (texts_after text after all)
  texts_part old new items rest all same part =
      same_part old new (sym (texts-append items rest) ∙ ap (texts_after text after) same)
      (first_part old new (texts_after text after items) (texts_after text after rest) part)
