-- Texts that are written one after another.
use Rattle.std.proofs.Common.{◌≡◌, ◌+◌, ℕ, List, [], ◌∷◌, ◌++◌, map, length, take, drop}
use Rattle.std.proofs.Common.{get_or, Option, Result, Ok, Err, sym, ap, subst, ◌∙◌, arith}
use Rattle.std.specs.Prelude.{OnErr, ◌<◌}
use Rattle.std.specs.Io.KnownBytes.{Appends}
use Rattle.std.proofs.{KnownBytes.Appends-nil, KnownBytes.Appends-trans, Math.Seq.take-append-add, Math.Seq.take-length}
use Rattle.std.proofs.lemmas.List.{take-append-le, take_more, take-append-drop, length-append, map-append}
use Rattle.posting_core.specs.EndCalls.{HasMore, HasWriteFailed, IsWriteFailure, WriteCall}
use Rattle.posting_core.proofs.Telling.{more_failed}
use Rattle.report_contents.specs.{Lines.text_of, Written.AppendsPart}
use Rattle.report_contents.proofs.Joined.{text_of-snoc, text_of-append}

-- nothing is a prefix of a text
pub nothing_written : (old : Option (List ℕ)) (text : List ℕ) → AppendsPart old old text
nothing_written old text = record { count = 0; within = omega arith; wrote = Appends-nil old }

-- all of a text, and a prefix of it
module _ (old new : Option (List ℕ)) where
  -- all of it is a prefix of it
  pub whole_part : (text : List ℕ) → Appends old new text → AppendsPart old new text
  whole_part text wrote = record {
    count = length text;
    within = omega arith;
    wrote = subst (λ (t : List ℕ). Appends old new t) (sym (take-length text)) wrote;
  }

  -- a prefix of the first text is one of both
  pub first_part : (a b : List ℕ) → AppendsPart old new a → AppendsPart old new (a ++ b)
  first_part a b h = record {
    count = h.count;
    within = omega (arith, h.within, length-append a b);
    wrote = subst (λ (t : List ℕ). Appends old new t) (sym (take-append-le h.count a b h.within)) h.wrote;
  }

  pub same_part : {a b : List ℕ} → a ≡ b → AppendsPart old new a → AppendsPart old new b
  same_part e h = subst (λ (t : List ℕ). AppendsPart old new t) e h

  pub same_all : {a b : List ℕ} → a ≡ b → Appends old new a → Appends old new b
  same_all e h = subst (λ (t : List ℕ). Appends old new t) e h

-- the first text, and a prefix of the second
pub then_part : (old mid new : Option (List ℕ)) (a b : List ℕ) → Appends old mid a
    → AppendsPart mid new b → AppendsPart old new (a ++ b)
then_part old mid new a b h k = record {
  count = length a + k.count;
  within = omega (arith, k.within, length-append a b);
  wrote = subst (λ (t : List ℕ). Appends old new t) (sym (take-append-add a b k.count))
      (Appends-trans old mid new a (take k.count b) h k.wrote);
}

-- a failure after what was written
pub later_failed : {old mid new : Option (List WriteCall)} → HasMore old mid → HasWriteFailed mid new
    → HasWriteFailed old new
later_failed h f = more_failed IsWriteFailure h f

-- ---- how a call ended

pub on_err_any : {A E : Type 0} {P : Type 0} (r : Result A E) → P → OnErr r P
on_err_any (Ok x) p = tt
on_err_any (Err e) p = p

-- ---- lines of a list

module _ {X : Type 0} (line : X → List ℕ) where
  -- the lines up to one, and that one
  pub lines_more : (xs : List X) (i : ℕ) (d : X) → i < length xs
      → text_of (map line (take (i + 1) xs)) ≡ text_of (map line (take i xs)) ++ line (get_or xs i d)
  lines_more xs i d lt =
      ap (λ (l : List X). text_of (map line l)) (take_more xs i d lt)
      ∙ ap text_of (map-append line (take i xs) (get_or xs i d ∷ []))
      ∙ text_of-snoc (map line (take i xs)) (line (get_or xs i d))

  -- after them stand those of the rest
  pub lines_split : (xs : List X) (i : ℕ) → text_of (map line (take i xs))
      ++ text_of (map line (drop i xs)) ≡ text_of (map line xs)
  lines_split xs i =
      sym (text_of-append (map line (take i xs)) (map line (drop i xs)))
      ∙ ap text_of (sym (map-append line (take i xs) (drop i xs)))
      ∙ ap (λ (l : List X). text_of (map line l)) (take-append-drop i xs)
