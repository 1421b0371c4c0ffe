-- Prefixes of texts.
use Rattle.std.proofs.Common.{◌≤◌, ◌++◌, ◌∙◌, ℕ, List, length, take, drop, sym, ap, subst, append_assoc}
use Rattle.std.proofs.Common.{take-append-drop}
use Rattle.std.proofs.lemmas.List.{take-take, length-take-le}
use Rattle.std.proofs.Math.Seq.{take-length}
use lib.Seq.{take-append_seam}
use Rattle.posting_sheets.specs.Encoding.{IsPrefixOf}

pub prefix-all : (xs : List ℕ) → IsPrefixOf xs xs
prefix-all xs = sym (take-length xs)

pub prefix-append : (xs ys : List ℕ) → IsPrefixOf xs (xs ++ ys)
prefix-append xs ys = sym (take-append_seam xs ys)

pub prefix-take : (n : ℕ) (xs text : List ℕ) → n ≤ length xs → IsPrefixOf xs text → IsPrefixOf (take n xs) text
prefix-take n xs text within prefix =
    ap (λ (t : List ℕ). take n t) prefix ∙ take-take n (length xs) text within
    ∙ ap (λ (k : ℕ). take k text) (sym (length-take-le n xs within))

pub prefix-after : (xs ys : List ℕ) (n : ℕ) → IsPrefixOf (xs ++ take n ys) (xs ++ ys)
prefix-after xs ys n =
    subst (λ (t : List ℕ). IsPrefixOf (xs ++ take n ys) t)
    (append_assoc xs (take n ys) (drop n ys) ∙ ap (λ (t : List ℕ). xs ++ t) (take-append-drop n ys))
    (prefix-append (xs ++ take n ys) (drop n ys))
