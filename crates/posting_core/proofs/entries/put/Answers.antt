-- The text stands after what stood before it.
use Rattle.std.proofs.Common.{◌≡◌, ◌≤◌, ◌+◌, refl, ◌++◌, ◌∙◌, ℕ, List, take, length, ap, sym, arith}
use Rattle.std.proofs.Math.Seq.{take-append-add, take-append_seam}
use Rattle.std.proofs.lemmas.List.{length-take-le}
use Rattle.posting_core.proofs.entries.put.Goals as goal

after_it : (start n : ℕ) (entry text placed rest : List ℕ) → start ≤ length entry → placed ≡ text
    → n ≡ length text → take (start + n) (take start entry ++ (placed ++ rest)) ≡ take start entry ++ text
after_it start n entry text placed rest low same long =
    ap (λ (k : ℕ). take (k + n) (take start entry ++ (placed ++ rest))) (sym (length-take-le start entry low))
    ∙ take-append-add (take start entry) (placed ++ rest) n
    ∙ ap (λ (t : List ℕ). take start entry ++ take n (t ++ rest)) same
    ∙ ap (λ (k : ℕ). take start entry ++ take k (text ++ rest)) long
    ∙ ap (λ (t : List ℕ). take start entry ++ t) (take-append_seam text rest)

pub returns : goal.returns
returns c =
    after_it c.args.start _ c.args.entry.now c.args.text.now c.copy_from_slice.new.self _
    (omega (arith, c.requires, c.told-entry)) c.copy_from_slice.ensures.after refl
