-- A text that is filled with spaces: the text, and spaces after it.
use Rattle.std.proofs.Common.{◌≡◌, ℕ, ◌-◌, true, false, List, ◌++◌, length, take, drop, replicate, refl, sym, ap, ◌∙◌}
use Rattle.std.proofs.Common.{arith}
use Rattle.std.specs.Str.{bytes_eq}
use Rattle.std.proofs.lemmas.{Bool.Decides.same_from_decides, Slice.Eq.bytes_eq-Decides}
use Rattle.std.proofs.lemmas.List.{length-drop, length-replicate, take_all, take_at, drop_at, take-append-drop}
use Rattle.std.proofs.lemmas.List.{drop-replicate}
use Rattle.message_records.specs.believed.Spelling.{filled}

-- what stands after the text, as the test sees it
rest_is : (n : ℕ) (bytes : List ℕ) → take (length bytes - n) (drop n bytes) ≡ drop n bytes
rest_is n bytes = take_all (length bytes - n) (drop n bytes) (omega (arith, length-drop n bytes))

spaces_are : (n : ℕ) → take {A = ℕ} (16 - n) (drop n (replicate 16 32)) ≡ replicate (16 - n) 32
spaces_are n =
    ap (take {A = ℕ} (16 - n)) (drop-replicate n 16 32)
    ∙ take_all (16 - n) (replicate (16 - n) 32) (omega (arith, length-replicate {A = ℕ} (16 - n) 32))

-- where the text stands in front, the bytes are filled just where spaces stand after it
pub filled_where_spaces : (bytes text : List ℕ) → bytes_eq (take (length text) bytes) text ≡ true
    → bytes_eq (take (length bytes - length text) (drop (length text) bytes))
    (take (16 - length text) (drop (length text) (replicate 16 32)))
    ≡ bytes_eq bytes (filled 16 text)
filled_where_spaces bytes text front =
    let n = length text in
    let head : take n bytes ≡ text = (bytes_eq-Decides (take n bytes) text).0 front in
    let rest = take (length bytes - n) (drop n bytes) in
    let spaces = take (16 - n) (drop n (replicate 16 32)) in
    let there : rest ≡ spaces → bytes ≡ filled 16 text = λ e.
    sym (take-append-drop n bytes)
    ∙ ap (λ (t : List ℕ). t ++ drop n bytes) head
    ∙ ap (λ (t : List ℕ). text ++ t) (sym (rest_is n bytes) ∙ e ∙ spaces_are n) in
    let back : bytes ≡ filled 16 text → rest ≡ spaces = λ e.
    rest_is n bytes ∙ ap (drop n) e ∙ drop_at text (replicate (16 - n) 32) n refl ∙ sym (spaces_are n) in
    let test = bytes_eq-Decides rest spaces in
    same_from_decides (bytes_eq rest spaces) (bytes_eq bytes (filled 16 text))
    (λ e. there (test.0 e), λ e. test.1 (back e)) (bytes_eq-Decides bytes (filled 16 text))

-- where another text stands in front, they aren't
pub filled_nowhere : (bytes text : List ℕ) → bytes_eq (take (length text) bytes) text ≡ false
    → false ≡ bytes_eq bytes (filled 16 text)
filled_nowhere bytes text other =
    let n = length text in
    let head : bytes ≡ filled 16 text → take n bytes ≡ text = λ e. ap (take n) e ∙ take_at text
    (replicate (16 - n) 32) n refl in
    let test = bytes_eq-Decides (take n bytes) text in
    same_from_decides false (bytes_eq bytes (filled 16 text))
    (λ e. absurd cc, λ e. let t : bytes_eq (take n bytes) text ≡ true = test.1 (head e) in cc)
    (bytes_eq-Decides bytes (filled 16 text))
