-- Writing digits from the last one, and fields from the first one.
use Rattle.std.proofs.Common.{◌≡◌, ℕ, suc, ◌+◌, ◌-◌, ◌/◌, ◌%◌, ◌<◌, ◌≤◌, List, [], ◌∷◌, ◌++◌, length, take}
use Rattle.std.proofs.Common.{drop, set, replicate, sym, ap, ◌∙◌, append_assoc, arith}
use borrow.Rule.Slice.PartMut.{put_mid}
use Rattle.std.proofs.lemmas.Slice.{take-put_mid, drop-put_mid}
use Rattle.std.proofs.lemmas.List.{length-append, length-take, length-drop, take-append-drop, drop-drop}
use Rattle.std.proofs.lemmas.List.{drop-set, drop-replicate}
use Rattle.message_records.specs.believed.Spelling.{digits}

-- one more digit, before the digits that are written
pub digit_step : (k p rest : ℕ) (out : List ℕ) → p ≡ suc k → k < length out
    → digits k (rest / 10) ++ drop k (set out k (48 + rest % 10)) ≡ digits p rest ++ drop p out
unfolding digits
digit_step k p rest out e lt =
    let same : k + 1 ≡ suc k = omega arith in
    ap (λ (t : List ℕ). digits k (rest / 10) ++ t) (drop-set out k (48 + rest % 10) lt)
    ∙ sym (append_assoc (digits k (rest / 10)) ((48 + rest % 10) ∷ []) (drop (k + 1) out))
    ∙ ap (λ (j : ℕ). digits (suc k) rest ++ drop j out) same
    ∙ ap (λ (j : ℕ). digits j rest ++ drop j out) (sym e)

-- no digit is left
pub digits_done : (out ds : List ℕ) (p n : ℕ) → p ≡ 0 → digits p n ++ drop p out ≡ ds → out ≡ ds
unfolding digits
digits_done out ds p n z e = ap (λ (j : ℕ). digits j n ++ drop j out) (sym z) ∙ e

-- the place of a field has the field's length
pub place_length : (w n : ℕ) (bytes : List ℕ) → w + n ≤ length bytes
    → length (take (w + n - w) (drop w bytes)) ≡ n
place_length w n bytes le = omega (arith, length-take (w + n - w) (drop w bytes), length-drop w bytes)

-- a field is written after what is written
pub field_front : (w n : ℕ) (bytes field : List ℕ) → w ≤ length bytes → length field ≡ n
    → take (w + n) (put_mid w (w + n - w) bytes field) ≡ take w bytes ++ field
field_front w n bytes field le len = take-put_mid w (w + n - w) bytes field (w + n) (omega arith) le

-- spaces stay after it
pub field_rest : (size w n : ℕ) (bytes field : List ℕ) → w ≤ length bytes → length field ≡ n
    → drop w bytes ≡ replicate (size - w) 32
    → drop (w + n) (put_mid w (w + n - w) bytes field) ≡ replicate (size - (w + n)) 32
field_rest size w n bytes field le len e =
    drop-put_mid w (w + n - w) bytes field (w + n) (omega arith) le (omega arith)
    ∙ sym (drop-drop n w bytes) ∙ ap (drop n) e ∙ drop-replicate n (size - w) 32
    ∙ ap (λ (k : ℕ). replicate k 32) (omega arith)

-- as much as is written is there
pub written_length : (size w : ℕ) (bytes old : List ℕ) → length bytes ≡ size → w ≤ size → take w bytes ≡ old
    → length old ≡ w
written_length size w bytes old len le e = omega
    (arith, ap (λ (t : List ℕ). length t) (sym e), length-take w bytes)

-- what is written, and spaces after it
pub draft_done : (size w : ℕ) (bytes text : List ℕ) → length bytes ≡ size → w ≤ size → take w bytes ≡ text
    → drop w bytes ≡ replicate (size - w) 32 → bytes ≡ text ++ replicate (size - length text) 32
draft_done size w bytes text len le e rest =
    sym (take-append-drop w bytes)
    ∙ ap (λ (t : List ℕ). t ++ drop w bytes) e
    ∙ ap (λ (t : List ℕ). text ++ t) rest
    ∙ ap (λ (k : ℕ). text ++ replicate (size - k) 32) (sym (written_length size w bytes text len le e))

-- digits that fill the place of a field are the field
pub digits_placed : (w n number : ℕ) (bytes field : List ℕ) → w + n ≤ length bytes
    → field ≡ digits (length (take (w + n - w) (drop w bytes))) number → field ≡ digits n number
digits_placed w n number bytes field le e = e ∙ ap (λ (k : ℕ). digits k number) (place_length w n bytes le)

-- a field in its place leaves the record as long as it was
pub length_placed : (w n : ℕ) (bytes field : List ℕ) → w + n ≤ length bytes → length field ≡ n
    → length (put_mid w (w + n - w) bytes field) ≡ length bytes
length_placed w n bytes field le len =
    let whole = put_mid w (w + n - w) bytes field in
    let rest : drop (w + n) whole ≡ drop (w + n) bytes =
    drop-put_mid w (w + n - w) bytes field (w + n) (omega arith) (omega arith) (omega arith) in
    let parts : length whole ≡ length (take (w + n) whole ++ drop (w + n) whole) =
    ap (λ (t : List ℕ). length t) (sym (take-append-drop (w + n) whole)) in
    let front : length (take (w + n) whole) ≡ length (take w bytes ++ field) =
    ap (λ (t : List ℕ). length t) (field_front w n bytes field (omega arith) len) in
    let back : length (drop (w + n) whole) ≡ length (drop (w + n) bytes) =
    ap (λ (t : List ℕ). length t) rest in
    let both = length-append (take (w + n) whole) (drop (w + n) whole) in
    let head = length-append (take w bytes) field in
    omega (arith, parts, front, back, both, head, length-take w bytes, length-drop (w + n) bytes)
