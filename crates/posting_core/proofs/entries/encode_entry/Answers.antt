-- The three texts one after another.
use Rattle.std.proofs.Common.{rules, ◌≡◌, ◌+◌, ◌++◌, ◌∙◌, ℕ, List, take, length, ap, sym, append_assoc, arith}
use Rattle.std.proofs.lemmas.List.{take_all}
use Rattle.posting_core.proofs.entries.encode_entry.Goals as goal

all_three : (one two three a b d a' b' d' : List ℕ) → take (0 + length a) one ≡ a
    → take (100 + length b) two ≡ take 100 one ++ b → take (300 + length d) three ≡ take 300 two ++ d
    → length a ≡ 100 → length b ≡ 200 → length d ≡ 8 → length three ≡ 308
    → a ≡ a' → b ≡ b' → d ≡ d' → three ≡ a' ++ (b' ++ d')
all_three one two three a b d a' b' d' p q r la lb ld long ea eb ed =
    sym (take_all (300 + length d) three (omega (arith, ld, long)))
    ∙ r
    ∙ ap (λ (k : ℕ). take k two ++ d) (let same : 300 ≡ 100 + length b = omega (arith, lb) in same)
    ∙ ap (λ (t : List ℕ). t ++ d) q
    ∙ ap (λ (k : ℕ). (take k one ++ b) ++ d) (let same : 100 ≡ 0 + length a = omega (arith, la) in same)
    ∙ ap (λ (t : List ℕ). (t ++ b) ++ d) p
    ∙ append_assoc a b d
    ∙ ap (λ (t : List ℕ). t ++ (b ++ d)) ea
    ∙ ap (λ (t : List ℕ). a' ++ (t ++ d)) eb
    ∙ ap (λ (t : List ℕ). a' ++ (b' ++ t)) ed

pub returns : goal.returns
returns c =
    let la : length c.as_slice.result.now ≡ 100 = search rules in
    let lb : length c.as_slice-2.result.now ≡ 200 = search rules in
    let ld : length c.as_slice-3.result.now ≡ 8 = search rules in
    all_three c.put.new.entry c.put-2.new.entry c.put-3.new.entry c.as_slice.result.now c.as_slice-2.result.now
    c.as_slice-3.result.now _ _ _ c.put.ensures c.put-2.ensures c.put-3.ensures la lb ld c.put-3.array_long
    (c.as_slice.ensures ∙ c.encode_request-record.ensures.spelling)
    (c.as_slice-2.ensures ∙ c.encode_reply-answer.ensures.spelling)
    (c.as_slice-3.ensures ∙ c.to_be_bytes-seconds.ensures)
