-- Texts that are put together part by part.
use Rattle.std.proofs.Common.{◌≡◌, ◌++◌, ◌∙◌, ℕ, List, [], ap, append_assoc}
use Rattle.shared_log.specs.etcd.Texts.{compare_text, end_key, log_key, place_text, puts_text, range_text, transaction_text}

one_more : (t0 t1 t2 a b : List ℕ) → t1 ≡ t0 ++ a → t2 ≡ t1 ++ b → t2 ≡ t0 ++ (a ++ b)
one_more t0 t1 t2 a b one two = two ∙ ap (λ (t : List ℕ). t ++ b) one ∙ append_assoc t0 a b

pub five_parts : (t0 t1 t2 t3 t4 t5 a b c d e : List ℕ) → t1 ≡ t0 ++ a → t2 ≡ t1 ++ b → t3 ≡ t2 ++ c → t4 ≡ t3 ++ d
    → t5 ≡ t4 ++ e → t5 ≡ t0 ++ ((((a ++ b) ++ c) ++ d) ++ e)
five_parts t0 t1 t2 t3 t4 t5 a b c d e one two three four five =
    one_more t0 t4 t5 (((a ++ b) ++ c) ++ d) e
    (one_more t0 t3 t4 ((a ++ b) ++ c) d
    (one_more t0 t2 t3 (a ++ b) c (one_more t0 t1 t2 a b one two) three) four) five

pub three_parts : (name : List ℕ) (place : ℕ) (entries : List (List ℕ)) (t0 t1 t2 t3 k v l : List ℕ) → t0 ≡ []
    → k ≡ end_key name → v ≡ place_text place → l ≡ log_key name place → t1 ≡ t0 ++ compare_text k v
    → t2 ≡ t1 ++ puts_text name place entries → t3 ≡ t2 ++ range_text l → t3 ≡ transaction_text name place entries
unfolding transaction_text
three_parts name place entries t0 t1 t2 t3 k v l none key value log one two three =
    let puts = puts_text name place entries in
    three ∙ ap (λ (t : List ℕ). t ++ range_text l)
    (two ∙ ap (λ (t : List ℕ). t ++ puts) (one ∙ ap (λ (t : List ℕ). t ++ compare_text k v) none))
    ∙ ap (λ (t : List ℕ). (compare_text t v ++ puts) ++ range_text l) key
    ∙ ap (λ (t : List ℕ). (compare_text (end_key name) t ++ puts) ++ range_text l) value
    ∙ ap (λ (t : List ℕ). (compare_text (end_key name) (place_text place) ++ puts) ++ range_text t) log
