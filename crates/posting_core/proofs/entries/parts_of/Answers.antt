-- Three parts one after another are all of the bytes.
use Rattle.std.proofs.Common.{◌≡◌, ◌<◌, ◌+◌, ◌++◌, ◌∙◌, ℕ, List, take, drop, length, get_or, ap, sym, subst, arith}
use Rattle.std.proofs.lemmas.List.{drop-drop, get_or-drop, length-drop, take-append-drop, take_all}
use Rattle.posting_core.proofs.entries.parts_of.Goals as goal

joined : (bytes a b d : List ℕ) → length bytes ≡ 308 → a ≡ take 100 bytes → b ≡ take 200 (drop 100 bytes)
    → d ≡ take 8 (drop 300 bytes) → a ++ (b ++ d) ≡ bytes
joined bytes a b d long ea eb ed =
    ap (λ (t : List ℕ). t ++ (b ++ d)) ea
    ∙ ap (λ (t : List ℕ). take 100 bytes ++ (t ++ d)) eb
    ∙ ap (λ (t : List ℕ). take 100 bytes ++ (take 200 (drop 100 bytes) ++ t))
    (ed ∙ take_all 8 (drop 300 bytes) (omega (arith, long, length-drop 300 bytes))
    ∙ sym (drop-drop 200 100 bytes))
    ∙ ap (λ (t : List ℕ). take 100 bytes ++ t) (take-append-drop 200 (drop 100 bytes))
    ∙ take-append-drop 100 bytes

pub returns-clause-joined : goal.returns-clause-joined
returns-clause-joined c =
    joined c.args.bytes.now _ _ _ c.told-bytes c.copy_from_slice.ensures.after c.copy_from_slice-2.ensures.after
    c.copy_from_slice-3.ensures.after

pub returns-clause-record_length : goal.returns-clause-record_length
returns-clause-record_length c = c.copy_from_slice.ensures.len

pub returns-clause-reply_length : goal.returns-clause-reply_length
returns-clause-reply_length c = c.copy_from_slice-2.ensures.len

pub returns-clause-seconds_length : goal.returns-clause-seconds_length
returns-clause-seconds_length c = c.copy_from_slice-3.ensures.len

small : (bytes d : List ℕ) → length bytes ≡ 308 → d ≡ take 8 (drop 300 bytes)
    → ((i : ℕ) → get_or bytes i 0 < 256) → (i : ℕ) → get_or d i 0 < 256
small bytes d long ed fits i =
    subst (λ (l : List ℕ). get_or l i 0 < 256)
    (sym (ed ∙ take_all 8 (drop 300 bytes) (omega (arith, long, length-drop 300 bytes))))
    (subst (λ (n : ℕ). n < 256) (sym (get_or-drop 300 bytes i 0)) (fits (300 + i)))

pub returns-clause-seconds : goal.returns-clause-seconds
returns-clause-seconds c =
    small c.args.bytes.now _ c.told-bytes c.copy_from_slice-3.ensures.after c.fits-bytes
