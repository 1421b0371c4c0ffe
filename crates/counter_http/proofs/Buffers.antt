-- What was told to a client and written to it, in its buffers.
use Rattle.std.proofs.Common.{◌≡◌, ℕ, ◌+◌, ◌-◌, ◌≤◌, List, [], ◌∷◌, ◌++◌, length, take, drop, Option, Some, None, Result}
use Rattle.std.proofs.Common.{Ok, Err, sym, ap, subst, ◌∙◌, append-nil, arith, false}
use Rattle.std.specs.{Prelude.◌≢◌, Prelude.OnOk, Prelude.is_err, declared.io.Error.Error}
use Rattle.std.specs.Io.KnownBytes.{Appends, Keeps, WriteAppends}
use Rattle.std.proofs.lemmas.List.{drop-append-le, drop-take, length-append, take_all, nil_from_length}
use Rattle.std.proofs.lemmas.{Bool.true≢false, Slice.between_to_end}
use Rattle.std.proofs.Math.ListN.{length-drop}
use Rattle.posting_core.specs.believed.EndCalls.{EndsWith, GrowsBy}
use Rattle.posting_core.specs.EndCalls.{HasMore}
use Rattle.posting_core.proofs.Telling.{adds-more}

-- ---- what was told

-- a text was told after what is left
pub told_onto : {E : Type 0} (r : Result (Unit {0}) E) (old new text : List ℕ) (written : ℕ) → written ≤ length old
    → false ≡ is_err r
    → ((n : ℕ) × Appends (Some old) (Some new) (take n text) × OnOk r (n ≡ length text))
    → drop written new ≡ drop written old ++ text
told_onto (Ok done) old new text written within ok wrote =
    ap (drop written) (wrote.1 ∙ ap (λ (x : List ℕ). old ++ x) (take_all wrote.0 text (omega (arith, wrote.2))))
    ∙ drop-append-le written old text within
told_onto (Err e) old new text written within ok wrote = absurd (true≢false (sym ok))

-- what was told stands behind what was written
pub told_within : (old new text : List ℕ) (written : ℕ) → written ≤ length old → Appends (Some old) (Some new) text
    → written ≤ length new
told_within old new text written within wrote = omega (arith, ap length wrote, length-append old text)

-- no more is left of what was read
pub left_within : (items old new : List ℕ) (filled long : ℕ) → items ≡ new → length new ≡ length old
    → filled ≤ length old → filled - long ≤ length items
left_within items old new filled long is same within = rw (is, same) (omega arith)

-- the message at the front is passed
pub moved_front : (old new : List ℕ) (filled long : ℕ) → long ≤ filled
    → take (filled - long) new ≡ take (filled - long) (drop long old)
    → take (filled - long) new ≡ drop long (take filled old)
moved_front old new filled long within moved =
    let whole : filled ≡ long + (filled - long) = omega arith in
    moved ∙ sym (ap (λ (k : ℕ). drop long (take k old)) whole ∙ drop-take long (filled - long) old)

-- ---- what was written

-- what is left of a buffer
pub left_in : (items out : List ℕ) (written : ℕ) → items ≡ out
    → take (length items - written) (drop written items) ≡ drop written out
left_in items out written e =
    between_to_end items written (length items) (omega arith) ∙ ap (drop written) e

pub took : (a b : Option (List ℕ)) (r : Result ℕ Error) (n : ℕ) (buf left : List ℕ) → buf ≡ left → r ≡ Ok n
    → WriteAppends a b r buf → Appends a b (take n left)
took a b r n buf left e is h =
    subst (λ (x : List ℕ). Appends a b (take n x)) e (subst (λ (x : Result ℕ Error). WriteAppends a b x buf) is h)

keeps_none : (a b : Option (List ℕ)) → Keeps a b → Appends a b []
keeps_none None b kept = tt
keeps_none (Some xs) None kept = absurd kept
keeps_none (Some xs) (Some ys) kept = kept ∙ sym (append-nil xs)

pub kept : (a b : Option (List ℕ)) (r : Result ℕ Error) (e : Error) (buf : List ℕ) → r ≡ Err e
    → WriteAppends a b r buf → Appends a b []
kept a b r e buf is h = keeps_none a b (subst (λ (x : Result ℕ Error). WriteAppends a b x buf) is h)

-- and then no more
pub kept_more : (a b d : Option (List ℕ)) (xs : List ℕ) → Appends a b xs → Keeps b d → Appends a d xs
kept_more None b d xs h k = tt
kept_more (Some x) None d xs h k = absurd h
kept_more (Some x) (Some y) None xs h k = absurd k
kept_more (Some x) (Some y) (Some z) xs h k = k ∙ h

pub some_left : (out : List ℕ) (written : ℕ) → written ≤ length out → written ≢ length out → drop written out ≢ []
some_left out written within other e =
    let len = ap length e in
    other (omega (arith, len, length-drop written out))

pub long_left : (out buf : List ℕ) (written : ℕ) → buf ≡ drop written out → written ≤ length out
    → written ≢ length out → 1 ≤ length buf
long_left out buf written e within other =
    let len = ap length e in
    omega (arith, len, length-drop written out)

pub none_at_end : {A : Type 0} (out : List A) (written : ℕ) → written ≡ length out → drop written out ≡ []
none_at_end out written e = nil_from_length (drop written out) (omega (arith, length-drop written out, e))

-- one call more
pub one_call : {A : Type 0} {a b : Option (List A)} (x : A) → GrowsBy a b (x ∷ []) → HasMore a b
one_call x made = record { calls = x ∷ []; made = made }

pub one_more_call : {A : Type 0} {a : Option (List A)} (b : Option (List A)) {d : Option (List A)} (x y : A) → GrowsBy a b (x ∷ []) → GrowsBy b d (y ∷ [])
    → HasMore a d
one_more_call {a = a} b {d} x y one two = record { calls = x ∷ y ∷ []; made = adds-more a b d (x ∷ []) (y ∷ []) one two }

pub last_call : {A : Type 0} (P : A → Type 0) {a : Option (List A)} (b : Option (List A)) {d : Option (List A)} (x y : A) → GrowsBy a b (x ∷ [])
    → GrowsBy b d (y ∷ []) → P y → EndsWith P a d
last_call P {a = a} b {d} x y one two is = record {
  earlier = x ∷ [];
  last = y;
  made = adds-more a b d (x ∷ []) (y ∷ []) one two;
  is = is;
}
