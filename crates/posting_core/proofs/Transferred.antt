-- Reads and writes one after another.
use Rattle.std.proofs.Common.{◌≡◌, ℕ, ◌+◌, ◌-◌, ◌≤◌, List, ◌++◌, length, take, drop, Option, Some, None, Result, Ok}
use Rattle.std.proofs.Common.{Err, refl, sym, ap, subst, ◌∙◌, append_assoc, arith}
use Rattle.std.specs.{Prelude.IfOk, Io.ReadsAtMost}
use Rattle.std.specs.Io.KnownBytes.{Appends, Consumes, ReadConsumes}
use Rattle.std.proofs.{KnownBytes.Consumes-trans, lemmas.Slice.between_to_end, Math.Seq.take-length}
use Rattle.std.proofs.lemmas.List.{take_at, drop_at, take-append-le, length-take-le}
use borrow.Rule.Slice.PartMut.{put_mid, post_of}
use lib.Seq.{take-add}

-- a read into what is left of a buffer
grown : (xs ys : List ℕ) (f k n : ℕ) → f ≤ length xs → n ≤ length ys
    → take (f + n) (put_mid f k xs ys) ≡ take f xs ++ take n ys
grown xs ys f k n within fits =
    let after = ys ++ post_of f k xs in
    let front = take f xs in
    let len : length front ≡ f = length-take-le f xs within in
    take-add f n (front ++ after) ∙ (rw (
      take_at front after f len,
      drop_at front after f len,
      take-append-le n ys (post_of f k xs) fits,
    ) refl)

pub fill_ok : {E : Type 0} (r : Result ℕ E) (old new : Option (List ℕ)) (xs ys : List ℕ) (f k : ℕ)
    → f ≤ length xs → ReadsAtMost r ys → ReadConsumes old new r ys
    → IfOk r (λ n. (bytes : List ℕ) × (take (f + n) (put_mid f k xs ys) ≡ take f xs ++ bytes)
    × Consumes old new bytes)
fill_ok (Ok n) old new xs ys f k within most consumes =
    (take n ys, grown xs ys f k n within most.0, consumes.0)
fill_ok (Err e) old new xs ys f k within most consumes = tt

-- one more read, of these bytes
pub read_more : (u v w : Option (List ℕ)) (before after bytes : List ℕ) → Consumes u v before
    → Consumes v w bytes → after ≡ before ++ bytes → Consumes u w after
read_more u v w before after bytes x y e = subst (λ (t : List ℕ). Consumes u w t) (sym e)
    (Consumes-trans u v w before bytes x y)

-- one more write
wrote_more : (u v w : Option (List ℕ)) (bs : List ℕ) (done n : ℕ) → Appends u v (take done bs)
    → Appends v w (take n (drop done bs)) → Appends u w (take (done + n) bs)
wrote_more None v w bs done n x y = tt
wrote_more (Some xs) None w bs done n x y = absurd x
wrote_more (Some xs) (Some ys) None bs done n x y = y
wrote_more (Some xs) (Some ys) (Some zs) bs done n x y =
    y ∙ ap (λ (t : List ℕ). t ++ take n (drop done bs)) x ∙ append_assoc xs (take done bs)
    (take n (drop done bs)) ∙ ap (λ (t : List ℕ). xs ++ t) (sym (take-add done n bs))

pub wrote_write : (u v w : Option (List ℕ)) (bs : List ℕ) (done n after : ℕ) → Appends u v (take done bs)
    → Appends v w (take n (take (length bs - done) (drop done bs))) → after ≡ done + n
    → Appends u w (take after bs)
wrote_write u v w bs done n after x y e =
    subst (λ (k : ℕ). Appends u w (take k bs)) (sym e) (wrote_more u v w bs done n x
    (subst (λ (t : List ℕ). Appends v w (take n t)) (between_to_end bs done (length bs) (omega arith)) y))

-- a prefix of a text that was written, and all of it
pub wrote_some : (w w' : Option (List ℕ)) (xs text : List ℕ) (n : ℕ) → Appends w w' (take n xs) → xs ≡ text
    → Appends w w' (take n text)
wrote_some w w' xs text n wrote is = subst (λ (t : List ℕ). Appends w w' (take n t)) is wrote

pub wrote_all : (w w' : Option (List ℕ)) (xs text : List ℕ) (n : ℕ) → Appends w w' (take n xs) → n ≡ length xs
    → xs ≡ text → Appends w w' text
wrote_all w w' xs text n wrote all is =
    subst (λ (t : List ℕ). Appends w w' t) (ap (λ (k : ℕ). take k xs) all ∙ take-length xs ∙ is) wrote

-- a buffer that reads filled
pub read_whole : (r r' : Option (List ℕ)) (bytes : List ℕ) (n : ℕ) → n ≡ length bytes
    → Consumes r r' (take n bytes) → Consumes r r' bytes
read_whole r r' bytes n full h =
    subst (λ (t : List ℕ). Consumes r r' t) (ap (λ (k : ℕ). take k bytes) full ∙ take-length bytes) h
