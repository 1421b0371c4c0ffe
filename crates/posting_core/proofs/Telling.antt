-- Calls of a source or a sink, one after another.
use Rattle.std.proofs.Common.{◌≡◌, ◌≤◌, ◌+◌, ℕ, true, false, List, [], ◌∷◌, ◌++◌, length, Option, Some, None, Result}
use Rattle.std.proofs.Common.{Ok, Err, refl, sym, ap, subst, ◌∙◌, append_assoc, append-nil, arith, inl, inr}
use Rattle.std.specs.Prelude.{◌⊎◌, ◌-◌, ◌^◌, ◌≢◌}
use Rattle.std.proofs.lemmas.List.{length-append}
use Rattle.std.specs.{IoError.error_kind, contracts.io.ErrorKind.the_type, List.AllByRecursion}
use Rattle.std.specs.declared.io.{Error.Error, ErrorKind.ErrorKind, ErrorKind.TheVariants.Interrupted}
use denote.Enum.Bare.{sameb, same_true}
use Rattle.posting_core.specs.believed.EndCalls.{GrowsBy, EndsWith, IsEndOfInput, ReadCall}
use Rattle.posting_core.specs.EndCalls.{EndsWithMany, HasMore, HasReadFailed, HasWriteFailed, IsInterrupted, IsReadFailure}
use Rattle.posting_core.specs.EndCalls.{IsWornOut, IsWriteFailure, WriteCall, read_call, write_call, flush_call, IsFlush}
use Rattle.posting_batch.proofs.NextOrdinals.{all_more}

pub adds-more : {A : Type 0} (a b c : Option (List A)) (xs ys : List A) → GrowsBy a b xs → GrowsBy b c ys
    → GrowsBy a c (xs ++ ys)
adds-more None b c xs ys x y = tt
adds-more (Some before) None c xs ys x y = absurd x
adds-more (Some before) (Some some) None xs ys x y = absurd y
adds-more {A} (Some before) (Some some) (Some all) xs ys x y = y ∙ ap (λ (t : List A). t ++ ys) x
    ∙ append_assoc before xs ys

pub adds-none : {A : Type 0} (a : Option (List A)) → GrowsBy a a []
adds-none None = tt
adds-none (Some calls) = sym (append-nil calls)

-- so many calls were made
pub record HasMade {A : Type 0} (old new : Option (List A)) (count : ℕ) : Type 0 where
  pub calls : List A
  pub made : GrowsBy old new calls
  pub count_is : length calls ≡ count

-- at first none was made
pub made_none : {A : Type 0} (a : Option (List A)) → HasMade a a 0
made_none a = record { calls = []; made = adds-none a; count_is = refl }

-- and then one more
pub made_one : {A : Type 0} {a b c : Option (List A)} {count : ℕ} (x : A) (count' : ℕ) → HasMade a b count
    → GrowsBy b c (x ∷ []) → count' ≡ count + 1
    → HasMade a c count'
made_one {a = a} {b = b} {c = c} x count' h y e = record {
  calls = h.calls ++ x ∷ [];
  made = adds-more a b c h.calls (x ∷ []) h.made y;
  count_is = omega (arith, length-append h.calls (x ∷ []), h.count_is);
}

-- the last of them
pub made_last : {A : Type 0} (P : A → Type 0) {a b c : Option (List A)} {count : ℕ} (x : A)
    → HasMade a b count → GrowsBy b c (x ∷ []) → P x → EndsWith P a c
made_last P {a = a} {b = b} {c = c} x h y p =
    record { earlier = h.calls; last = x; made = adds-more a b c h.calls (x ∷ []) h.made y; is = p }

-- as many as there can be
pub made_many : {A : Type 0} {a b : Option (List A)} {count : ℕ} → HasMade a b count → 2 ^ 64 - 1 ≤ count
    → IsWornOut a b
made_many h le = record { calls = h.calls; made = h.made; many = omega (arith, h.count_is) }

-- ---- after calls that were made before

pub more_none : {A : Type 0} (a : Option (List A)) → HasMore a a
more_none a = record { calls = []; made = adds-none a }

pub more_more : {A : Type 0} {a b c : Option (List A)} → HasMore a b → HasMore b c → HasMore a c
more_more {a = a} {b = b} {c = c} x y =
    record { calls = x.calls ++ y.calls; made = adds-more a b c x.calls y.calls x.made y.made }

pub more_last : {A : Type 0} (P : A → Type 0) {a b c : Option (List A)} → HasMore a b → EndsWith P b c
    → EndsWith P a c
more_last {A} P {a = a} {b = b} {c = c} h e = record {
  earlier = h.calls ++ e.earlier;
  last = e.last;
  made = let all = adds-more a b c h.calls (e.earlier ++ e.last ∷ []) h.made e.made in
      subst (λ (t : List A). GrowsBy a c t) (sym (append_assoc h.calls e.earlier (e.last ∷ []))) all;
  is = e.is;
}

pub last_some : {A : Type 0} (P : A → Type 0) {a b : Option (List A)} → EndsWith P a b → HasMore a b
last_some P e = record { calls = e.earlier ++ e.last ∷ []; made = e.made }

more_many : {A : Type 0} (P : A → Type 0) {a b c : Option (List A)} → HasMore a b → EndsWithMany P b c
    → EndsWithMany P a c
more_many {A} P {a = a} {b = b} {c = c} h e = record {
  earlier = h.calls ++ e.earlier;
  last = e.last;
  made = let all = adds-more a b c h.calls (e.earlier ++ e.last) h.made e.made in
      subst (λ (t : List A). GrowsBy a c t) (sym (append_assoc h.calls e.earlier e.last)) all;
  many = e.many;
  are = e.are;
}

-- a failure after them is one of all
pub more_failed : {A : Type 0} (P : A → Type 0) {Q : A → Type 0} {a b c : Option (List A)} → HasMore a b
    → EndsWith P b c ⊎ EndsWithMany Q b c → EndsWith P a c ⊎ EndsWithMany Q a c
more_failed P h (inl e) = inl (more_last P h e)
more_failed P {Q = Q} h (inr w) = inr (more_many Q h w)

-- ---- calls of which each returned the same

-- so many calls were made, and P holds of what each of them returned
pub record HasMadeOnly {A : Type 0} (P : A → Type 0) (old new : Option (List A)) (count : ℕ) : Type 0 where
  pub calls : List A
  pub made : GrowsBy old new calls
  pub count_is : length calls ≡ count
  pub are : AllByRecursion P calls

pub only_one : {A : Type 0} (P : A → Type 0) {a b c : Option (List A)} {count : ℕ} (x : A) (count' : ℕ)
    → HasMadeOnly P a b count → GrowsBy b c (x ∷ []) → P x → count' ≡ count + 1 → HasMadeOnly P a c count'
only_one P {a = a} {b = b} {c = c} x count' h y p e = record {
  calls = h.calls ++ x ∷ [];
  made = adds-more a b c h.calls (x ∷ []) h.made y;
  count_is = omega (arith, length-append h.calls (x ∷ []), h.count_is);
  are = all_more P h.calls (x ∷ []) h.are (p, tt);
}

pub only_made : {A : Type 0} {P : A → Type 0} {a b : Option (List A)} {count : ℕ} → HasMadeOnly P a b count
    → HasMade a b count
only_made h = record { calls = h.calls; made = h.made; count_is = h.count_is }

-- as many as there can be
pub only_many : {A : Type 0} (P : A → Type 0) {a b : Option (List A)} {count : ℕ} → HasMadeOnly P a b count
    → 2 ^ 64 - 1 ≤ count → EndsWithMany P a b
only_many P h le = record {
  earlier = [];
  last = h.calls;
  made = h.made;
  many = omega (arith, h.count_is);
  are = h.are;
}

-- ---- one read, and one write

-- the kind that a comparison found
pub same_kind : (k : ErrorKind) (e : Error) → true ≡ sameb the_type k Interrupted → k ≡ error_kind e
    → error_kind e ≡ Interrupted
same_kind k e found is = sym is ∙ same_true the_type tt k Interrupted (sym found)

-- a kind that a comparison told apart
pub other_kind : (k : ErrorKind) (e : Error) → false ≡ sameb the_type k Interrupted → k ≡ error_kind e
    → error_kind e ≢ Interrupted
other_kind k e differs is same = cc
    (subst (λ (x : ErrorKind). false ≡ sameb the_type x Interrupted) (is ∙ same) differs)

pub read_ended : {a b c : Option (List ReadCall)} {count : ℕ} (r : Result ℕ Error) (n : ℕ) → HasMade a b count
    → GrowsBy b c (read_call r ∷ []) → r ≡ Ok n → n ≡ 0
    → EndsWith IsEndOfInput a c
read_ended r n h tells is none = made_last IsEndOfInput (read_call r) h tells (rw is none)

pub read_failed : {a b c : Option (List ReadCall)} {count : ℕ} (r : Result ℕ Error) (e : Error)
    → HasMade a b count → GrowsBy b c (read_call r ∷ []) → r ≡ Err e
    → error_kind e ≢ Interrupted → HasReadFailed a c
read_failed r e h tells is kind = inl (made_last IsReadFailure (read_call r) h tells (rw is kind))

pub write_empty : {a b c : Option (List WriteCall)} {count : ℕ} (bytes : List ℕ) (r : Result ℕ Error) (n : ℕ)
    → HasMade a b count
    → GrowsBy b c (write_call bytes r ∷ []) → r ≡ Ok n → n ≡ 0 → 1 ≤ length bytes → HasWriteFailed a c
write_empty bytes r n h tells is none some = inl
    (made_last IsWriteFailure (write_call bytes r) h tells (rw is (some, none)))

pub write_failed : {a b c : Option (List WriteCall)} {count : ℕ} (bytes : List ℕ) (r : Result ℕ Error)
    (e : Error) → HasMade a b count
    → GrowsBy b c (write_call bytes r ∷ []) → r ≡ Err e → error_kind e ≢ Interrupted → HasWriteFailed a c
write_failed bytes r e h tells is kind = inl
    (made_last IsWriteFailure (write_call bytes r) h tells (rw is kind))

-- a write that asks to be made again
pub write_again : {a b c : Option (List WriteCall)} {count : ℕ} (bytes : List ℕ) (r : Result ℕ Error)
    (e : Error) → HasMadeOnly IsInterrupted a b count → GrowsBy b c (write_call bytes r ∷ []) → r ≡ Err e
    → error_kind e ≡ Interrupted → HasMadeOnly IsInterrupted a c (count + 1)
write_again bytes r e h tells is kind = only_one IsInterrupted (write_call bytes r) _ h tells (rw is kind) refl

-- a write that took some
pub write_done : {a b c : Option (List WriteCall)} {count : ℕ} (bytes : List ℕ) (r : Result ℕ Error)
    → HasMade a b count → GrowsBy b c (write_call bytes r ∷ []) → HasMore a c
write_done {a = a} {b = b} {c = c} bytes r h tells = record {
  calls = h.calls ++ write_call bytes r ∷ [];
  made = adds-more a b c h.calls (write_call bytes r ∷ []) h.made tells;
}

pub flush_failed : {A : Type 0} {a b c : Option (List WriteCall)} (r : Result A Error) (e : Error)
    → HasMore a b → GrowsBy b c (flush_call r ∷ []) → r ≡ Err e
    → HasWriteFailed a c
flush_failed r e h tells is = inl
    (more_last IsWriteFailure h (record { earlier = []; last = flush_call r; made = tells; is = rw is tt }))

pub flush_done : {A : Type 0} {a b c : Option (List WriteCall)} (r : Result A Error) (x : A)
    → HasMore a b → GrowsBy b c (flush_call r ∷ []) → r ≡ Ok x
    → EndsWith IsFlush a c
flush_done r x h tells is = more_last IsFlush h
    (record { earlier = []; last = flush_call r; made = tells; is = rw is tt })
