-- A list from which the one at a place is removed.
use Rattle.std.proofs.Common.{◌≡◌, ℕ, ◌+◌, ◌<◌, ◌≤◌, List, [], ◌∷◌, ◌++◌, length, take, drop, get_or, sym, ap, subst, ◌∙◌, arith}
use Rattle.std.specs.Prelude.{Contains}
use Rattle.std.specs.List.{AllByRecursion}
use Rattle.std.proofs.Math.Seq.{take-append_seam}
use Rattle.std.proofs.lemmas.List.{drop_more, length-append, length-take-le, take-append-drop, take_all, take_more}
use Rattle.std.proofs.lemmas.List.Elements.{All-contains_itself, recursion_from_All}
use Rattle.posting_core.proofs.StreamedBatches.{all_more}
use Rattle.counter_http.proofs.Crowds.{all_without}

pub each_contained : {A : Type 0} (xs : List A) → AllByRecursion (λ (x : A). Contains xs x) xs
each_contained {A} xs = recursion_from_All (λ (x : A). Contains xs x) xs (All-contains_itself xs)

pub all_removed : {A : Type 0} (P : A → Type 0) (xs xs' : List A) (i : ℕ) (x : A) → i < length xs → x ≡ get_or xs i x
    → xs' ≡ take i xs ++ drop (i + 1) xs → AllByRecursion P xs → AllByRecursion P xs'
all_removed {A} P xs xs' i x within is rest all =
    let was : xs ≡ take i xs ++ x ∷ drop (i + 1) xs =
    sym (take-append-drop i xs)
    ∙ ap (λ (l : List A). take i xs ++ l) (drop_more xs i x within ∙ ap (λ (y : A). y ∷ drop (i + 1) xs) (sym is)) in
    subst (λ (l : List A). AllByRecursion P l) (sym rest)
    (all_without P (take i xs) (drop (i + 1) xs) x (subst (λ (l : List A). AllByRecursion P l) was all)).1

-- those before the place are as many
pub taken_removed : {A : Type 0} (xs xs' : List A) (i : ℕ) → i < length xs → xs' ≡ take i xs ++ drop (i + 1) xs → i ≤ length xs'
taken_removed xs xs' i within rest =
    let few : i ≤ length xs = omega (arith, within) in
    omega (arith, ap length rest, length-append (take i xs) (drop (i + 1) xs), length-take-le i xs few)

-- and they are the same
pub all_taken : {A : Type 0} (P : A → Type 0) (xs xs' : List A) (i : ℕ) → i < length xs → xs' ≡ take i xs ++ drop (i + 1) xs
    → AllByRecursion P (take i xs) → AllByRecursion P (take i xs')
all_taken {A} P xs xs' i within rest all =
    let few : i ≤ length xs = omega (arith, within) in
    let left = drop (i + 1) xs in
    let same : take i xs' ≡ take i xs =
    ap (take i) rest ∙ ap (λ (n : ℕ). take n (take i xs ++ left)) (sym (length-take-le i xs few))
    ∙ take-append_seam (take i xs) left in
    subst (λ (l : List A). AllByRecursion P l) (sym same) all

-- one more
pub taken_more : {A : Type 0} (P : A → Type 0) (xs : List A) (i : ℕ) (x : A) → i < length xs → x ≡ get_or xs i x → P x
    → AllByRecursion P (take i xs) → AllByRecursion P (take (i + 1) xs)
taken_more {A} P xs i x within is one all =
    subst (λ (l : List A). AllByRecursion P l) (sym (take_more xs i x within))
    (all_more P (take i xs) (get_or xs i x ∷ []) all (subst P is one, tt))

pub all_both : {A : Type 0} (P Q : A → Type 0) (xs : List A) → AllByRecursion P xs → AllByRecursion Q xs
    → AllByRecursion (λ (x : A). P x × Q x) xs
all_both P Q [] ps qs = tt
all_both P Q (x ∷ xs) ps qs = ((ps.0, qs.0), all_both P Q xs ps.1 qs.1)

pub both_taken : {A : Type 0} (P Q : A → Type 0) (xs : List A) (i : ℕ) → length xs ≤ i → AllByRecursion P xs
    → AllByRecursion Q (take i xs) → AllByRecursion (λ (x : A). P x × Q x) xs
both_taken {A} P Q xs i over ps qs =
    all_both P Q xs ps (subst (λ (l : List A). AllByRecursion Q l) (take_all i xs over) qs)
