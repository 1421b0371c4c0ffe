-- Clients at their places, and what becomes of all of them where messages of one are answered.
use Rattle.std.proofs.Common.{◌≡◌, ℕ, zero, suc, ◌<◌, List, [], ◌∷◌, ◌++◌, slice_set}
use Rattle.std.proofs.Common.{Some, refl, sym, ap, subst, ◌∙◌, append_assoc, arith, inl, inr}
use Rattle.std.specs.{Prelude.◌≢◌, Prelude.◌⊎◌, Prelude.Contains, List.AllByRecursion, List.slice_get, Option.option_map}
use Rattle.std.proofs.lemmas.{Option.get_or_from_slice_get, Option.slice_get-map, Option.slice_get_within}
use Rattle.posting_rules.specs.believed.{Commands.Command, Counter.Seen, Counter.Takes}
use Rattle.posting_rules.proofs.CounterCalls.{Takes-append}
use Rattle.posting_core.proofs.StreamedBatches.{all_more}
use Rattle.counter_http.specs.Connections.{Known}
use Rattle.counter_http.specs.together.Order.{Step, submitted_by}
use Rattle.counter_http.specs.together.Rounds.{AllDiffer, IsOfOneOf, number_in, numbers}
use Rattle.counter_http.specs.together.Standing.{StandsHere}
use Rattle.counter_http.specs.together.Submitting.{AreBeside}
use Rattle.counter_http.specs.declared.client.Client.{Client}
use Rattle.counter_http.proofs.Beside.{stands_beside}
use Rattle.counter_http.proofs.Steps.{OfOne, OfOther, submitted-append}

-- ---- places of a list

pub some_is : {A : Type 0} (x y : A) → Some x ≡ Some y → x ≡ y
some_is x y e = cc

pub at_same : {A : Type 0} (xs : List A) (p : ℕ) (x y : A) → slice_get xs p ≡ Some x
    → slice_get (slice_set xs p y) p ≡ Some y
at_same [] p x y e = cc
at_same (z ∷ zs) zero x y e = refl
at_same (z ∷ zs) (suc p) x y e = at_same zs p x y e

pub at_other : {A : Type 0} (xs : List A) (p q : ℕ) (y : A) → q ≢ p
    → slice_get (slice_set xs p y) q ≡ slice_get xs q
at_other [] p q y ne = refl
at_other (z ∷ zs) zero zero y ne = absurd (ne refl)
at_other (z ∷ zs) zero (suc q) y ne = refl
at_other (z ∷ zs) (suc p) zero y ne = refl
at_other (z ∷ zs) (suc p) (suc q) y ne = at_other zs p q y (λ e. ne (ap suc e))

-- ---- numbers

pub numbers_at : {R W : Type 0} (here : List (Client R W)) (p : ℕ) (client client' : Client R W)
    → slice_get here p ≡ Some client → client'.number ≡ client.number
    → numbers (slice_set here p client') ≡ numbers here
numbers_at [] p client client' at same = refl
numbers_at (x ∷ xs) zero client client' at same =
    ap (λ (n : ℕ). n ∷ numbers xs) (same ∙ ap number_in (sym (some_is x client at)))
numbers_at (x ∷ xs) (suc p) client client' at same =
    ap (λ (ns : List ℕ). x.number ∷ ns) (numbers_at xs p client client' at same)

-- where the numbers are the same a client is at each place of those before
pub found_too : {R W : Type 0} (xs ys : List (Client R W)) (p : ℕ) (x : Client R W) → numbers ys ≡ numbers xs
    → slice_get xs p ≡ Some x → (y : Client R W) × (slice_get ys p ≡ Some y)
found_too [] ys p x same at = absurd (cc)
found_too (a ∷ xs) [] p x same at = absurd (cc)
found_too (a ∷ xs) (b ∷ ys) zero x same at = (b, refl)
found_too (a ∷ xs) (b ∷ ys) (suc p) x same at = found_too xs ys p x (cc) at

number_there : {R W : Type 0} (here : List (Client R W)) (p : ℕ) (client : Client R W)
    → slice_get here p ≡ Some client → slice_get (numbers here) p ≡ Some client.number
number_there here p client at = slice_get-map number_in here p ∙ ap (option_map number_in) at

-- and each has the number of the one before
pub number_kept : {R W : Type 0} (xs ys : List (Client R W)) (p : ℕ) (x y : Client R W) → numbers ys ≡ numbers xs
    → slice_get xs p ≡ Some x → slice_get ys p ≡ Some y → y.number ≡ x.number
number_kept xs ys p x y same at at' =
    some_number y.number x.number
    (sym (number_there ys p y at') ∙ ap (λ (ns : List ℕ). slice_get ns p) same ∙ number_there xs p x at)
  where
    some_number : (m n : ℕ) → Some m ≡ Some n → m ≡ n
    some_number m n e = cc e

pub one_of_these : {R W : Type 0} (here : List (Client R W)) (p : ℕ) (client : Client R W)
    → slice_get here p ≡ Some client → Contains (numbers here) client.number
one_of_these here p client at =
    let there = number_there here p client at in (
      p,
      slice_get_within (numbers here) p client.number there,
      get_or_from_slice_get (numbers here) p client.number client.number there,
    )

three_ways : (n m : ℕ) → (n < m) ⊎ ((n ≡ m) ⊎ (m < n))
three_ways n m = grind arith

pub same_or_not : (n m : ℕ) → (n ≡ m) ⊎ (n ≢ m)
same_or_not n m = elim (three_ways n m) [
  | inl less ↦ inr (λ e. omega (arith, less, e))
  | inr (inl e) ↦ inl e
  | inr (inr more) ↦ inr (λ e. omega (arith, more, e))
]

-- clients at two places have two numbers
pub numbers_apart : {R W : Type 0} (here : List (Client R W)) (p q : ℕ) (x y : Client R W)
    → AllDiffer (numbers here) → slice_get here p ≡ Some x → slice_get here q ≡ Some y → q ≢ p
    → y.number ≢ x.number
numbers_apart here p q x y all at_p at_q ne e =
    let px = number_there here p x at_p in
    let qy = number_there here q y at_q in
    let at_p_is = get_or_from_slice_get (numbers here) p x.number 0 px in
    let at_q_is = get_or_from_slice_get (numbers here) q y.number 0 qy in
    elim (three_ways q p) [
      | inl less ↦ all q p 0 less (slice_get_within (numbers here) p x.number px) (at_q_is ∙ e ∙ sym at_p_is)
      | inr (inl same) ↦ ne same
      | inr (inr more) ↦ all p q 0 more (slice_get_within (numbers here) q y.number qy) (at_p_is ∙ sym e ∙ sym at_q_is)
    ]

of_others : (m n : ℕ) (ss : List Step) → m ≢ n → AllByRecursion (OfOne n) ss → AllByRecursion (OfOther m) ss
of_others m n [] ne all = tt
of_others m n (s ∷ ss) ne all = ((λ e. ne (sym e ∙ all.0)), of_others m n ss ne all.1)

of_these : {R W : Type 0} (here : List (Client R W)) (p : ℕ) (client : Client R W) (ss : List Step)
    → slice_get here p ≡ Some client → AllByRecursion (OfOne client.number) ss
    → AllByRecursion (IsOfOneOf (numbers here)) ss
of_these here p client [] at all = tt
of_these here p client (s ∷ ss) at all = (
  subst (λ (n : ℕ). Contains (numbers here) n) (sym all.0) (one_of_these here p client at),
  of_these here p client ss at all.1,
)

-- ---- what becomes of all clients

-- messages of the one at a place were answered
pub beside_one : {R W : Type 0} {known : R × W → Known} (here : List (Client R W))
    (p : ℕ) (client client' : Client R W) (steps : List Step) → AllDiffer (numbers here)
    → slice_get here p ≡ Some client → client'.number ≡ client.number → AllByRecursion (OfOne client.number) steps
    → ((k : Known) (before : List Step) → StandsHere known k before client → StandsHere known k (before ++ steps) client')
    → AreBeside known here (slice_set here p client') steps
beside_one {R} {W} {known} here p client client' steps all at same own stands = record {
  whose = of_these here p client steps at own;
  same = numbers_at here p client client' at same;
  stand = λ q x x' at_q at_q' k before is. elim (same_or_not q p) [
    | inl e ↦
        let x_is : x ≡ client =
        some_is x client (sym at_q ∙ ap (λ (n : ℕ). slice_get here n) e ∙ at) in
        let x'_is : client' ≡ x' =
        some_is client' x' (sym (at_same here p client client' at)
        ∙ ap (λ (n : ℕ). slice_get (slice_set here p client') n) (sym e) ∙ at_q') in
        subst (λ (y : Client R W). StandsHere known k (before ++ steps) y) x'_is
        (stands k before (subst (λ (y : Client R W). StandsHere known k before y)
        x_is is))
    | inr ne ↦
        let x'_is : x ≡ x' = some_is x x' (sym at_q ∙ sym (at_other here p q client' ne) ∙ at_q') in
        subst (λ (y : Client R W). StandsHere known k (before ++ steps) y) x'_is
        (record {
          is = stands_beside x.parting steps
              (of_others x.number client.number steps (numbers_apart here p q client x all at at_q ne) own) is.is;
        })
  ];
}

-- nothing was answered
pub beside_none : {R W : Type 0} {known : R × W → Known} (here : List (Client R W)) → AreBeside known here here []
beside_none {R} {W} {known} here = record {
  whose = tt;
  same = refl;
  stand = λ p x x' at at' k before is.
      subst (λ (y : Client R W). StandsHere known k (before ++ []) y)
      (some_is x x' (sym at ∙ at')) (record { is = stands_beside x.parting [] tt is.is });
}

-- some messages, and then others
pub beside_then : {R W : Type 0} {known : R × W → Known} (here one two : List (Client R W)) (ss ts : List Step)
    → AreBeside known here one ss → AreBeside known one two ts → AreBeside known here two (ss ++ ts)
beside_then {known = known} here one two ss ts a b = record {
  whose = all_more (IsOfOneOf (numbers here)) ss ts a.whose
      (subst (λ (ns : List ℕ). AllByRecursion (IsOfOneOf ns) ts) a.same b.whose);
  same = b.same ∙ a.same;
  stand = λ p x z at at' k before is.
      let mids = found_too here one p x a.same at in
      subst (λ (l : List Step). StandsHere known k l z) (append_assoc before ss ts)
      (b.stand p mids.0 z mids.1 at' k (before ++ ss) (a.stand p x mids.0 at mids.1 k before is));
}
