-- Whom a wait said to give up, by the places of the clients and of what was said of them.
use Rattle.std.proofs.Common.{◌≡◌, ℕ, ◌+◌, ◌<◌, ◌≤◌, zero, suc, List, [], ◌∷◌, ◌++◌, length, take, drop, get_or, Some, sym, ap, ◌∙◌, arith}
use Rattle.std.specs.Prelude.{Contains}
use Rattle.std.specs.List.{slice_get}
use Rattle.std.proofs.Math.Seq.{drop-append_seam}
use Rattle.std.proofs.lemmas.List.{drop_more, length-take-le}
use Rattle.std.proofs.lemmas.List.Elements.{Contains-append_right}
use Rattle.counter_http.specs.together.Rounds.{given_up, numbers}
use Rattle.counter_http.specs.declared.client.Client.{Client}
use Rattle.counter_http.specs.declared.clients.Readiness.{Readiness}
use Rattle.counter_http.specs.declared.clients.Readiness.TheVariants as readiness

said_at : (ns : List ℕ) (rs : List Readiness) (i n : ℕ) → slice_get ns i ≡ Some n
    → slice_get rs i ≡ Some readiness.GivenUp → Contains (given_up ns rs) n
said_at [] rs i n at said = cc at
said_at (m ∷ ns) [] i n at said = cc said
said_at (m ∷ ns) (readiness.GivenUp ∷ rs) zero n at said = (0, omega arith, cc at)
said_at (m ∷ ns) (readiness.Waits ∷ rs) zero n at said = cc said
said_at (m ∷ ns) (readiness.Ready ∷ rs) zero n at said = cc said
said_at (m ∷ ns) (readiness.GivenUp ∷ rs) (suc i) n at said =
    Contains-append_right (m ∷ []) (given_up ns rs) n (said_at ns rs i n at said)
said_at (m ∷ ns) (readiness.Waits ∷ rs) (suc i) n at said = said_at ns rs i n at said
said_at (m ∷ ns) (readiness.Ready ∷ rs) (suc i) n at said = said_at ns rs i n at said

number_at : {R W : Type 0} (here : List (Client R W)) (i : ℕ) (client : Client R W) → slice_get here i ≡ Some client
    → slice_get (numbers here) i ≡ Some client.number
number_at [] i client at = cc at
number_at (x ∷ xs) zero client at = cc at
number_at (x ∷ xs) (suc i) client at = number_at xs i client at

first_left : {A : Type 0} (xs : List A) (i : ℕ) (x : A) (rest : List A) → drop i xs ≡ x ∷ rest → slice_get xs i ≡ Some x
first_left [] zero x rest is = cc is
first_left [] (suc i) x rest is = cc is
first_left (y ∷ ys) zero x rest is = cc is
first_left (y ∷ ys) (suc i) x rest is = first_left ys i x rest is

-- the client at a place is the one of whom it was said
pub said_of : {R W : Type 0} (here first : List (Client R W)) (rs : List Readiness) (place i : ℕ) (client : Client R W)
    → drop place here ≡ drop i first → place < length here → client ≡ get_or here place client
    → slice_get rs i ≡ Some readiness.GivenUp → Contains (given_up (numbers first) rs) client.number
said_of here first rs place i client same within is said =
    let left : drop i first ≡ client ∷ drop (place + 1) here =
    sym same ∙ drop_more here place client within ∙ ap (λ (x : Client _ _). x ∷ drop (place + 1) here) (sym is) in
    said_at (numbers first) rs i client.number
    (number_at first i client (first_left first i client (drop (place + 1) here) left)) said

rest_left : {A : Type 0} (xs : List A) (i : ℕ) (x : A) (rest : List A) → drop i xs ≡ x ∷ rest → drop (i + 1) xs ≡ rest
rest_left [] zero x rest is = cc is
rest_left [] (suc i) x rest is = cc is
rest_left (y ∷ ys) zero x rest is = cc is
rest_left (y ∷ ys) (suc i) x rest is =
    let next : suc i + 1 ≡ suc (i + 1) = omega arith in
    ap (λ (n : ℕ). drop n (y ∷ ys)) next ∙ rest_left ys i x rest is

-- the next ones stay
pub rest_stays : {A : Type 0} (xs ys : List A) (i j : ℕ) → drop i xs ≡ drop j ys → i < length xs
    → drop (i + 1) xs ≡ drop (j + 1) ys
rest_stays [] ys i j same within = absurd (omega (arith, within))
rest_stays (d ∷ xs) ys i j same within =
    sym (rest_left ys j (get_or (d ∷ xs) i d) (drop (i + 1) (d ∷ xs)) (sym same ∙ drop_more (d ∷ xs) i d within))

-- and so they do where one was removed
pub rest_removed : {A : Type 0} (xs xs' ys : List A) (i j : ℕ) → drop i xs ≡ drop j ys → i < length xs
    → xs' ≡ take i xs ++ drop (i + 1) xs → drop i xs' ≡ drop (j + 1) ys
rest_removed {A} xs xs' ys i j same within is =
    let few : i ≤ length xs = omega (arith, within) in
    ap (drop i) is
    ∙ ap (λ (n : ℕ). drop n (take i xs ++ drop (i + 1) xs)) (sym (length-take-le i xs few))
    ∙ drop-append_seam (take i xs) (drop (i + 1) xs)
    ∙ rest_stays xs ys i j same within
