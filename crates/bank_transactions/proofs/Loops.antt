-- Slots are filled, and rows are written, one after another.
use Rattle.std.proofs.Common.{◌≡◌, ℕ, zero, suc, ◌+◌, ◌<◌, List, [], ◌∷◌, ◌++◌, map, length, take, drop, set, get_or}
use Rattle.std.proofs.Common.{Ok, Result, refl, sym, ap, subst, ◌∙◌, inl, inr}
use Rattle.std.specs.List.{AllByRecursion}
use Rattle.std.proofs.lemmas.List.{append-nil, append_assoc, take_more, take-append-drop, Edits.map_over_more}
use Rattle.std.proofs.Math.Seq.{drop-cons}
use Rattle.sqlite.specs.declared.transaction.Transaction.{Transaction}
use Rattle.sqlite_trees.specs.declared.store.Store.{Ghosts}
use Rattle.sqlite_trees.proofs.ListLemmas.{all-get_or}
use Rattle.sqlite_rules.specs.Lists.{Has}
use Rattle.sqlite_rules.proofs.ListLemmas.{has_at, has_left, has_right}
use Rattle.posting_rules.specs.believed.Tables.{Tables}
use Rattle.store_rows.specs.{believed.Failures.Additions, declared.fault.TableFault.TableFault}
use Rattle.bank_transactions.specs.{Additions.AddsAlike, Doing.ReadsWhere, InTurn.InParts, InTurn.InTurn}
use Rattle.bank_transactions.specs.Running.{Writes}
use Rattle.bank_transactions.proofs.{LookUps.reads_both, Running.writes_adds, Running.writes_for, Running.writes_then}

-- ---- places of a list

-- the place that a walk is at is as it was
item_is : {A : Type 0} (f : A → A) (xs : List A) (i : ℕ) (x : A) → get_or (map f (take i xs) ++ drop i xs) i x
    ≡ get_or xs i x
item_is f [] zero x = refl
item_is f [] (suc i) x = refl
item_is f (y ∷ xs) zero x = refl
item_is f (y ∷ xs) (suc i) x = item_is f xs i x

-- ---- slots are filled

-- slots of which so many are filled
abbrev pub filled_so_far : {A : Type 0} → (Tables → A → A) → List A → ℕ → Tables → List A
filled_so_far fill xs i t = map (fill t) (take i xs) ++ drop i xs

-- what is so of all slots is so of the one that is filled next
pub next_is : {A : Type 0} (fill : Tables → A → A) (P : A → Type 0) (xs ys : List A) (i : ℕ) (x : A)
    (t : Tables) → i < length xs → ys ≡ filled_so_far fill xs i t
    → AllByRecursion P xs → P (get_or ys i x)
next_is {A} fill P xs ys i x t lt so_far all =
    subst (λ (s : A). P s) (sym (ap (λ (zs : List A). get_or zs i x) so_far ∙ item_is (fill t) xs i x))
    (all-get_or P xs i x all lt)

-- one more is filled
pub fill_more : {S A : Type 0} {g : Ghosts S} {old mid new : Transaction S} {So So' : Tables → Type 0}
    (fill : Tables → A → A) (xs ys : List A) (i : ℕ) (x y : A)
    → i < length xs → x ≡ get_or ys i x → ReadsWhere g old mid So (filled_so_far fill xs i) (Ok ys)
    → ReadsWhere g mid new So' (λ t. fill t (get_or ys i x)) (Ok y)
    → ((t : Tables) → So t → ys ≡ filled_so_far fill xs i t → So' t)
    → ReadsWhere g old new So (filled_so_far fill xs (i + 1)) (Ok (set ys i y))
fill_more {S} {A} fill xs ys i x y lt is before one ready =
    reads_both before one ready (λ t so first last.
    ap (λ (s : A). set ys i s) (last ∙ ap (fill t) (sym is)) ∙ map_over_more (fill t) xs ys i x lt first is)

all_taken : {A : Type 0} (f : A → A) (xs : List A) → map f (take (length xs) xs) ++ drop (length xs) xs
    ≡ map f xs
all_taken f [] = refl
all_taken {A} f (x ∷ xs) = ap (λ (ys : List A). f x ∷ ys) (all_taken f xs)

-- at the end all are
pub all_filled : {A : Type 0} (fill : Tables → A → A) (xs : List A) (i : ℕ) (t : Tables) → i ≡ length xs
    → filled_so_far fill xs i t ≡ map (fill t) xs
all_filled {A} fill xs i t at_end = ap (λ (j : ℕ). filled_so_far fill xs j t) at_end ∙ all_taken (fill t) xs

-- ---- changes are made

-- a list about one of its places
split_at : {A : Type 0} (xs : List A) (i : ℕ) (x : A) → i < length xs → xs
    ≡ take i xs ++ get_or xs i x ∷ drop (suc i) xs
split_at {A} xs i x lt = sym (take-append-drop i xs)
    ∙ ap (λ (rest : List A). take i xs ++ rest) (drop-cons xs i x lt)

-- one of them
has_one : {A : Type 0} (xs : List A) (i : ℕ) (x : A) → i < length xs → x ≡ get_or xs i x → (y : A)
    → Has (x ∷ []) y → Has xs y
has_one {A} xs i x lt is y (inl same) =
    subst (λ (s : A). Has xs s) (sym same) (has_at xs i x lt is)
has_one xs i x lt is y (inr none) = absurd none

-- one more of the changes that are made one after another
pub make_more : {S A : Type 0} {g : Ghosts S} {Adds : List A → Additions} {old mid new : Transaction S} {r : Result (Unit {0}) TableFault}
    (made : List A → Tables → Tables)
    (May : List A → Tables → Type 0)
    → InTurn made May → AddsAlike Adds → (xs : List A) (i : ℕ) (x : A) → i < length xs → x ≡ get_or xs i x
    → Writes g (Adds xs) old mid (May xs) (made (take i xs)) (Ok (tt {0}))
    → Writes g (Adds (x ∷ [])) mid new (May (x ∷ [])) (made (x ∷ [])) r
    → Writes g (Adds xs) old new (May xs) (made (take (i + 1) xs)) r
make_more {S} {A} {g} {Adds} {old} {mid} {new} {r} made May law alike xs i x lt is before one =
    let it = get_or xs i x in
    let next : Writes g (Adds xs) mid new (May (it ∷ [])) (made (it ∷ [])) r =
    subst (λ (s : A). Writes g (Adds xs) mid new (May (s ∷ [])) (made (s ∷ [])) r) is
    (writes_adds (λ clean. alike.more (x ∷ []) xs (has_one xs i x lt is)) one) in
    let so : (t : Tables) → May xs t → May (it ∷ []) (made (take i xs) t)
    × (made (it ∷ []) (made (take i xs) t) ≡ made (take i xs ++ it ∷ []) t) =
    λ t may. law.next (take i xs) it (drop (suc i) xs) t
    (subst (λ (ys : List A). May ys t) (split_at xs i x lt) may) in
    writes_for (writes_then before next (λ t may. (so t may).0))
    (λ t may. (may, (so t may).1 ∙ ap (λ (ys : List A). made ys t) (sym (take_more xs i x lt))))

-- ---- rows are put in, several at a time

-- rows before others are put in: these rows, and those that are left
pub record Stands {S A : Type 0} (g : Ghosts S) (Adds : Additions) (old now : Transaction S) (made : List A → Tables → Tables)
    (May : List A → Tables → Type 0) (rows left : List A) : Type 0 where
  pub front : List A
  pub are : rows ≡ front ++ left
  pub so_far : Writes g Adds old now (May rows) (made front) (Ok (tt {0}))

-- some more of them
pub some_more : {S A : Type 0} {g : Ghosts S} {Adds : List A → Additions} {old mid new : Transaction S} {r : Result (Unit {0}) TableFault}
    {made : List A → Tables → Tables} {May : List A → Tables → Type 0} {rows left : List A}
    (law : InParts made May) (alike : AddsAlike Adds) (stands : Stands g (Adds rows) old mid made May rows left)
    (some rest : List A)
    → left ≡ some ++ rest → Writes g (Adds some) mid new (May some) (made some) r
    → Writes g (Adds rows) old new (May rows) (made (stands.front ++ some)) r
some_more {S} {A} {g} {Adds} {old} {mid} {new} {r} {made} {May} {rows} {left} law alike stands some rest parts
    next =
    let all : rows ≡ stands.front ++ (some ++ rest) = stands.are ∙ ap (λ (l : List A). stands.front ++ l) parts in
    let so : (t : Tables) → May rows t → May some (made stands.front t)
    × (made some (made stands.front t) ≡ made (stands.front ++ some) t) =
    λ t may. law.next stands.front some rest t (subst (λ (l : List A). May l t) all may) in
    let among : (y : A) → Has some y → Has rows y =
    λ y has. subst (λ (l : List A). Has l y) (sym all)
    (has_right stands.front (some ++ rest) y (has_left some rest y has)) in
    writes_for (writes_then stands.so_far (writes_adds (λ clean. alike.more some rows among) next)
    (λ t may. (so t may).0)) (λ t may. (may, (so t may).1))

-- they stand so too
unfoldable pub stands_more : {S A : Type 0} {g : Ghosts S} {Adds : List A → Additions} {old mid new : Transaction S}
    {made : List A → Tables → Tables} {May : List A → Tables → Type 0} {rows left : List A}
    (law : InParts made May) (alike : AddsAlike Adds) (stands : Stands g (Adds rows) old mid made May rows left)
    (some rest : List A) → left ≡ some ++ rest
    → Writes g (Adds some) mid new (May some) (made some) (Ok (tt {0}))
    → Stands g (Adds rows) old new made May rows rest
stands_more {S} {A} law alike stands some rest parts next = record {
  front = stands.front ++ some;
  are = stands.are ∙ ap (λ (l : List A). stands.front ++ l) parts ∙ sym (append_assoc stands.front some rest);
  so_far = some_more law alike stands some rest parts next;
}

-- the rest of them
pub all_more : {S A : Type 0} {g : Ghosts S} {Adds : List A → Additions} {old mid new : Transaction S} {r : Result (Unit {0}) TableFault}
    {made : List A → Tables → Tables} {May : List A → Tables → Type 0} {rows left : List A}
    (law : InParts made May) → AddsAlike Adds → Stands g (Adds rows) old mid made May rows left
    → Writes g (Adds left) mid new (May left) (made left) r → Writes g (Adds rows) old new (May rows) (made rows) r
all_more {S} {A} {made = made} {rows = rows} {left = left} law alike stands last =
    writes_for (some_more law alike stands left [] (sym (append-nil left)) last)
    (λ t may. (may, ap (λ (l : List A). made l t) (sym stands.are)))
