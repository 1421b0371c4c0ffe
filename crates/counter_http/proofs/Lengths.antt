-- The body's length, read from the fields in order.
use Rattle.std.proofs.Common.{◌≡◌, ℕ, ◌+◌, ◌-◌, ◌*◌, ◌<◌, ◌≤◌, inl, inr, min, Bool, true, false, cond, leb, List, []}
use Rattle.std.proofs.Common.{◌∷◌, length, Option, Some, None, refl, sym, ap, ◌∙◌, arith, map, drop, get_or}
use Rattle.std.specs.Prelude.{◌&&◌, codes, unwrap_or}
use Rattle.std.specs.{Option.is_some, List.list_any, List.list_all, Str.Parse.digits_value_after}
use Rattle.std.specs.Char.{is_ascii_digit, digit_value}
use Rattle.std.proofs.lemmas.Bool.{cases_Bool, cases_lt, and_parts, false≢true, leb-true, lt-leb, lt-ltb}
use Rattle.std.proofs.lemmas.{List.at_drop_more, Str.digit_value_digit}
use Rattle.counter_http.specs.believed.Fields.{NamedValue, is_alike, is_named, values_of, stated_length, length_by}
use Rattle.counter_http.specs.believed.Fields.{body_length}

-- ---- a number in digits, that stays at 4097 once it is too large

abbrev pub length_from : ℕ → List ℕ → Option ℕ
length_from n [] = cond (leb n 4096) (Some n) None
length_from n (c ∷ cs) = cond (is_ascii_digit c) (length_from (min (n * 10 + (c - 48)) 4097) cs) None

capped : (n : ℕ) → cond (leb (min n 4097) 4096) (Some (min n 4097)) None ≡ cond (leb n 4096) (Some n) None
capped n = elim (cases_lt 4096 n) [
  | inl large ↦
      let cap : min n 4097 ≡ 4097 = omega arith in
      rw (cap, lt-leb n 4096 large) refl
  | inr small ↦
      let cap : min n 4097 ≡ n = omega arith in
      rw cap refl
]

digit_is : (c : ℕ) → is_ascii_digit c ≡ true → digit_value c ≡ c - 48
digit_is c t =
    let parts = and_parts (leb 48 c) (leb c 57) t in
    let low : 48 ≤ c = leb-true 48 c parts.0 in
    let high : c ≤ 57 = leb-true c 57 parts.1 in
    omega (arith, digit_value_digit c (low, high))

read_from : (n : ℕ) (cs : List ℕ)
    → length_from (min n 4097) cs ≡ cond (list_all is_ascii_digit cs && leb (digits_value_after 10 n cs) 4096)
    (Some (digits_value_after 10 n cs)) None
read_from n [] = capped n
read_from n (c ∷ cs) = elim (cases_Bool (is_ascii_digit c)) [
  | inl t ↦
      let digit : digit_value c ≡ c - 48 = digit_is c t in
      let same : min (min n 4097 * 10 + (c - 48)) 4097 ≡ min (n * 10 + digit_value c) 4097 = omega arith in
      rw t (ap (λ (k : ℕ). length_from k cs) same ∙ read_from (n * 10 + digit_value c) cs)
  | inr f ↦ rw f refl
]

pub stated_from : (digits : List ℕ) → 0 < length digits → stated_length digits ≡ length_from 0 digits
stated_from digits some = rw (lt-ltb 0 (length digits) some) (sym (read_from 0 digits))

-- ---- the fields, with the length that was stated so far

abbrev pub on_stated : Option ℕ → Option ℕ → (Option ℕ → Option ℕ) → Option ℕ
on_stated (Some n) new go = None
on_stated None None go = None
on_stated None (Some n) go = go (Some n)

abbrev pub length_after : Option ℕ → List NamedValue → Option ℕ
length_after stated [] = Some (unwrap_or stated 0)
length_after stated (f ∷ fs) =
    cond (is_named (codes "transfer-encoding") f) None
    (cond (is_named (codes "content-length") f)
    (on_stated stated (stated_length f.1) (λ o. length_after o fs)) (length_after stated fs))

abbrev only : ℕ → List (List ℕ) → Option ℕ
only n [] = Some n
only n (v ∷ vs) = None

abbrev coded : List NamedValue → Bool
coded fs = list_any (is_named (codes "transfer-encoding")) fs

abbrev lengths : List NamedValue → List (List ℕ)
lengths fs = values_of (codes "content-length") fs

abbrev none : Option ℕ
none = None

none_either : (b : Bool) → none ≡ cond b none none
none_either true = refl
none_either false = refl

after_stated : (n : ℕ) (fs : List NamedValue)
    → length_after (Some n) fs ≡ cond (coded fs) None (only n (lengths fs))
after_stated n [] = refl
after_stated n (f ∷ fs) = elim (cases_Bool (is_named (codes "transfer-encoding") f)) [
  | inl t ↦ rw t refl
  | inr u ↦ elim (cases_Bool (is_named (codes "content-length") f)) [
    | inl t ↦ rw (u, t) (none_either (coded fs))
    | inr v ↦ rw (u, v) (after_stated n fs)
  ]
]

-- one value: the fields after it state none
one_value : (f : NamedValue) (fs : List NamedValue) (o : Option ℕ) → stated_length f.1 ≡ o
    → on_stated None o (λ p. length_after p fs) ≡ cond (coded fs) None (length_by (f.1 ∷ lengths fs))
one_value f fs None e = refused (lengths fs) (coded fs)
  where
    refused : (vs : List (List ℕ)) (b : Bool) → None ≡ cond b None (length_by (f.1 ∷ vs))
    refused [] b = rw e (none_either b)
    refused (v ∷ vs) b = none_either b
one_value f fs (Some n) e =
    after_stated n fs ∙ ap (λ (o : Option ℕ). cond (coded fs) None o) (same (lengths fs))
  where
    same : (vs : List (List ℕ)) → only n vs ≡ length_by (f.1 ∷ vs)
    same [] = sym e
    same (v ∷ vs) = refl

pub length_is : (fs : List NamedValue) → body_length fs ≡ length_after None fs
length_is [] = refl
length_is (f ∷ fs) = elim (cases_Bool (is_named (codes "transfer-encoding") f)) [
  | inl t ↦ rw t refl
  | inr u ↦ elim (cases_Bool (is_named (codes "content-length") f)) [
    | inl t ↦ rw (u, t) (sym (one_value f fs (stated_length f.1) refl))
    | inr v ↦ rw (u, v) (length_is fs)
  ]
]

-- ---- one more field

-- the field at a place, and those after it
pub at_field : {X : Type 0} (all stated : Option ℕ) (field : X → NamedValue) (xs : List X) (i : ℕ) (d : X)
    → i < length xs → all ≡ length_after stated (map field (drop i xs))
    → all ≡ length_after stated (field (get_or xs i d) ∷ map field (drop (i + 1) xs))
at_field all stated field xs i d within is =
    is ∙ at_drop_more (λ ys. length_after stated (map field ys)) xs i d within

-- a test compared its name
pub named_so : (text name : List ℕ) (f : NamedValue) (tested so : Bool) → text ≡ f.0
    → tested ≡ is_alike text name → tested ≡ so → is_named name f ≡ so
named_so text name f tested so same test is = ap (λ t. is_alike t name) (sym same) ∙ sym test ∙ is

pub one_coded : (all stated : Option ℕ) (f : NamedValue) (fs : List NamedValue)
    → all ≡ length_after stated (f ∷ fs) → is_named (codes "transfer-encoding") f ≡ true → None ≡ all
one_coded all stated f fs is t = sym (rw t at is)

pub one_other : (all stated : Option ℕ) (f : NamedValue) (fs : List NamedValue)
    → all ≡ length_after stated (f ∷ fs) → is_named (codes "transfer-encoding") f ≡ false
    → is_named (codes "content-length") f ≡ false → all ≡ length_after stated fs
one_other all stated f fs is u v = rw (u, v) at is

pub one_again : (all stated : Option ℕ) (f : NamedValue) (fs : List NamedValue)
    → all ≡ length_after stated (f ∷ fs) → is_named (codes "transfer-encoding") f ≡ false
    → is_named (codes "content-length") f ≡ true → is_some stated ≡ true → None ≡ all
one_again all None f fs is u t some = absurd (false≢true some)
one_again all (Some n) f fs is u t some = sym (rw (u, t) at is)

pub one_length : (all stated : Option ℕ) (f : NamedValue) (fs : List NamedValue)
    → all ≡ length_after stated (f ∷ fs) → is_named (codes "transfer-encoding") f ≡ false
    → is_named (codes "content-length") f ≡ true → is_some stated ≡ false
    → all ≡ on_stated None (stated_length f.1) (λ o. length_after o fs)
one_length all (Some n) f fs is u t first = absurd (false≢true (sym first))
one_length all None f fs is u t first = rw (u, t) at is
