-- Slots in the order of their keys, one for each key.
use Rattle.std.specs.Prelude.{ℕ, zero, suc, List, [], ◌∷◌, Bool, IsTrue, ◌==◌, ◌&&◌, ◌||◌, nat_lt}
use Rattle.std.specs.Prelude.{if◌then◌else◌}
use Rattle.std.specs.List.{AllByRecursion}
use Rattle.posting_batch.specs.declared.slots.RequestSlot.{RequestSlot}
use Rattle.posting_batch.specs.Slots.{is_for}

-- ---- orders

-- by a number
abbrev pub number_below : {S : Type 0} → (S → ℕ) → S → S → Bool
number_below key s x = nat_lt (key s) (key x)

abbrev pub number_same : {S : Type 0} → (S → ℕ) → S → S → Bool
number_same key s x = key s == key x

-- by a teller, and under one teller by its numbers
abbrev pub request_below : RequestSlot → RequestSlot → Bool
request_below s x = nat_lt s.teller x.teller || ((s.teller == x.teller) && nat_lt s.number x.number)

abbrev pub request_same : RequestSlot → RequestSlot → Bool
request_same s x = is_for x.teller x.number s

-- ---- lists

-- the slots with another one before the first that is not below it, unless that one has its key
abbrev pub placed : {S : Type 0} → (S → S → Bool) → (S → S → Bool) → S → List S → List S
placed below same x [] = x ∷ []
placed below same x (s ∷ slots) =
    if below s x then s ∷ placed below same x slots
    else if same s x then s ∷ slots
    else x ∷ s ∷ slots

-- how many slots at the front are below another
abbrev pub rank : {S : Type 0} → (S → S → Bool) → S → List S → ℕ
rank below x [] = zero
rank below x (s ∷ slots) = if below s x then suc (rank below x slots) else zero

-- each slot is below all after it, so that no two have one key
abbrev pub IsRising : {S : Type 0} → (S → S → Bool) → List S → Type 0
IsRising below [] = Unit {0}
IsRising below (s ∷ slots) = AllByRecursion (λ x. IsTrue (below s x)) slots × IsRising below slots
