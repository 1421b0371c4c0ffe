-- Numbers of tellers by their keys, as runs that don't touch.
use Rattle.std.specs.Prelude.{◌≡◌, ◌≢◌, ◌≤◌, ◌+◌, ◌<◌, ◌==◌, ℕ, true, false, min, List, [], ◌∷◌, Option, Some, None, IfSome, if◌then◌else◌}
use Rattle.posting_rules.specs.declared.rows.ClosingRow.{ClosingRow}
use Rattle.posting_rules.specs.believed.Closings.{is_closed_in}

-- the runs rise from a number on, and between two of them lies a number that none has
abbrev pub RiseFrom : ℕ → List ClosingRow → Type 0
RiseFrom low [] = Unit {0}
RiseFrom low (r ∷ runs) = (low ≤ r.first) × (r.first ≤ r.last) × RiseFrom (r.last + 2) runs

-- the runs have the same numbers
abbrev pub SameNumbers : (one other : List ClosingRow) → Type 0
SameNumbers one other = (x : ℕ) → is_closed_in one x ≡ is_closed_in other x

-- one of them has the number, and the other hasn't
abbrev pub DifferAt : (one other : List ClosingRow) → ℕ → Type 0
DifferAt one other x = is_closed_in one x ≢ is_closed_in other x

-- none of them is above this number
abbrev pub NoneAbove : List ClosingRow → ℕ → Type 0
NoneAbove runs x = (y : ℕ) → x < y → is_closed_in runs y ≡ false

-- of them y is the least above x
pub record NextAbove (runs : List ClosingRow) (x y : ℕ) : Type 0 where
  pub above : x < y
  pub one : is_closed_in runs y ≡ true
  pub least : (z : ℕ) → x < z → z < y → is_closed_in runs z ≡ false

-- a number that one of two runs has and the other hasn't, if there is one: the first of the one that begins earlier, or the
-- one after the last of the one that ends earlier
abbrev pub between : ClosingRow → ClosingRow → Option ℕ
between a b = if a.first == b.first then if a.last == b.last then None else Some (min a.last b.last + 1)
    else Some (min a.first b.first)

-- the same where one of them may be missing
abbrev pub apart_at : Option ClosingRow → Option ClosingRow → Option ℕ
apart_at None None = None
apart_at (Some a) None = Some a.first
apart_at None (Some b) = Some b.first
apart_at (Some a) (Some b) = between a b

-- ---- a run that is made longer, after those that are done

abbrev pub as_list : Option ClosingRow → List ClosingRow
as_list None = []
as_list (Some r) = r ∷ []

-- the runs rise, and no two of them touch, and the next may begin at a number
abbrev pub RiseTo : (low high : ℕ) → List ClosingRow → Type 0
RiseTo low high [] = low ≤ high
RiseTo low high (r ∷ runs) = (low ≤ r.first) × (r.first ≤ r.last) × RiseTo (r.last + 2) high runs

-- the run that is made longer comes after all that are done
abbrev pub ComesAfter : List ClosingRow → Option ClosingRow → Type 0
ComesAfter done None = done ≡ []
ComesAfter done (Some r) = RiseTo 0 r.first done × (r.first ≤ r.last)

-- it begins no later than this number
abbrev pub BeginsBy : ℕ → Option ClosingRow → Type 0
BeginsBy x open_run = IfSome open_run (λ r. r.first ≤ x)
