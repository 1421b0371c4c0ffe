-- What comes of numbers that are gathered from rows.
use Rattle.std.specs.Prelude.{◌≡◌, ◌≤◌, ◌++◌, ◌||◌, ℕ, Bool, true, false, List, [], map}
use Rattle.std.proofs.Common.{append-nil, refl, sym}
use Rattle.posting_rules.specs.declared.rows.ClosingRow.{ClosingRow}
use Rattle.posting_rules.specs.believed.Closings.{is_closed_in}
use Rattle.posting_rules.specs.believed.Tables.{Tables}
use Rattle.carried_books.specs.declared.gathered.Gathered.{Gathered}
use Rattle.carried_books.specs.Carrying.{number_of}

-- these runs were added, and whether one of their rows was the seal
pub record Gathers (old new : Gathered) (seal : Bool) (more : List ClosingRow) : Type 0 where
  pub sealed : new.sealed ≡ (old.sealed || seal)
  pub runs : new.runs.items ≡ old.runs.items ++ more

-- the numbers that tables close were added
pub record GathersClosed (t : Tables) (old new : Gathered) : Type 0 where
  pub sealed : new.sealed ≡ (old.sealed || is_closed_in t.closings 0)
  pub numbers : (x : ℕ) → 1 ≤ x
      → is_closed_in new.runs.items x ≡ (is_closed_in old.runs.items x || is_closed_in t.closings x)

-- the numbers of the requests that tables keep were added
pub record GathersKept (t : Tables) (old new : Gathered) : Type 0 where
  pub sealed : new.sealed ≡ old.sealed
  pub runs : new.runs.items ≡ old.runs.items ++ map number_of t.requests

-- ---- for who visits rows

pub or_none : (b : Bool) → b ≡ (b || false)
or_none true = refl
or_none false = refl

pub gathers_none : (g : Gathered) → Gathers g g false []
gathers_none g = record { sealed = or_none g.sealed; runs = sym (append-nil g.runs.items) }
