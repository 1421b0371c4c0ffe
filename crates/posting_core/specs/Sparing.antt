-- What is so of a counter whatever it was given.
use Rattle.posting_rules.specs.believed.Counter.{Seen}

-- it is honest only where it was so before, and what no call of it touches is as it was
pub record IsSpared {C : Type 0} (seen : C → Seen) (spares : C → C → Type 0) (old new : C) : Type 0 where
  pub honest : (seen new).honest → (seen old).honest
  pub others : spares old new
