-- What a failed call leaves, and what a read does.
use Rattle.std.specs.Prelude.{◌≡◌, List}
use Rattle.posting_rules.specs.declared.fault.Fault.{Fault}
use Rattle.posting_rules.specs.declared.fault.Fault.TheVariants.{Down}
use Rattle.posting_rules.specs.believed.Commands.{Command}
use Rattle.posting_rules.specs.believed.Counter.{LeavesOnly, Seen, Takes}
use Rattle.posting_rules.specs.believed.Tables.{Tables}

-- where it is honest, a crash leaves something
abbrev pub LeavesSomething : Seen → Type 0
LeavesSomething seen = seen.honest → ∥ ((remains : seen.Remains) × seen.left remains) ∥₁

-- commands were given call by call: the counter took some, stood there, and refused the next call for the
-- reason that its fault gives
pub record HasRefused {C : Type 0} (seen : C → Seen) (reason : Fault → C → C → Type 0) (old new : C)
    (fault : Fault) : Type 0 where
  pub taken : List Command
  pub stood : C
  pub takes : Takes (seen old) (seen stood) taken
  pub honest_first : (seen stood).honest → (seen old).honest
  pub honest : (seen new).honest → (seen stood).honest
  pub why : reason fault stood new
  pub tried : (seen stood).is_down → fault ≡ Down
  pub untried : fault ≡ Down → new ≡ stood
  -- one that was down from the start stood as it was: it took nothing
  pub idle : (seen old).is_down → stood ≡ old

-- It was read: it shows whatever tables it showed, and where a crash could leave those alone, it leaves those alone.
pub record StaysByTables (old new : Seen) : Type 0 where
  pub shows : new.honest → (t : Tables) → old.tables t → new.tables t
  pub survives : new.honest → (t : Tables) → old.tables t → LeavesOnly old (λ left. left ≡ t)
      → LeavesOnly new (λ left. left ≡ t)
