-- What a drive may refuse, and what it lists.
use Rattle.std.specs.Prelude.{◌≡◌, ⊤, ℕ, List, [], Result, Err}
use Rattle.posting_rules.specs.declared.fault.Fault.{Fault}
use Rattle.posting_rules.specs.declared.fault.Fault.TheVariants.{Memory}
use Rattle.posting_rules.specs.believed.Commands.{Command}
use Rattle.posting_rules.specs.believed.Counter.{Seen, ShowsLog, Takes, Refuses}
use Rattle.posting_rules.specs.{Counter.StaysByTables, Resends.Skips}
use Rattle.posting_rules.specs.believed.Runs.{followed_by, ArePosts}
use Rattle.posting_core.specs.believed.Stream.{IfUp, posted_records}
use Rattle.branch_loader.specs.believed.Plans.{Rows}
use Rattle.load_driver.specs.believed.Requests.{IsAscending}
use Rattle.load_driver.specs.declared.drive.Driven.{Driven}
use Rattle.load_driver.specs.declared.drive_fault.DriveFault.{DriveFault}
use Rattle.load_driver.specs.declared.drive_fault.DriveFault.TheVariants.{NoBranches, Bank}
use Rattle.load_driver.specs.believed.Records.{first_drawn, open_branches, posted_among}

-- the faults before the first record: there is none to draw, or memory was refused
abbrev pub MayRefuse : Rows → DriveFault → Type 0
MayRefuse rows NoBranches = rows ≡ []
MayRefuse rows (Bank fault) = fault ≡ Memory

-- the counter listed its branches: it was given nothing, and can be used
pub record IsListed (old new : Seen) : Type 0 where
  pub takes : Takes old new []
  pub by_tables : StaysByTables old new
  pub up : new.is_down → ⊥
  pub honest : new.honest → old.honest

-- the counter refused to list its branches: it stood here when it was asked
pub record IsUnlisted {C : Type 0} (seen : C → Seen) (old new : C) (fault : Fault) : Type 0 where
  pub stood : C
  pub honest_first : (seen stood).honest → (seen old).honest
  pub honest : (seen new).honest → (seen stood).honest
  pub takes : Takes (seen old) (seen stood) []
  pub by_tables : StaysByTables (seen old) (seen stood)
  pub refuses : Refuses fault (seen stood) (seen new) []
  pub idle : (seen old).is_down → new ≡ old

-- ---- the fault that ended it

-- wherever the fault leaves the counter up
abbrev pub UnlessDown : Result Driven DriveFault → Type 0 → Type 0
UnlessDown (Err (Bank fault)) P = IfUp fault P
UnlessDown _ P = P

-- what the fault of the counter says
abbrev pub IfRefused : DriveFault → (Fault → Type 0) → Type 0
IfRefused NoBranches P = ⊤
IfRefused (Bank fault) P = P fault

-- ---- records that come again

-- where a counter showed posts p after a log, it shows p and then those of the records that p hasn't
pub record DrivesAgain (c c' : Seen) (seed count : ℕ) (driven : Driven) : Type 0 where
  pub rows : Rows
  pub commands : List Command
  pub posts : ArePosts commands
  pub records : posted_records commands ≡ first_drawn rows seed count
  pub listed : c'.honest → (log : List Command) → ShowsLog c log → IsAscending (open_branches log) rows
  pub tables : c'.honest → (log p added : List Command) → ArePosts p → Skips p commands added
      → ShowsLog c (followed_by log p) → ShowsLog c' (followed_by (followed_by log p) added)
  -- where p are posts of these very records, such as a drive made before, none is added, and p's replies are
  -- counted
  pub again : c'.honest → (log p : List Command) → ArePosts p → posted_records p ≡ posted_records commands
      → ShowsLog c (followed_by log p) → ShowsLog c' (followed_by log p) × (driven.posted ≡ posted_among log p)
