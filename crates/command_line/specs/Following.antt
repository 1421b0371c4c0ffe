-- What the command `follow` does to its bank, which is old before it and new after it, and what it prints. r and r' are
-- the known bytes of its input before and after, q and q' what the input's reads are known to have returned, and w and
-- w' the known bytes of its output.
use Rattle.std.specs.Prelude.{◌≡◌, ◌⊎◌, ℕ, List, Option, Result, Ok, Err, IsErrAnd}
use Rattle.std.specs.Io.KnownBytes.{Appends, Keeps}
use Rattle.posting_rules.specs.believed.Counter.{Seen}
use Rattle.posting_rules.specs.declared.fault.Fault.{Fault}
use Rattle.posting_core.specs.believed.EndCalls.{ReadCall}
use Rattle.branch_loader.specs.Followed.{FollowsLog}
use Rattle.branch_loader.specs.Plans.{ReadsPlan}
use Rattle.branch_loader.specs.believed.Plans.{Rows}
use Rattle.branch_loader.specs.declared.fault.PlanFault.{PlanFault}
use Rattle.branch_loader.specs.declared.follow_fault.FollowFault.{FollowFault}
use Rattle.report_contents.specs.Written.{AppendsPart}
use Rattle.command_line.specs.CommandFaults.{fault_of_following, fault_of_plan}
use Rattle.command_line.specs.Lines.{after_line, followed_line}
use Rattle.command_line.specs.Looking.{IsOfPlanFile}
use Rattle.command_line.specs.declared.fault.CommandFault.{CommandFault}
use Rattle.command_line.specs.declared.fault.CommandFault.TheVariants.{Write}

-- the line of the entries was printed, or a prefix of it; nothing was where they weren't followed to the end
abbrev pub TellsFollowed : Result ℕ FollowFault → (w w' : Option (List ℕ)) → Result (Unit {0}) CommandFault → Type 0
TellsFollowed (Ok count) w w' (Ok done) = Appends w w' (followed_line count)
TellsFollowed (Ok count) w w' (Err fault) = (fault ≡ Write) × AppendsPart w w' (followed_line count)
TellsFollowed (Err cause) w w' result = (result ≡ Err (fault_of_following cause)) × Keeps w w'

-- a log was followed by the rows of a plan, and how many entries it had was told
pub record FollowsRead {C : Type 0} (seen : C → Seen) (spares : C → C → Type 0) (reason : Fault → C → C → Type 0)
    (rows : Rows) (r r' : Option (List ℕ)) (q q' : Option (List ReadCall)) (w w' : Option (List ℕ)) (old new : C)
    (result : Result (Unit {0}) CommandFault) : Type 0 where
  pub followed : Result ℕ FollowFault
  pub follows : FollowsLog seen spares reason rows r r' q q' old new followed
  pub tells : TellsFollowed followed w w' result

-- after the line of the requests; or a prefix of that was printed, and nothing was done
abbrev pub FollowsBy : {C : Type 0} → (C → Seen) → (C → C → Type 0) → (Fault → C → C → Type 0) → Rows → ℕ
    → (r r' : Option (List ℕ)) → (q q' : Option (List ReadCall)) → (w w' : Option (List ℕ)) → (old new : C)
    → Result (Unit {0}) CommandFault → Type 0
FollowsBy seen spares reason rows requests r r' q q' w w' old new result =
    ((result ≡ Err Write) × AppendsPart w w' (after_line requests) × (r' ≡ r) × (new ≡ old))
    ⊎ ((said : Option (List ℕ)) × Appends w said (after_line requests)
    × FollowsRead seen spares reason rows r r' q q' said w' old new result)

-- by the plan that was answered; or it is none, and nothing was done
abbrev pub FollowsAnswer : {C : Type 0} → (C → Seen) → (C → C → Type 0) → (Fault → C → C → Type 0)
    → Result Rows PlanFault → ℕ → (r r' : Option (List ℕ)) → (q q' : Option (List ReadCall))
    → (w w' : Option (List ℕ)) → (old new : C) → Result (Unit {0}) CommandFault → Type 0
FollowsAnswer seen spares reason (Ok rows) requests r r' q q' w w' old new result =
    FollowsBy seen spares reason rows requests r r' q q' w w' old new result
FollowsAnswer seen spares reason (Err fault) requests r r' q q' w w' old new result =
    (result ≡ Err (fault_of_plan fault)) × Keeps w w' × (r' ≡ r) × (new ≡ old)

-- by the plan of a name, as far as it was read; or it wasn't opened, and nothing was done. IsNamed says of a source that
-- the name is its, and known what is known of one.
abbrev pub FollowsOver : {C P : Type 0} → (C → Seen) → (C → C → Type 0) → (Fault → C → C → Type 0)
    → (IsNamed : P → Type 0) → (known : P → Option (List ℕ) × Option (List ReadCall)) → ℕ
    → (r r' : Option (List ℕ)) → (q q' : Option (List ReadCall)) → (w w' : Option (List ℕ)) → (old new : C)
    → Result (Unit {0}) CommandFault → Type 0
FollowsOver {P = P} seen spares reason IsNamed known requests r r' q q' w w' old new result =
    (IsErrAnd result IsOfPlanFile × Keeps w w' × (r' ≡ r) × (new ≡ old))
    ⊎ ((plan : P) × (left : P) × (answer : Result Rows PlanFault) × IsNamed plan
    × ReadsPlan (known plan).0 (known left).0 (known plan).1 (known left).1 answer
    × FollowsAnswer seen spares reason answer requests r r' q q' w w' old new result)
