-- What a drive does to a counter, and what a crash may leave of it.
-- The clock's known readings before and after are k and k', and seen gives what is seen of a counter.
use Rattle.std.specs.Prelude.{◌≡◌, ◌≤◌, ◌+◌, ⊤, ℕ, List, [], ◌++◌, length, Option, Result, Ok, Err, IfOk, count_by}
use Rattle.posting_rules.specs.declared.fault.Fault.{Fault}
use Rattle.posting_rules.specs.believed.Commands.{Command}
use Rattle.posting_rules.specs.believed.Counter.{Seen, ShowsLog, StandsAt, LeavesOnly, ShowsPrefix, Takes, Refuses}
use Rattle.posting_core.specs.believed.Batches.{Batch, moments_of, posts_of, records_of}
use Rattle.posting_core.specs.believed.ByTables.{BatchesByTables}
use Rattle.posting_core.specs.believed.Clock.{AreReadings}
use Rattle.branch_loader.specs.believed.Plans.{Rows}
use Rattle.load_driver.specs.believed.Requests.{IsAscending}
use Rattle.load_driver.specs.declared.drive.Driven.{Driven}
use Rattle.load_driver.specs.declared.drive_fault.DriveFault.{DriveFault}
use Rattle.load_driver.specs.declared.drive_fault.DriveFault.TheVariants.{NoBranches, Bank}
use Rattle.load_driver.specs.believed.Records.{AreFull, first_drawn, is_posted, open_branches, posted_among}

-- ---- how it ends: some batches were taken, the counter stood there, and a batch was refused then or none

-- all records were taken, and their replies were counted
pub record IsDone {C : Type 0} (seen : C → Seen) (old stood new : C) (count : ℕ) (taken refused : List Batch)
    (driven : Driven) : Type 0 where
  pub none_refused : refused ≡ []
  pub stays : new ≡ stood
  pub whole : length (records_of taken) ≡ count
  pub total : driven.posted + driven.refused ≡ count
  pub posted : (seen new).honest → (log : List Command) → ShowsLog (seen old) log
      → driven.posted ≡ posted_among log (posts_of taken)

-- there was nothing to draw from
pub record IsIdle {C : Type 0} (stood new : C) (rows : Rows) (taken refused : List Batch) : Type 0 where
  pub no_rows : rows ≡ []
  pub none_taken : taken ≡ []
  pub none_refused : refused ≡ []
  pub stays : new ≡ stood

-- the bank refused a call: to list the branches, or to take a batch
pub record HasRefusedCall {C : Type 0} (seen : C → Seen) (stood new : C) (refused : List Batch)
    (fault : Fault)
    : Type 0 where
  pub one : length refused ≤ 1
  pub refuses : Refuses fault (seen stood) (seen new) (posts_of refused)

-- what each result says of the batches and of the counter
abbrev pub EndsDrive : {C : Type 0} → (C → Seen) → (old stood new : C) → Rows → (count : ℕ)
    → (taken refused : List Batch)
    → Result Driven DriveFault → Type 0
EndsDrive seen old stood new rows count taken refused (Ok driven) =
    IsDone seen old stood new count taken refused driven
EndsDrive seen old stood new rows count taken refused (Err NoBranches) = IsIdle stood new rows taken refused
EndsDrive seen old stood new rows count taken refused (Err (Bank fault)) =
    HasRefusedCall seen stood new refused fault

-- ---- what it did, whatever its result

-- it submitted the first records of rows and a seed
pub record Submits {C : Type 0} (seen : C
    → Seen) (old new : C) (k k' : Option (List ℕ)) (rows : Rows) (seed count : ℕ)
    (result : Result Driven DriveFault) : Type 0 where
  -- the batches that the counter took, and the one that it refused
  pub taken : List Batch
  pub refused : List Batch
  -- they are the first records, at most so many, in batches of 64, and the clock was read once for each batch
  pub records : records_of (taken ++ refused) ≡ first_drawn rows seed (length (records_of (taken ++ refused)))
  pub within : length (records_of (taken ++ refused)) ≤ count
  pub full : AreFull (taken ++ refused)
  pub clock : AreReadings k k' (moments_of (taken ++ refused))
  -- the counter stood here when it had taken them
  pub stood : C
  pub honest_first : (seen stood).honest → (seen old).honest
  pub honest : (seen new).honest → (seen stood).honest
  pub takes : Takes (seen old) (seen stood) (posts_of taken)
  -- so it is on whatever tables with room it showed, with these replies, of which the postings are counted
  pub replies : List (List ℕ)
  pub by_tables : BatchesByTables (seen old) (seen stood) taken replies
  pub counted : IfOk result (λ driven. driven.posted ≡ count_by is_posted replies)
  pub ends : EndsDrive seen old stood new rows count taken refused result
  -- a crash leaves all that it took
  pub survives : (seen new).honest → (log : List Command) → StandsAt (seen old) log
      → LeavesOnly (seen new) (ShowsPrefix log (posts_of (taken ++ refused)) (length (posts_of taken)))

-- wherever the branches were listed: not where the bank refused a call before the first batch
abbrev pub IfListed : Result Driven DriveFault → List Batch → Type 0 → Type 0
IfListed (Err (Bank fault)) [] P = ⊤
IfListed _ _ P = P

-- it submitted the first records over the branches that were open
pub record Drives {C : Type 0} (seen : C → Seen) (old new : C) (k k' : Option (List ℕ)) (seed count : ℕ)
    (result : Result Driven DriveFault) : Type 0 where
  pub rows : Rows
  pub submits : Submits seen old new k k' rows seed count result
  pub listed : (seen new).honest → (log : List Command) → ShowsLog (seen old) log
      → IfListed result (submits.taken ++ submits.refused) (IsAscending (open_branches log) rows)
  -- a counter that was down is the one that it was, and so is what a crash may leave of it
  pub idle : (seen old).is_down → new ≡ old
