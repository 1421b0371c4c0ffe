-- A second bank, and which log it shows as it is given rows.
use Rattle.sqlite.specs.Held.{Held, state}
use Rattle.sqlite.specs.State.{HasCleanDisk}
use Rattle.sqlite_trees.specs.declared.store.Store.{Ghosts}
use Rattle.posting_rules.specs.believed.Commands.{Command, IsCommand, Open, Post, Terms, opened, opened_with}
use Rattle.posting_rules.specs.believed.Closings.{closings}
use Rattle.posting_rules.specs.believed.Counter.{ShowsLog}
use Rattle.posting_rules.specs.believed.Entries.{decided}
use Rattle.posting_rules.specs.believed.Runs.{followed_by, posts}
use Rattle.posting_rules.specs.declared.limits.TheConstants.{LAST_BRANCH, MAX_ACCOUNTS}
use Rattle.message_records.specs.declared.limits.TheConstants.{MAX_BALANCE}
use Rattle.message_records.specs.believed.Ranges.{cents_within}
use Rattle.message_records.specs.believed.Records.{RequestFields}
use Rattle.message_records.specs.believed.Reading.{request_of}
use Rattle.std.specs.Prelude.{◌≡◌, ◌⊎◌, ◌&&◌, ◌==◌, ◌<◌, ◌≤◌, ◌+◌, ℕ, ℤ, pos, Bool, true, not, int_lt, nat_abs, nat_le, List, [], ◌∷◌, length, replicate, get_or}
use Rattle.std.specs.Prelude.{Option, Some, None, Ok, IfSome, if◌then◌else◌}
use Rattle.walked_rows.specs.KeptRows.{KeptItem}
use Rattle.walked_rows.specs.declared.branches.StoredBranch.{StoredBranch}
use Rattle.walked_rows.specs.declared.floors.StoredFloor.{StoredFloor}
use Rattle.walked_rows.specs.declared.postings.StoredPosting.{StoredPosting}
use Rattle.bank_store.specs.believed.Seen.{bank_seen}
use Rattle.bank_store.specs.declared.bank.Bank.{Bank}
use Rattle.bank_replays.specs.Following.{prepared}
use Rattle.bank_replays.specs.Leading.{Leads}
use Rattle.bank_replays.specs.declared.refill.Planned.{Planned}
use Rattle.bank_replays.specs.declared.refill.Refill.{Refill}

-- its store is never in doubt
pub record IsNeverInDoubt {S : Type 0} (g : Ghosts S) : Type 0 where
  pub clean : (c : Held S) → HasCleanDisk (state g c)

-- ---- what is yet to be opened

-- what is planned for a branch, no account where nothing is
abbrev pub planned_at : List Planned → ℕ → Planned
planned_at planned b = get_or planned b (record { accounts = 0; floor = None })

-- a branch with so many accounts and such a floor can be opened
abbrev pub is_floor : Option ℤ → Bool
is_floor None = true
is_floor (Some lowest) = not (int_lt (pos 0) lowest) && nat_le (nat_abs lowest) MAX_BALANCE

abbrev pub can_open : ℕ → Planned → Bool
can_open b yet =
    nat_le 1 b && (nat_le b LAST_BRANCH && (nat_le 1 yet.accounts && (nat_le yet.accounts MAX_ACCOUNTS && is_floor yet.floor)))

-- the terms that it is opened with
abbrev pub terms_of : ℕ → Planned → Option Terms
terms_of b yet = if can_open b yet then Some (opened_with yet.accounts yet.floor) else None

-- each branch of a plan can be opened
abbrev pub IsPlan : (ℕ → Option Terms) → Type 0
IsPlan plan = (b : ℕ) → IfSome (plan b) (λ terms. IsCommand (Open b terms))

-- a branch is open as planned, or it isn't and is yet to be opened so, if it can be
abbrev pub IsYet : ℕ → (plan first : Option Terms) → Planned → Type 0
IsYet b plan first yet = ((yet.accounts ≡ 0) × (first ≡ plan)) ⊎ ((first ≡ None) × (plan ≡ terms_of b yet))

-- ---- what a second bank shows

-- it shows this log, once what is yet to be posted is posted
pub record HasLog {S : Type 0} (g : Ghosts S) (bank : Bank S g) (moment : ℕ) (batch : List (List ℕ)) (log : List Command)
    : Type 0 where
  pub posted : List Command
  pub shows : ShowsLog (bank_seen g bank) posted
  pub comes : followed_by posted (posts moment batch) ≡ log

-- and the rest of a plan is yet to be opened
pub record Holds {S W : Type 0} (g : Ghosts S) (plan : ℕ → Option Terms) (log : List Command) (refill : Refill S W g)
    : Type 0 where
  pub has : HasLog g refill.bank refill.moment refill.batch.items log
  pub yet : (b : ℕ) → IsYet b (plan b) (opened log b) (planned_at refill.planned.items b)

-- its posting has this moment, if it has one
abbrev pub IsMomentOf : ℕ → Option StoredPosting → Type 0
IsMomentOf moment None = Unit {0}
IsMomentOf moment (Some posting) = posting.moment ≡ moment

-- a request is posted, after the branches that it needs were opened
pub record HoldsMore {S W : Type 0} (g : Ghosts S) (plan : ℕ → Option Terms) (log : List Command) (had : Bool)
    (posting : Option StoredPosting) (r : RequestFields) (refill : Refill S W g) : Type 0 where
  pub moment : ℕ
  pub bytes : List ℕ
  pub is : IsMomentOf moment posting
  pub reads : request_of bytes ≡ Ok r
  pub holds : Holds g plan (Post moment bytes ∷ prepared plan had r log) refill

-- ---- what rows do

-- the log goes on by these kept rows
abbrev pub FollowsRows : {S W : Type 0} (g : Ghosts S) (first last : Refill S W g) → List KeptItem → Type 0
FollowsRows g first last items =
    IsNeverInDoubt g → (plan : ℕ → Option Terms) → IsPlan plan → (log : List Command) → Holds g plan log first
    → (now : List Command) × Holds g plan now last × Leads plan items log now

-- ---- what is planned by rows

-- of rows that are each of a branch, what those of this one make of what was planned
abbrev pub changed_by : {R : Type 0} (branch_of : R → ℕ) (change : R → Planned → Planned) → ℕ → List R → Planned → Planned
changed_by branch_of change b [] yet = yet
changed_by branch_of change b (r ∷ rs) yet =
    changed_by branch_of change b rs (if branch_of r == b then change r yet else yet)

-- a row of `branch` says how many accounts it is to have
abbrev pub with_accounts : StoredBranch → Planned → Planned
with_accounts r yet = record yet { accounts = r.accounts }

-- and one of `branch_floor` the floor, if it is an amount
abbrev pub with_floor : StoredFloor → Planned → Planned
with_floor r yet = record yet { floor = cents_within MAX_BALANCE r.lowest }

-- Rows change what is planned so, and nothing else.
pub record Plans {S W R : Type 0} (g : Ghosts S) (branch_of : R → ℕ) (change : R → Planned → Planned)
    (first last : Refill S W g) (rows : List R) : Type 0 where
  pub bank : last.bank ≡ first.bank
  pub batch : last.batch.items ≡ first.batch.items
  pub count : length last.planned.items ≡ length first.planned.items
  pub each : (b : ℕ) → b < length first.planned.items
      → planned_at last.planned.items b ≡ changed_by branch_of change b rows (planned_at first.planned.items b)

-- nothing is planned, and nothing is to be posted
pub record IsUnplanned {S W : Type 0} (g : Ghosts S) (refill : Refill S W g) : Type 0 where
  pub batch : refill.batch.items ≡ []
  pub planned : refill.planned.items ≡ replicate (LAST_BRANCH + 1) (record { accounts = 0; floor = None })

-- ---- what is left in the end

-- nothing more was decided or closed, and the branches of the plan below a number are open
pub record OpensBelow {S W : Type 0} (g : Ghosts S) (plan : ℕ → Option Terms) (log : List Command) (number : ℕ)
    (refill : Refill S W g) : Type 0 where
  pub now : List Command
  pub holds : Holds g plan now refill
  pub decides : decided now ≡ decided log
  pub closes : closings now ≡ closings log
  pub opens : (b : ℕ) → 1 ≤ b → b < number → opened now b ≡ plan b

-- it shows a log that decided and closed nothing more, and all of the plan is open
pub record OpensRest {S : Type 0} (g : Ghosts S) (plan : ℕ → Option Terms) (log : List Command) (bank : Bank S g) : Type 0
  where
    pub now : List Command
    pub shows : ShowsLog (bank_seen g bank) now
    pub decides : decided now ≡ decided log
    pub closes : closings now ≡ closings log
    pub opens : (b : ℕ) → opened now b ≡ plan b
