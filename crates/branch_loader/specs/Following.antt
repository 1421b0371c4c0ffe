-- What following a log does: what the bank took of its entries, and how it stops.
use Rattle.std.specs.Prelude.{◌≡◌, ◌≢◌, ◌⊎◌, ◌<◌, ◌+◌, ◌^◌, ◌==◌, ◌++◌, ℕ, List, [], ◌∷◌, map, length, Option}
use Rattle.std.specs.Prelude.{None, Some, option_map, Result, Ok, Err, ⊤, Bool, true, false, if◌then◌else◌, Contains}
use Rattle.std.specs.Prelude.{IsSome}
use Rattle.std.specs.List.{AllByRecursion, find, slice_get}
use Rattle.message_records.specs.declared.records.Outcome.{Outcome}
use Rattle.message_records.specs.declared.records.Outcome.TheVariants.{NoAccount, WrongBranch}
use Rattle.posting_rules.specs.believed.ByCommands.{HasRoomForAll, TakesByTables}
use Rattle.posting_rules.specs.ByCommands.{RepliesByTables, replies_past_commands}
use Rattle.posting_rules.specs.believed.Commands.{Command, Open, Post, Close, Terms}
use Rattle.posting_rules.specs.believed.Numbering.{branch_of_account, branch_of_teller}
use Rattle.posting_rules.specs.believed.Counter.{Refuses, Seen, ShowsLog, Takes}
use Rattle.posting_rules.specs.believed.{Runs.replies_to, Tables.Tables}
use Rattle.posting_rules.specs.declared.fault.Fault.{Fault}
use Rattle.posting_rules.specs.declared.fault.Fault.TheVariants.{Down}
use Rattle.posting_rules.specs.declared.limits.TheConstants.{RECORDS_PER_BATCH}
use Rattle.posting_core.specs.Entries.{ArePostsOf, IsEntry, IsMomentOf, IsNoEntry, record_text, reply_text}
use Rattle.posting_core.specs.believed.LogEntries.{AnsweredRequest, entries_of}
use Rattle.branch_loader.specs.Plans.{terms_of}
use Rattle.branch_loader.specs.believed.Plans.{Row, Rows}
use Rattle.branch_loader.specs.declared.follow_fault.FollowFault.{FollowFault}
use Rattle.branch_loader.specs.declared.follow_fault.FollowFault.TheVariants.{Bank, Differs, NoEntry}
use Rattle.branch_loader.specs.declared.follow_fault.OtherReply.{OtherReply}
use Rattle.branch_loader.specs.declared.followers.Waiting.{Waiting}

-- ---- what is planned

-- the plan's row of a branch
abbrev pub row_of : Rows → ℕ → Option Row
row_of rows branch = find (λ p. p.0 == branch) rows

-- what the plan opens it with
abbrev pub planned : Rows → ℕ → Option Terms
planned rows branch = option_map terms_of (row_of rows branch)

-- ---- which branches an entry needs

-- a request with this outcome was judged by its account, which was open then
abbrev pub had_account : Outcome → Bool
had_account WrongBranch = false
had_account NoAccount = false
had_account _ = true

-- its teller's, and its account's where it was judged by that
abbrev pub needed_by : AnsweredRequest → List ℕ
needed_by a = branch_of_teller a.request.teller
    ∷ (if had_account a.reply.outcome then branch_of_account a.request.account ∷ [] else [])

-- the branches that commands open
abbrev pub opened_by : List Command → List ℕ
opened_by [] = []
opened_by (Open branch terms ∷ cs) = branch ∷ opened_by cs
opened_by (Post moment bytes ∷ cs) = opened_by cs
opened_by (Close first last ∷ cs) = opened_by cs

-- those that the plan has are among these
abbrev pub AreOpen : Rows → (opened : List ℕ) → AnsweredRequest → Type 0
AreOpen rows opened a = AllByRecursion (λ b. IsSome (row_of rows b) → Contains opened b) (needed_by a)

-- Commands that take these entries, or the first of them, where these branches were opened before. A branch is opened
-- where the next entry needs it and it isn't open yet, and at no other place; an entry is posted once those are open that
-- it needs.
abbrev pub OpensFirst : Rows → (opened : List ℕ) → List AnsweredRequest → List Command → Type 0
OpensFirst rows opened entries [] = ⊤
OpensFirst rows opened [] (c ∷ cs) = ⊥
OpensFirst rows opened (a ∷ more) (Open branch terms ∷ cs) = Contains (needed_by a) branch
    × (Contains opened branch → ⊥) × OpensFirst rows (opened ++ branch ∷ []) (a ∷ more) cs
OpensFirst rows opened (a ∷ more) (Post moment bytes ∷ cs) = AreOpen rows opened a × OpensFirst rows opened more cs
OpensFirst rows opened (a ∷ more) (Close first last ∷ cs) = ⊥

-- the plan was looked at for these branches, by their numbers: those that it has are open, and no others are
pub record LooksOpen (rows : Rows) (looked : List Bool) (opened : List ℕ) : Type 0 where
  pub there : (b : ℕ) → slice_get looked b ≡ Some true → IsSome (row_of rows b) → Contains opened b
  pub noted : (b : ℕ) → Contains opened b → slice_get looked b ≡ Some true

abbrev pub NoneLooked : List Bool → Type 0
NoneLooked looked = (b : ℕ) → slice_get looked b ≡ Some true → ⊥

-- it was looked at for this branch, or hasn't it
abbrev pub IsLooked : Rows → List Bool → ℕ → Type 0
IsLooked rows looked b = (slice_get looked b ≡ Some true) ⊎ (row_of rows b ≡ None)

-- it was looked at for as many, and for no other than this one
pub record LooksAt (looked looked' : List Bool) (branch : ℕ) : Type 0 where
  pub keeps : (b : ℕ) → slice_get looked b ≡ Some true → slice_get looked' b ≡ Some true
  pub others : (b : ℕ) → slice_get looked' b ≡ Some true → (b ≡ branch) ⊎ (slice_get looked b ≡ Some true)

-- ---- what a bank took

-- the records and the replies of entries that are posted at one moment
pub record AreTexts (moment : ℕ) (records replies : List (List ℕ)) (entries : List AnsweredRequest) : Type 0 where
  pub records_are : records ≡ map record_text entries
  pub replies_are : replies ≡ map reply_text entries
  pub moments : AllByRecursion (λ a. IsMomentOf a moment) entries

-- entries that are yet to be posted
abbrev pub IsWaiting : Waiting → List AnsweredRequest → Type 0
IsWaiting w entries = AreTexts w.moment w.records.items w.replies.items entries

-- one more may wait
abbrev pub HasRoom : Waiting → Type 0
HasRoom w = (length w.records.items < RECORDS_PER_BATCH) × (length w.replies.items < RECORDS_PER_BATCH)

-- so many they are, where they can be counted
abbrev pub AreCounted : ℕ → List AnsweredRequest → Type 0
AreCounted count entries = length entries < 2 ^ 128 → count ≡ length entries

-- It took the commands that some entries are: openings as planned, and posts of the entries at their moments. The last
-- openings may be for the next entry, which isn't posted yet.
pub record HasTaken {C : Type 0} (seen : C → Seen) (spares : C → C → Type 0) (rows : Rows) (old new : C)
    (entries next : List AnsweredRequest) (commands : List Command) : Type 0 where
  pub are : ArePostsOf (planned rows) entries commands
  pub opens : OpensFirst rows [] (entries ++ next) commands
  pub takes : Takes (seen old) (seen new) commands
  pub by_tables : TakesByTables (seen old) (seen new) commands
  pub honest : (seen new).honest → (seen old).honest
  pub up : (seen new).is_down → (seen old).is_down
  pub idle : (seen old).is_down → new ≡ old
  pub others : spares old new

-- whatever log it showed, each got the reply of its entry
abbrev pub GaveReplies : (old new : Seen) → List AnsweredRequest → List Command → Type 0
GaveReplies old new entries commands = new.honest → (log : List Command) → ShowsLog old log
    → replies_to log commands ≡ map reply_text entries

-- it took them, and gave these replies, on whatever log it showed, and on whatever tables with room for all
pub record HasFollowed {C : Type 0} (seen : C → Seen) (spares : C → C → Type 0) (rows : Rows) (old new : C)
    (entries next : List AnsweredRequest) : Type 0 where
  pub commands : List Command
  pub taken : HasTaken seen spares rows old new entries next commands
  pub replies : GaveReplies (seen old) (seen new) entries commands
  pub by_tables : RepliesByTables (seen old) (seen new) commands (map reply_text entries)

-- and the branches are open for which the plan was looked at
pub record HasOpened {C : Type 0} (seen : C → Seen) (spares : C → C → Type 0) (rows : Rows) (old new : C)
    (entries next : List AnsweredRequest) (looked : List Bool) : Type 0 where
  pub followed : HasFollowed seen spares rows old new entries next
  pub looks : LooksOpen rows looked (opened_by followed.commands)

-- what these need is open by then
abbrev pub AreReady : {C : Type 0} {seen : C → Seen} {spares : C → C → Type 0} {rows : Rows} {old new : C}
    {entries next : List AnsweredRequest} → HasFollowed seen spares rows old new entries next → List AnsweredRequest
    → Type 0
AreReady {rows = rows} it more = AllByRecursion (AreOpen rows (opened_by it.commands)) more

-- it took all of these, as its count of them says
pub record HasPosted {C : Type 0} (seen : C → Seen) (spares : C → C → Type 0) (rows : Rows) (old new : C)
    (entries next : List AnsweredRequest) (w : Waiting) (looked : List Bool) : Type 0 where
  pub opened : HasOpened seen spares rows old new entries next looked
  pub counted : AreCounted w.posted entries

-- it took all of these but the last, which wait
pub record IsFollowing {C : Type 0} (seen : C → Seen) (spares : C → C → Type 0) (rows : Rows) (old new : C)
    (given next : List AnsweredRequest) (w : Waiting) (looked : List Bool) : Type 0 where
  pub done : List AnsweredRequest
  pub left : List AnsweredRequest
  pub all : done ++ left ≡ given
  pub posted : HasPosted seen spares rows old new done (left ++ next) w looked
  pub waits : IsWaiting w left
  pub ready : AreReady posted.opened.followed left

-- ---- how it stops

-- It took the commands of some, stood there, and refused those of the next: posts, or an opening for the first of those
-- after them.
pub record IsRefusedFollowing {C : Type 0} (seen : C → Seen) (spares : C → C → Type 0)
    (reason : Fault → C → C → Type 0) (rows : Rows) (old new : C) (entries : List AnsweredRequest) (fault : Fault)
    : Type 0 where
  pub done : List AnsweredRequest
  pub tried : List AnsweredRequest
  pub after : List AnsweredRequest
  pub all : done ++ (tried ++ after) ≡ entries
  pub stood : C
  pub followed : HasFollowed seen spares rows old stood done (tried ++ after)
  pub refused : List Command
  pub are : ArePostsOf (planned rows) tried refused
  pub opens : OpensFirst rows (opened_by followed.commands) (tried ++ after) refused
  pub refuses : Refuses fault (seen stood) (seen new) refused
  pub why : reason fault stood new
  pub honest : (seen new).honest → (seen stood).honest
  pub down : (seen stood).is_down → fault ≡ Down
  pub untried : fault ≡ Down → new ≡ stood
  pub others : spares old new

-- The first reply that was given and is another than the one that is due. So many entries came before, and they are
-- counted from 1.
pub record IsFirstOther (before : ℕ) (given due : List (List ℕ)) (other : OtherReply) : Type 0 where
  pub alike : List (List ℕ)
  pub given_after : List (List ℕ)
  pub due_after : List (List ℕ)
  pub given_are : given ≡ alike ++ other.stands ∷ given_after
  pub due_are : due ≡ alike ++ other.due ∷ due_after
  pub differ : other.stands ≢ other.due
  pub entry : other.entry ≡ before + length alike + 1

-- it took them, and this is the first reply that is another than its entry's
pub record HasDiffered {C : Type 0} (seen : C → Seen) (spares : C → C → Type 0) (rows : Rows) (old new : C)
    (entries : List AnsweredRequest) (other : OtherReply) : Type 0 where
  pub commands : List Command
  pub taken : HasTaken seen spares rows old new entries [] commands
  -- those after it were posted with it
  pub last : length entries < other.entry + RECORDS_PER_BATCH
  pub first : (seen new).honest → (log : List Command) → ShowsLog (seen old) log
      → IsFirstOther 0 (replies_to log commands) (map reply_text entries) other
  pub by_tables : (seen new).honest → (t : Tables) → HasRoomForAll t → (seen old).tables t
      → IsFirstOther 0 (replies_past_commands t commands) (map reply_text entries) other

-- why it stops where entries are posted, or branches opened for the next, and what was done with those that were given, if
-- they can be counted
abbrev pub Stops : {C : Type 0} → (C → Seen) → (C → C → Type 0) → (Fault → C → C → Type 0) → Rows → (old new : C)
    → (entries next : List AnsweredRequest) → FollowFault → Type 0
Stops seen spares reason rows old new entries next (Bank fault) =
    IsRefusedFollowing seen spares reason rows old new (entries ++ next) fault
Stops seen spares reason rows old new entries next (Differs other) =
    length entries < 2 ^ 128 → HasDiffered seen spares rows old new entries other
Stops seen spares reason rows old new entries next fault = ⊥

-- ---- some entries

-- These texts are entries, and after those that were given they were followed, but for the last, which wait. So many
-- were posted before.
abbrev pub TakesSome : {C : Type 0} → (C → Seen) → (C → C → Type 0) → (old new : C) → Rows → Waiting → List Bool
    → List (List ℕ) → Waiting → List Bool → Type 0
TakesSome {C} seen spares old new plan none before texts w looked =
    (first : C) (rows : Rows) (given : List AnsweredRequest)
    → plan ≡ rows → HasPosted seen spares rows first old given [] none before
    → (entries : List AnsweredRequest) × AllByRecursion IsEntry entries × (entries_of entries ≡ texts)
    × IsFollowing seen spares rows first new (given ++ entries) [] w looked

-- all of the texts are entries, and were followed after those that were given; or the first of them, and the next is
-- none, or it stopped at the last of them or at the next. So many were followed before, and w is what waits then.
abbrev pub TakesAll : {C : Type 0} → (C → Seen) → (C → C → Type 0) → (Fault → C → C → Type 0) → Rows → (old new : C)
    → List AnsweredRequest → List (List ℕ) → ℕ → Waiting → List Bool → Result (Unit {0}) FollowFault → Type 0
TakesAll seen spares reason rows old new given texts before w looked (Ok done) =
    (entries : List AnsweredRequest) × AllByRecursion IsEntry entries × (entries_of entries ≡ texts)
    × HasPosted seen spares rows old new (given ++ entries) [] w looked
TakesAll seen spares reason rows old new given texts before w looked (Err (NoEntry count)) =
    (entries : List AnsweredRequest) × (text : List ℕ) × (rest : List (List ℕ)) × AllByRecursion IsEntry entries
    × (entries_of entries ++ text ∷ rest ≡ texts) × HasFollowed seen spares rows old new (given ++ entries) []
    × (count ≡ before + length entries) × IsNoEntry text
TakesAll seen spares reason rows old new given texts before w looked (Err fault) =
    (entries next : List AnsweredRequest) × (rest : List (List ℕ)) × AllByRecursion IsEntry entries
    × AllByRecursion IsEntry next × (entries_of entries ++ (entries_of next ++ rest) ≡ texts)
    × Stops seen spares reason rows old new (given ++ entries) next fault
