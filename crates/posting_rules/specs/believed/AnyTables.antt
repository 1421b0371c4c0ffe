-- What records and openings do to whatever tables a counter shows, be they those of a log or not.
use Rattle.std.specs.Prelude.{◌≡◌, ◌<◌, ◌+◌, ℕ, List, None, IfSome}
use Rattle.message_records.specs.believed.Ranges.{whole_within}
use Rattle.message_records.specs.declared.limits.TheConstants.{MAX_BRANCH}
use Rattle.posting_rules.specs.believed.Changes.{replies_past_all, tables_past_all, tables_with_branch}
use Rattle.posting_rules.specs.believed.Commands.{Terms}
use Rattle.posting_rules.specs.believed.Counter.{LeavesOnly, Seen, opening_for}
use Rattle.posting_rules.specs.believed.LookUps.{terms_in}
use Rattle.posting_rules.specs.believed.Numbering.{first_account, first_teller}
use Rattle.posting_rules.specs.believed.Tables.{HasKeys, Tables, account_key, branch_key, floor_key, history_key}
use Rattle.posting_rules.specs.believed.Tables.{reference_key, request_key, row_at, teller_key}
use Rattle.posting_rules.specs.declared.counter.Opening.{Opening}
use Rattle.posting_rules.specs.declared.limits.TheConstants.{TELLERS_PER_BRANCH}

-- tables on which records can build: no row stands under an ordinal beyond the count, and no branch and no floor under a
-- number that is none of branches
pub record HasRoom (t : Tables) : Type 0 where
  pub requests : (o : ℕ) → t.decided < o → row_at request_key t.requests o ≡ None
  pub postings : (o : ℕ) → t.decided < o → row_at history_key t.history o ≡ None
  pub references : (o : ℕ) → t.decided < o → row_at reference_key t.references o ≡ None
  pub branches : (n : ℕ) → whole_within 1 MAX_BRANCH n ≡ None → row_at branch_key t.branches n ≡ None
  pub floors : (n : ℕ) → whole_within 1 MAX_BRANCH n ≡ None → row_at floor_key t.floors n ≡ None

-- Records were answered. On whatever tables with room the counter showed, the replies are those to the records, one after
-- another; it shows what the records leave; and where a crash could leave those tables alone, it leaves that alone.
pub record AnswersByTables (old new : Seen) (moment : ℕ) (records replies : List (List ℕ)) : Type 0 where
  pub are : new.honest → (t : Tables) → HasRoom t → old.tables t → replies ≡ replies_past_all t moment records
  pub shows : new.honest → (t : Tables) → HasRoom t → old.tables t → new.tables (tables_past_all t moment records)
  pub survives : new.honest → (t : Tables) → HasRoom t → old.tables t → LeavesOnly old (λ left. left ≡ t)
      → LeavesOnly new (λ left. left ≡ tables_past_all t moment records)

-- ---- an opening

-- no row has a key of the branch's tellers, of its accounts or of its floor
pub record HasRoomToOpen (branch : ℕ) (terms : Terms) (t : Tables) : Type 0 where
  pub tellers : (n : ℕ) → n < TELLERS_PER_BRANCH → row_at teller_key t.tellers (first_teller branch + n) ≡ None
  pub accounts : (n : ℕ) → n < terms.accounts → row_at account_key t.accounts (first_account branch + n) ≡ None
  pub floor : IfSome terms.floor (λ _. row_at floor_key t.floors branch ≡ None)

-- the branch has a row, or there is room for it
abbrev pub IsReadyToOpen : ℕ → Terms → Tables → Type 0
IsReadyToOpen branch terms t = row_at branch_key t.branches branch ≡ None → HasRoomToOpen branch terms t

-- u has the rows of t; those of branches, of their tellers, accounts and floors may stand in another order
pub record HasSameRows (t u : Tables) : Type 0 where
  pub branches : (n : ℕ) → row_at branch_key u.branches n ≡ row_at branch_key t.branches n
  pub tellers : (n : ℕ) → row_at teller_key u.tellers n ≡ row_at teller_key t.tellers n
  pub accounts : (n : ℕ) → row_at account_key u.accounts n ≡ row_at account_key t.accounts n
  pub floors : (n : ℕ) → row_at floor_key u.floors n ≡ row_at floor_key t.floors n
  pub decided : u.decided ≡ t.decided
  pub history : u.history ≡ t.history
  pub requests : u.requests ≡ t.requests
  pub references : u.references ≡ t.references
  pub closings : u.closings ≡ t.closings

-- no two rows of those have one key
pub record HasKeysOfBranches (t : Tables) : Type 0 where
  pub branches : HasKeys branch_key t.branches
  pub tellers : HasKeys teller_key t.tellers
  pub accounts : HasKeys account_key t.accounts
  pub floors : HasKeys floor_key t.floors

-- it shows tables with these rows; and where a crash could leave t alone, it leaves those alone
pub record LeadsTo (old new : Seen) (t wanted : Tables) : Type 0 where
  pub tables : Tables
  pub same : HasSameRows wanted tables
  pub are : new.tables tables
  pub survives : LeavesOnly old (λ left. left ≡ t) → LeavesOnly new (λ left. left ≡ tables)

-- An opening was answered: the answer is that of these tables, and it shows what the opening leaves of them.
pub record OpensOn (old new : Seen) (t : Tables) (branch : ℕ) (terms : Terms) (opening : Opening) : Type 0 where
  pub answer : opening ≡ opening_for (terms_in t branch) terms
  pub leads : LeadsTo old new t (tables_with_branch t branch terms)
  pub keys : HasKeysOfBranches t → HasKeysOfBranches leads.tables

-- so it is on whatever tables there is room for the branch in
abbrev pub OpensByTables : (old new : Seen) → ℕ → Terms → Opening → Type 0
OpensByTables old new branch terms opening =
    new.honest → (t : Tables) → IsReadyToOpen branch terms t → old.tables t → OpensOn old new t branch terms opening
