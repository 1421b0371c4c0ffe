-- What commands do to whatever tables a counter shows, one after another.
use Rattle.std.specs.Prelude.{◌≡◌, ◌≤◌, ℕ, List, [], ◌∷◌, None}
use Rattle.posting_rules.specs.believed.AnyTables.{HasRoom, LeadsTo}
use Rattle.posting_rules.specs.believed.Changes.{tables_closed, tables_past, tables_with_branch}
use Rattle.posting_rules.specs.believed.Commands.{Command, Open, Post, Close}
use Rattle.posting_rules.specs.believed.Counter.{Seen}
use Rattle.posting_rules.specs.believed.Numbering.{branch_of_account, branch_of_teller}
use Rattle.posting_rules.specs.believed.Tables.{Tables, account_key, branch_key, floor_key, row_at, teller_key}

-- what commands leave of tables
abbrev pub tables_past_command : Tables → Command → Tables
tables_past_command t (Open branch terms) = tables_with_branch t branch terms
tables_past_command t (Post moment bytes) = tables_past t moment bytes
tables_past_command t (Close first last) = tables_closed t first last

abbrev pub tables_past_commands : Tables → List Command → Tables
tables_past_commands t [] = t
tables_past_commands t (c ∷ cs) = tables_past_commands (tables_past_command t c) cs

-- tables on which commands can build: there is room for postings; and a teller, an account or a floor has a row only
-- where its branch has one, so that there is room for each branch that has none
pub record HasRoomForAll (t : Tables) : Type 0 where
  pub postings : HasRoom t
  pub tellers : (n : ℕ) → 1 ≤ n → row_at branch_key t.branches (branch_of_teller n) ≡ None
      → row_at teller_key t.tellers n ≡ None
  pub accounts : (n : ℕ) → 1 ≤ n → row_at branch_key t.branches (branch_of_account n) ≡ None
      → row_at account_key t.accounts n ≡ None
  pub floors : (n : ℕ) → row_at branch_key t.branches n ≡ None → row_at floor_key t.floors n ≡ None

-- it shows what the commands leave of these tables, on which others can build
pub record TakesOn (old new : Seen) (t : Tables) (commands : List Command) : Type 0 where
  pub leads : LeadsTo old new t (tables_past_commands t commands)
  pub room : HasRoomForAll leads.tables

-- so it does whatever tables with room for all it showed
abbrev pub TakesByTables : (old new : Seen) → List Command → Type 0
TakesByTables old new commands =
    new.honest → (t : Tables) → HasRoomForAll t → old.tables t → TakesOn old new t commands
