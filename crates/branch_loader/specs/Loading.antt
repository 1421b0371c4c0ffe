-- What loading a plan answers, row by row, and counts.
use Rattle.std.specs.Prelude.{◌≡◌, ℕ, ◌+◌, List, [], ◌∷◌, Bool, true, false, count_by, length}
use Rattle.posting_rules.specs.believed.Commands.{Command, Open}
use Rattle.posting_rules.specs.believed.ByCommands.{HasRoomForAll, TakesByTables}
use Rattle.posting_rules.specs.believed.{Changes.tables_with_branch, LookUps.terms_in, Tables.Tables}
use Rattle.posting_rules.specs.believed.Counter.{Seen, ShowsLog, Takes, opening_after, opening_for}
use Rattle.posting_rules.specs.declared.counter.Opening.{Opening}
use Rattle.posting_rules.specs.declared.counter.Opening.TheVariants.{Opened, Already, Differs}
use Rattle.branch_loader.specs.declared.loader.Loaded.{Loaded}
use Rattle.branch_loader.specs.believed.Plans.{Rows}
use Rattle.branch_loader.specs.Plans.{openings, terms_of}
use Rattle.branch_loader.specs.believed.Loading.{LeavesPrefix}

-- the answers to a plan's openings, each after the log and the openings before it
unfoldable pub answers : List Command → Rows → List Opening
answers log [] = []
answers log (p ∷ rows) =
    opening_after log p.0 (terms_of p) ∷ answers (Open p.0 (terms_of p) ∷ log) rows

-- so on tables, each on what the openings before it left
abbrev pub answers_in : Tables → Rows → List Opening
answers_in t [] = []
answers_in t (p ∷ rows) =
    opening_for (terms_in t p.0) (terms_of p) ∷ answers_in (tables_with_branch t p.0 (terms_of p)) rows

-- the branch was opened now
abbrev pub is_opened : Opening → Bool
is_opened Opened = true
is_opened _ = false

-- it was open with this count and this floor
abbrev pub is_already : Opening → Bool
is_already Already = true
is_already _ = false

-- it was open with another count or another floor
abbrev pub is_differs : Opening → Bool
is_differs Differs = true
is_differs _ = false

-- how many answers there are of each kind
abbrev pub counted : List Opening → Loaded
counted given = record {
  opened = count_by is_opened given;
  already = count_by is_already given;
  differs = count_by is_differs given;
}

-- the counts with one answer more
abbrev pub with_answer : Loaded → Opening → Loaded
with_answer loaded Opened = record loaded { opened = loaded.opened + 1 }
with_answer loaded Already = record loaded { already = loaded.already + 1 }
with_answer loaded Differs = record loaded { differs = loaded.differs + 1 }

-- how many answers there are in all
abbrev pub total : Loaded → ℕ
total loaded = loaded.opened + loaded.already + loaded.differs

-- the counts are those of the answers, on whatever log and on whatever tables with room for all it showed
pub record CountsAnswers (old new : Seen) (rows : Rows) (loaded : Loaded) : Type 0 where
  pub by_log : new.honest → (log : List Command) → ShowsLog old log → loaded ≡ counted (answers log rows)
  pub by_tables : new.honest → (t : Tables) → HasRoomForAll t → old.tables t → loaded ≡ counted (answers_in t rows)

-- it took the openings of all rows, a crash leaves them all, and the counter is up if it was
pub record LoadsAll (old new : Seen) (rows : Rows) : Type 0 where
  pub takes : Takes old new (openings rows)
  pub by_tables : TakesByTables old new (openings rows)
  pub survives : LeavesPrefix old new (openings rows) (length rows)
  pub up : new.is_down → old.is_down
