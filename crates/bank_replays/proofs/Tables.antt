-- Two files with the same rows show the same tables.
use Rattle.std.proofs.Common.{List, arith, subst}
use Rattle.sqlite.specs.{Effect.Database, State.State}
use Rattle.posting_rules.specs.{believed.Commands.Command, believed.Counter.ShowsLog, believed.Tables.Tables}
use Rattle.store_rows.specs.believed.View.{Shows}
use Rattle.walked_rows.proofs.Shown.{has_accounts, has_branches, has_floors, has_history, has_meta, has_references}
use Rattle.walked_rows.proofs.Shown.{has_closings, has_requests, has_tellers}
use Rattle.bank_store.specs.believed.Seen.{seen_in}
use Rattle.bank_replays.specs.FileTables.{FileTables, HasTables, SameTables, rows_due}

-- a file that shows tables has their rows
pub due_tables : (db : Database) (t : Tables) → Shows db t → HasTables db (rows_due t)
due_tables db t shows = record {
  metas = has_meta db t shows;
  branches = has_branches db t shows;
  tellers = has_tellers db t shows;
  accounts = has_accounts db t shows;
  history = has_history db t shows;
  requests = has_requests db t shows;
  floors = has_floors db t shows;
  references = has_references db t shows;
  closings = has_closings db t shows;
}

-- a file that has their rows shows them
shows_due : (db : Database) (t : Tables) → HasTables db (rows_due t) → Shows db t
shows_due db t has = record {
  sound = has.metas.sound;
  early = λ low. absurd (omega (arith, low));
  each = (
    has.metas.holds,
    (
      has.branches.holds,
      (
        has.tellers.holds,
        (
          has.accounts.holds,
          (
            has.history.holds,
            (has.requests.holds, (has.floors.holds, (has.references.holds, (has.closings.holds, tt)))),
          ),
        ),
      ),
    ),
  );
}

-- where the rows of two files are the same, and the other shows tables, the first shows them
pub same_tables : (db other : Database) (t : Tables) (f : FileTables) → HasTables db f → Shows other t
    → SameTables db other → Shows db t
same_tables db other t f has shows same =
    shows_due db t (subst (HasTables db) (same f (rows_due t) has (due_tables other t shows)) has)

-- and so the log that they are of
pub same_log : (s other : State) (D E : Type 0) (f : FileTables) → HasTables s.now f
    → SameTables s.now other.now
    → (log : List Command) → ShowsLog (seen_in other E) log → ShowsLog (seen_in s D) log
same_log s other D E f has same log shown = record {
  commands = shown.commands;
  tables = shown.tables;
  are = same_tables s.now other.now shown.tables f has shown.are same;
  shows = shown.shows;
}
