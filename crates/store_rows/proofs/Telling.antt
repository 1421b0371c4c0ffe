-- What a call reports of the tables, by the statement that was run.
use Rattle.std.proofs.Common.{ℕ, List, Option, option_map, Result}
use Rattle.sqlite.specs.{Listing.understood, Order.Row, Schema.Schema, State.State, State.QueriesRowInside}
use Rattle.sqlite.specs.{declared.error.Error.Error, declared.transaction.Transaction.Transaction}
use Rattle.sqlite_trees.specs.declared.store.Store.{Ghosts}
use Rattle.posting_rules.specs.believed.Tables.{Tables}
use Rattle.sql_meanings.specs.{Calls.Inside, Calls.Says, believed.Entries.Entry}
use Rattle.sql_meanings.specs.StatementAnswers.{OnlyShows, TellsRow}
use Rattle.store_rows.specs.{Calls.LooksUp, Calls.OfTables, Failures.Asks, Failures.ReadsAnswer}
use Rattle.store_rows.specs.{believed.Readings.Reading, believed.View.Shows, declared.fault.TableFault.TableFault}
use Rattle.store_rows.specs.believed.Rules.{HoldsBank, StoredRows}
use Rattle.store_rows.proofs.{FoundRows.finds, Reasons.looks}

-- with these values the text looks up this of the rows that are held, and shows it so
pub record Seeks (text : List ℕ) (params : Row) (count : ℕ) (shown : Entry → Row) (stored : StoredRows → Option Entry)
    : Type 1 where
  pub only : (schema : Schema) → OnlyShows text count (understood schema text)
  pub answers : (old new : State) (rows : StoredRows) → HoldsBank old.now rows → (r : Result Row Error)
      → QueriesRowInside text params old new r → TellsRow old new (option_map shown (stored rows)) r

module _ {S : Type 0} (g : Ghosts S) (old new : Transaction S) where
  -- a look-up reports what its text looks up
  pub looks_up : {X : Type 0} {text : List ℕ} {params : Row} {count : ℕ} {shown : Entry → Row}
      {stored : StoredRows → Option Entry} (read : Reading X) → Seeks text params count shown stored
      → (answer : Result Row Error) (result : Result (Option X) TableFault) → ReadsAnswer read answer result
      → Says g old new (λ old new. QueriesRowInside text params old new answer)
      (λ old new. OnlyShows text count (understood old.now.schema text) → Asks old new answer)
      → LooksUp g old new stored (λ e. read (shown e)) result
  looks_up {shown = shown} {stored = stored} read seeks answer result reads says = record {
    same_reference = says.same_reference;
    answers = λ clean rows has. finds _ _ shown read (stored rows) answer result reads
        (seeks.answers _ _ rows has answer (says.answers clean));
    leaves = λ clean. looks _ _ read answer result reads (says.leaves clean (seeks.only _));
    survives = says.survives;
  }

  -- a write reports what its statement leaves, of its tables and of the others, and what it made
  pub tells_tables : {Ran Left Spared Made : State → State → Type 0} {Answers : State → State → Tables → Type 0}
      → ((before after : State) (t : Tables) → Shows before.now t → Ran before after → Answers before after t)
      → ((before after : State) → Ran before after → Spared before after × Made before after)
      → Says g old new (Inside Ran) (Inside Left)
      → Says g old new (Inside (OfTables Answers))
      (Inside (λ before after. Left before after × Spared before after × Made before after))
  tells_tables tells spares says = record {
    same_reference = says.same_reference;
    answers = λ clean live t shows. tells _ _ t shows (says.answers clean live);
    leaves = λ clean live.
        let both = spares _ _ (says.answers clean live) in
        (says.leaves clean live, both.0, both.1);
    survives = says.survives;
  }
