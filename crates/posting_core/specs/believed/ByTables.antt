-- Batches that were answered one after another, on whatever tables a counter shows, be they those of a log or not.
use Rattle.std.specs.Prelude.{◌≡◌, ℕ, List}
use Rattle.posting_rules.specs.believed.AnyTables.{HasRoom}
use Rattle.posting_rules.specs.believed.Counter.{LeavesOnly, Seen}
use Rattle.posting_rules.specs.believed.Tables.{Tables}
use Rattle.posting_core.specs.believed.Batches.{Batch, replies_past_batches, tables_past_batches}

-- On tables with room the replies are those to the batches; it shows what the batches leave; and where a crash could leave
-- those tables alone, it leaves that alone.
pub record BatchesByTables (old new : Seen) (batches : List Batch) (replies : List (List ℕ)) : Type 0 where
  pub are : new.honest → (t : Tables) → HasRoom t → old.tables t → replies ≡ replies_past_batches t batches
  pub shows : new.honest → (t : Tables) → HasRoom t → old.tables t → new.tables (tables_past_batches t batches)
  pub survives : new.honest → (t : Tables) → HasRoom t → old.tables t → LeavesOnly old (λ left. left ≡ t)
      → LeavesOnly new (λ left. left ≡ tables_past_batches t batches)
