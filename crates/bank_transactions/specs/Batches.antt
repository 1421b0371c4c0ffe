-- What a batch leaves in which nothing is decided.
use Rattle.std.specs.Prelude.{◌≡◌, ℕ, List, Result, Ok, Err}
use Rattle.smallvec.specs.SmallVec.{SmallVec}
use Rattle.sqlite.specs.Tree.{Trees}
use Rattle.sqlite.specs.State.{State}
use Rattle.posting_rules.specs.believed.Changes.{tables_past_all}
use Rattle.posting_rules.specs.believed.Tables.{Tables}
use Rattle.store_rows.specs.believed.View.{Shows, ShowsTrees}
use Rattle.store_rows.specs.declared.fault.TableFault.{TableFault}
use Rattle.bank_transactions.specs.Doing.{Stays}

-- the replies, without where they lie in memory
abbrev pub items_of : Result (SmallVec (List ℕ)) TableFault → Result (List (List ℕ)) TableFault
items_of (Ok replies) = Ok replies.items
items_of (Err e) = Err e

-- nothing was written, and the records lead to the tables that were there
pub record WritesNothing (old new : State) (t : Tables) (moment : ℕ) (records : List (List ℕ)) : Type 0 where
  pub leads : tables_past_all t moment records ≡ t
  pub stays : Stays old new

-- all is as it was, the records lead to the tables that were there, and everything that a crash may leave has them
pub record KeepsOnly (old new : State) (t : Tables) (moment : ℕ) (records : List (List ℕ)) : Type 0 where
  pub leads : tables_past_all t moment records ≡ t
  pub same : new.now ≡ old.now
  pub shows : Shows new.now t
  pub survives : (left : Trees) → new.may_leave left → ShowsTrees left t
