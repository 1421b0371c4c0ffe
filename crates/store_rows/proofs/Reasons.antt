-- What a call that failed leaves, and why it did.
use Rattle.std.proofs.Common.{◌≢◌, ℕ, List, Option, Some, None, Result, Ok, Err, inl, inr, sym, subst}
use Rattle.sqlite.specs.{Order.Row, declared.error.Error.Error, declared.error.Error.TheVariants.QueryReturnedNoRows}
use Rattle.sqlite.specs.State.{State, QueriesRowInside}
use Rattle.sql_meanings.specs.StatementAnswers.{ReadKept, WriteFails}
use Rattle.sql_meanings.proofs.OnlyShowing.{kept_none}
use Rattle.sqlite_rules.specs.Lists.{Has}
use Rattle.store_rows.specs.believed.Failures.{Asking, queries}
use Rattle.store_rows.specs.Failures.{Asks, HasReason, Looks, ReadsAnswer}
use Rattle.store_rows.specs.believed.Readings.{Reading}
use Rattle.store_rows.specs.declared.fault.TableFault.{TableFault, TheVariants.Sqlite, TheVariants.Damaged}

-- a query that was made
pub asked : (old new : State) (text : List ℕ) (params : Row) (r : Result Row Error)
    → Has queries text → QueriesRowInside text params old new r → ReadKept old new r
    → Asks old new r
asked old new text params (Ok row) ours h kept = kept
asked old new text params (Err e) ours h kept = (kept, λ more. Asking text params ours h more)

module _ (old new : State) where
  -- a query that failed is a read that failed
  looks_asked : (e : Error) → Asks old new (Err e) → e ≢ QueryReturnedNoRows → WriteFails old new
      × HasReason old new (Sqlite e)
  looks_asked e (inl fails, why) more = (inr fails.3, why more)
  looks_asked e (inr same, why) more = (inl same, why more)

  -- a query whose answer is reported so is a read
  pub looks : {X : Type 0} (read : Reading X) (answer : Result Row Error) (result : Result (Option X) TableFault)
      → ReadsAnswer read answer result → Asks old new answer → Looks old new result
  looks read (Ok row) (Ok (Some x)) reads asks = asks
  looks read (Ok row) (Ok None) reads asks = absurd reads
  looks read (Ok row) (Err (Sqlite e)) reads asks = absurd reads
  looks read (Ok row) (Err (Damaged rule)) reads asks = (inl asks, tt)
  looks read (Err e) (Ok (Some x)) reads asks = absurd reads
  looks read (Err e) (Ok None) reads asks = kept_none old new
      (subst (λ e. ReadKept {X = Row} old new (Err e)) reads asks.0)
  looks {X = X} read (Err e) (Err fault) reads asks =
      subst (λ f. Looks {X = Option X} old new (Err f)) (sym reads.0) (looks_asked e asks reads.1)
