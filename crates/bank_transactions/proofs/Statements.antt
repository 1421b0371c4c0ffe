-- What the statements do to the tables: a row that is put in, a row that is written.
use Rattle.std.proofs.Common.{◌≡◌, false, true, Ok, Err, Result, refl, sym, subst, ◌∙◌, inl, inr}
use Rattle.std.specs.Prelude.{IsTrue, Bool, List, [], ℕ}
use Rattle.sqlite.specs.{State.State, Held.Held, Held.state, Order.Row, Table.Table}
use Rattle.sqlite.specs.{declared.error.Error.Error, declared.transaction.Transaction.Transaction}
use Rattle.sqlite_trees.specs.declared.store.Store.{Ghosts}
use Rattle.posting_rules.specs.{believed.Tables.Tables, declared.fault.Rule.Rule}
use Rattle.posting_rules.specs.declared.fault.Rule.TheVariants.{Meta, Teller, Account, Balance, Request, Value, Key}
use Rattle.posting_rules.specs.declared.fault.Rule.TheVariants.{Closing, Floor, Reference}
use Rattle.store_rows.specs.{Calls.AddsRow, Calls.SetsNumber, Failures.Changes, Failures.Puts}
use Rattle.store_rows.specs.Sparing.{MakesIfOk, SparesIfOk}
use Rattle.store_rows.specs.believed.Failures.{Additions, HasMet, IsUpdateOf, MeetsNone}
use Rattle.store_rows.specs.TableAnswers.{PutsOneRow, SetsRow}
use Rattle.store_rows.specs.declared.fault.TableFault.{TableFault, TheVariants.Sqlite, TheVariants.Damaged}
use Rattle.bank_transactions.specs.{believed.Causes.HasMetBetween, Causes.Blames}
use Rattle.bank_transactions.specs.Doing.{CommitsNothing, Does, LeavesAndAnswers, WritesIfOk, expected}
use Rattle.bank_transactions.proofs.Blamed.{blames_put, failed_here, met_here}
use Rattle.bank_transactions.proofs.Wrote.{writes_made, writes_one}

-- ---- a row that is put in

-- a row that is put in, as long as the transaction goes on
write_keeps : (old new : State) (text : List ℕ) (values : Row) (r : Result (Unit {0}) TableFault)
    → IsTrue old.in_transaction → Puts text values old new r → SparesIfOk old new r → CommitsNothing old new r
write_keeps old new text values (Ok done) live leaves spared = record {
  opened = λ h. leaves.was_open;
  committed = leaves.committed_is;
  mode = leaves.mode ∙ sym live;
  spares = spared;
}
write_keeps old new text values (Err e) live (inl same, why) spared =
    record { was_open = λ h. same.0.was_open; committed = λ h. same.0.committed_is }
write_keeps old new text values (Err e) live (inr undone, why) spared =
    record { was_open = undone.was_open; committed = λ h. (undone.undone h).1 }

added : (old new : State) (table : Table) (taken : Bool) (after : Tables) (r : Result (Unit {0}) TableFault)
    → taken ≡ false → PutsOneRow old new table taken after r
    → LeavesAndAnswers (λ rule. ⊥) new after tt r
added old new table taken after (Ok done) free adds = (refl, adds.1)
added old new table taken after (Err (Sqlite e)) free adds = tt
added old new table taken after (Err (Damaged rule)) free adds = let is = adds.1 in cc

-- a row is put in under a key that is free
pub does_add : {S : Type 0} {So : Tables → Type 0} {Adds : Additions} (g : Ghosts S) (old new : Transaction S)
    (text : List ℕ) (values : Row) (table : Table) (taken : Tables → Bool) (more : Tables → Tables)
    (r : Result (Unit {0}) TableFault)
    → AddsRow g old new text values table taken more r → Adds text values → ((t : Tables) → So t → taken t ≡ false) → Does g Adds old new So more (λ _. tt) r
does_add {Adds = Adds} g old new text values table taken more r says own free = record {
  says = record {
    same_reference = says.same_reference;
    answers = λ clean live t shows so.
        added (state g old.conn.now) (state g new.conn.now) table (taken t) (more t) r (free t so)
        (says.answers clean live t shows);
    leaves = λ clean live. let it =
        says.leaves clean live in (
          write_keeps (state g old.conn.now)
              (state g new.conn.now) text values r live it.0 it.1,
          blames_put Adds g old.conn.now new.conn.now text values r own it.0,
          writes_made Adds text values (state g old.conn.now) (state g new.conn.now) r own it.2,
        );
    survives = says.survives;
  };
}

-- ---- a row that is written

written : (old new : State) (table : Table) (there : Bool) (after : Tables) (r : Result Bool Error)
    (rule : Rule) → IsTrue there
    → SetsRow old new table there after r → LeavesAndAnswers (λ rule. ⊥) new after tt (expected r rule)
written old new table there after (Ok true) rule is writes = (refl, writes.1)
written old new table there after (Ok false) rule is writes = let no = writes.0 in cc
written old new table there after (Err e) rule is writes = tt

written_keeps : (old new : State) (text : List ℕ) (values : Row) (r : Result Bool Error) (rule : Rule)
    → IsTrue old.in_transaction → Changes text values old new r → SparesIfOk old new r
    → CommitsNothing old new (expected r rule)
written_keeps old new text values (Ok true) rule live leaves spared =
    write_keeps old new text [] (Ok tt) live leaves.0 spared
written_keeps old new text values (Ok false) rule live leaves spared =
    record { was_open = λ h. leaves.0.was_open; committed = λ h. leaves.0.committed_is }
written_keeps old new text values (Err e) rule live leaves spared =
    write_keeps old new text [] (Err (Sqlite e)) live leaves tt

module _ (Adds : Additions) (text : List ℕ) (values : Row) (own : Adds text values) where
  has_met : (old new : State) (rule : Rule) → IsUpdateOf rule text → MeetsNone text values old new
      → HasMet Adds old new rule
  has_met old new Meta of none = (text, values, own, of, none)
  has_met old new Teller of none = (text, values, own, of, none)
  has_met old new Account of none = (text, values, own, of, none)
  has_met old new Balance of none = absurd of
  has_met old new Request of none = absurd of
  has_met old new Value of none = absurd of
  has_met old new Key of none = absurd of
  has_met old new Floor of none = absurd of
  has_met old new Reference of none = absurd of
  has_met old new Closing of none = absurd of

  blames_changed : {S : Type 0} (g : Ghosts S) (old new : Held S) (r : Result Bool Error) (rule : Rule)
      → IsUpdateOf rule text → Changes text values (state g old) (state g new) r
      → Blames (HasMetBetween g Adds) g old new (expected r rule)
  blames_changed g old new (Ok true) rule of leaves = tt
  blames_changed g old new (Ok false) rule of leaves =
      met_here g old new rule (has_met (state g old) (state g new) rule of (leaves.1 refl))
  blames_changed g old new (Err e) rule of leaves = failed_here g old new e leaves.1

  written_made : (old new : State) (r : Result Bool Error) (rule : Rule) → MakesIfOk text values old new r
      → WritesIfOk Adds old new (expected r rule)
  written_made old new (Ok true) rule makes = writes_one Adds text values own old.now new.now makes
  written_made old new (Ok false) rule makes = tt
  written_made old new (Err e) rule makes = tt

-- a row that is there is written
pub does_write : {S : Type 0} {So : Tables → Type 0} {Adds : Additions} (g : Ghosts S) (old new : Transaction S)
    (table : Table) (there : Tables → Bool) (after : Tables → Tables)
    (answer : Result Bool Error) (rule : Rule) (r : Result (Unit {0}) TableFault) (text : List ℕ) (values : Row)
    → Adds text values → IsUpdateOf rule text → r ≡ expected answer rule
    → SetsNumber g old new table text values there after answer
    → ((t : Tables) → So t → IsTrue (there t)) → Does g Adds old new So after (λ _. tt) r
does_write {S} {So} {Adds} g old new table there after answer rule r text values own of is says so =
    subst (λ (x : Result (Unit {0}) TableFault). Does g Adds old new So after (λ _. tt) x) (sym is) (record {
      says = record {
        same_reference = says.same_reference;
        answers = λ clean live t shows it.
            written (state g old.conn.now) (state g new.conn.now) table (there t) (after t) answer rule
            (so t it) (says.answers clean live t shows);
        leaves = λ clean live.
            let it = says.leaves clean live in (
              written_keeps (state g old.conn.now) (state g new.conn.now) text values answer rule live it.0 it.1,
              blames_changed Adds text values own g old.conn.now new.conn.now answer rule of it.0,
              written_made Adds text values own (state g old.conn.now) (state g new.conn.now) answer rule it.2,
            );
        survives = says.survives;
      };
    })
