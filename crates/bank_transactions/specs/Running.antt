-- What a part of a call ran.
use Rattle.std.specs.Prelude.{IsTrue, OnOk, Result}
use Rattle.sqlite.specs.Held.{state}
use Rattle.sqlite.specs.State.{HasCleanDisk}
use Rattle.sqlite.specs.declared.transaction.Transaction.{Transaction}
use Rattle.sqlite_trees.specs.declared.store.Store.{Ghosts}
use Rattle.posting_rules.specs.believed.Tables.{Tables}
use Rattle.store_rows.specs.believed.Failures.{Additions}
use Rattle.store_rows.specs.declared.fault.TableFault.{TableFault}
use Rattle.bank_transactions.specs.Doing.{Does}
use Rattle.bank_transactions.specs.believed.Ran.{LeadTo, Runs, Statements}

-- they lead from tables that are so, be they the file's or not, to those after them
abbrev pub Leads : (Tables → Type 0) → (Tables → Tables) → Statements → Type 0
Leads So after statements = (t : Tables) → So t → LeadTo t (after t) statements

-- after `Ok`, statements that put such rows in, or change one, made what there is, and lead there
abbrev pub RunsIfOk : {S : Type 0} → Ghosts S → Additions → Transaction S → Transaction S → (Tables → Type 0)
    → (Tables → Tables) → Result (Unit {0}) TableFault → Type 0
RunsIfOk g Adds old new So after result = OnOk result (HasCleanDisk (state g new.conn.now)
    → IsTrue (state g old.conn.now).in_transaction
    → Runs Adds (Leads So after) (state g old.conn.now).now (state g new.conn.now).now)

-- a part that only writes, and what it ran
pub record Writes {S : Type 0} (g : Ghosts S) (Adds : Additions) (old new : Transaction S) (So : Tables → Type 0)
    (after : Tables → Tables) (result : Result (Unit {0}) TableFault) : Type 0 where
  pub does : Does g Adds old new So after (λ _. tt {0}) result
  pub ran : RunsIfOk g Adds old new So after result
