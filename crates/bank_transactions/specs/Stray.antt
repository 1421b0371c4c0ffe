-- Look-ups of rows that nothing asked for yet.
use Rattle.std.specs.Prelude.{Result}
use Rattle.sqlite.specs.declared.transaction.Transaction.{Transaction}
use Rattle.sqlite_trees.specs.declared.store.Store.{Ghosts}
use Rattle.store_rows.specs.declared.fault.TableFault.{TableFault}
use Rattle.bank_transactions.specs.Causes.{IsFirstDamaged}
use Rattle.bank_transactions.specs.Doing.{ReadsBy}

-- it changes nothing, and damage is of the rows that were there, or of such a row
abbrev pub LooksForStrays : {S : Type 0} → Ghosts S → Transaction S → Transaction S → Result (Unit {0}) TableFault → Type 0
LooksForStrays g old new = ReadsBy (IsFirstDamaged g) g old new (λ _. Unit {0}) (λ _. tt {0})
