-- What a comparison of two books says, and what it leaves of each bank.
use Rattle.std.specs.Prelude.{◌≡◌, ℕ, Result, Ok, Option, None}
use Rattle.sqlite.specs.State.{HasCleanDisk}
use Rattle.sqlite_trees.specs.declared.store.Store.{Ghosts}
use Rattle.posting_rules.specs.declared.fault.Fault.{Fault}
use Rattle.posting_rules.specs.declared.fault.Fault.TheVariants.{Memory}
use Rattle.posting_rules.specs.believed.Tables.{Tables}
use Rattle.store_rows.specs.believed.View.{Shows}
use Rattle.bank_store.specs.believed.Seen.{database_of, file_of}
use Rattle.bank_store.specs.declared.bank.Bank.{Bank}
use Rattle.carried_books.specs.Carrying.{TablesCarry}
use Rattle.carried_books.specs.Gathering.{AreNumbered}
use Rattle.carried_books.specs.ReadsTold.{ReadsTold}
use Rattle.carried_books.specs.declared.apart.Apart.{Apart}
use Rattle.carried_books.specs.declared.apart.BooksFault.{BooksFault}
use Rattle.carried_books.specs.declared.apart.BooksFault.TheVariants as faults

-- the fault of the one bank, of which the other's tells nothing
abbrev pub fault_of_old : BooksFault → Fault
fault_of_old (faults.Old fault) = fault
fault_of_old (faults.New fault) = Memory

abbrev pub fault_of_new : BooksFault → Fault
fault_of_new (faults.Old fault) = Memory
fault_of_new (faults.New fault) = fault

-- the tables carry on, if the numbers of requests are in their range
abbrev pub CarriesRows : ℕ → Tables → Tables → Type 0
CarriesRows desk t u =
    AreNumbered t.requests → AreNumbered u.requests → TablesCarry desk t u

-- Two books were compared. Where both disks are clean and no difference was found, this holds of whatever tables they show.
pub record ComparesBooks {S T : Type 0} (g : Ghosts S) (h : Ghosts T) (old old' : Bank S g) (new new' : Bank T h)
    (Holds : Tables → Tables → Type 0) (result : Result (Option Apart) BooksFault) : Type 0 where
  pub of_old : ReadsTold g fault_of_old old old' result
  pub of_new : ReadsTold h fault_of_new new new' result
  pub none : HasCleanDisk (file_of old') → HasCleanDisk (file_of new') → result ≡ Ok None → (t u : Tables)
      → Shows (database_of g old) t → Shows (database_of h new) u → Holds t u
