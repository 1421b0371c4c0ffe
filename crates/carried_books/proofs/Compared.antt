-- What a comparison of balances leaves of each bank, and what it says of tables that are shown.
use Rattle.std.proofs.Common.{Option, Result, Ok, map}
use Rattle.sqlite.specs.Effect.{Database}
use Rattle.sqlite_trees.specs.declared.store.Store.{Ghosts}
use Rattle.posting_rules.specs.declared.fault.Fault.{Fault}
use Rattle.posting_rules.specs.believed.Tables.{Tables}
use Rattle.store_rows.specs.believed.View as view
use Rattle.walked_rows.proofs.Shown.{has_accounts, has_branches, has_floors, has_tellers}
use Rattle.bank_store.specs.declared.bank.Bank.{Bank}
use Rattle.bank_replays.specs.{Comparing.Compares, Comparing.SameStanding as SameRowsOfBalances}
use Rattle.bank_replays.specs.declared.difference.Difference.{Difference}
use Rattle.bank_replays.proofs.{Whys.why_none}
use Rattle.carried_books.specs.{Carrying.SameStanding, ReadsTold.ReadsTold}
use Rattle.carried_books.proofs.Standing.{stands_alike}

module _ {S T : Type 0} {g : Ghosts S} {h : Ghosts T} {old new : Bank S g} {due due' : Bank T h}
    {Same : Database → Database → Type 0} {Differ : Database → Database → Difference → Type 0}
    {r : Result (Option Difference) Fault} where
  pub told_first : Compares g h old new due due' Same Differ r → ReadsTold g (λ fault. fault) old new r
  told_first it = record { bank = it.bank; why = it.why }

module _ {S T : Type 0} {g : Ghosts S} {h : Ghosts T} {old new : Bank S g} {due due' : Bank T h}
    {Same : Database → Database → Type 0} {Differ : Database → Database → Difference → Type 0}
    {d : Option Difference} where
  pub told_due : Compares g h old new due due' Same Differ (Ok d) → ReadsTold {E = Fault} h (λ fault. fault) due due' (Ok d)
  told_due it = record { bank = it.due; why = why_none d }

pub standing_shown : (db due : Database) (new old : Tables) → view.Shows db new → view.Shows due old
    → SameRowsOfBalances db due → SameStanding old new
standing_shown db due new old shows shows_due same =
    stands_alike old new
    (same.0.0 (map view.branch_entry new.branches) (map view.branch_entry old.branches) (has_branches db new shows)
    (has_branches due old shows_due))
    (same.0.1 (map view.floor_entry new.floors) (map view.floor_entry old.floors) (has_floors db new shows)
    (has_floors due old shows_due))
    (same.1.0 (map view.account_entry new.accounts) (map view.account_entry old.accounts) (has_accounts db new shows)
    (has_accounts due old shows_due))
    (same.1.1 (map view.teller_entry new.tellers) (map view.teller_entry old.tellers) (has_tellers db new shows)
    (has_tellers due old shows_due))
