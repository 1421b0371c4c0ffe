-- A new bank stands at the empty log, and is made in one transaction.
use Rattle.std.proofs.Common.{◌≡◌, [], true, Ok, Err, Result, subst, sym, inr}
use Rattle.std.specs.Prelude.{IsTrue}
use Rattle.sqlite.specs.State.{State, HasCleanDisk, Survives}
use Rattle.sqlite.specs.{Held.Held, Held.state, Tree.Trees}
use Rattle.sqlite.proofs.StateLemmas.{survives_then}
use Rattle.sqlite_trees.specs.declared.store.Store.{Ghosts}
use Rattle.posting_rules.specs.believed.{Counter.StandsAt, Tables.Tables}
use Rattle.posting_rules.specs.declared.open_fault.OpenFault.{OpenFault}
use Rattle.posting_rules.proofs.Empty.{empty_shown}
use Rattle.sql_meanings.specs.Making.{KeepsTables}
use Rattle.store_rows.specs.Creation.{CreatesBank, HasNewBank, IsAlone, new_tables}
use Rattle.store_rows.specs.believed.View.{Shows, ShowsTrees}
use Rattle.bank_transactions.proofs.Blamed.{comes, same_moment}
use Rattle.bank_store.specs.{Connections.IsAsBefore, believed.Seen.seen_in}
use Rattle.bank_store.specs.NewBank.{BankIsMade, IsRefusedOnTheWay, IsTaken, MakesBank}
use Rattle.bank_store.proofs.{Causes.still_clean, Causes.unmade_within, Moved.MayLeave, Probed.as_before}
use Rattle.bank_store.proofs.{Settled.begun_survives, Settled.live, Unmade.refused_before}

pub stands_empty : (old new : State) (D : Type 0) → (D → ⊥) → BankIsMade old new → StandsAt (seen_in new D) []
stands_empty old new D up made = record {
  shows = record { commands = tt; tables = new_tables; are = made.shows; shows = empty_shown };
  up = up;
  survives = λ trees may. (new_tables, made.left trees may, empty_shown);
}

-- the connection, its transaction as it begins and after the tables were made, the connection after it
module _ {S : Type 0} (g : Ghosts S) (old begun last new : Held S)
    (is : begun ≡ record old { in_transaction = true })
    (made : HasCleanDisk (state g last) → IsTrue (state g begun).in_transaction
    → CreatesBank (state g begun) (state g last) (Ok tt)) where
  created : HasCleanDisk (state g last) → CreatesBank (state g old) (state g last) (Ok tt)
  created clean =
      subst (λ (h : Held S). CreatesBank (state g h) (state g last) (Ok tt)) is
      (made clean (live g old begun last new is))

  -- a crash leaves what it could leave before, or the new bank
  pub leaves_new : Survives (state g begun) (state g last) (λ _. ⊥)
      → Survives (state g last) (state g new) (MayLeave (state g last).now)
      → Survives (state g old) (state g new) (HasNewBank (state g old).now)
  leaves_new =
      begun_survives g old begun last new is (MayLeave (state g last).now) (HasNewBank (state g old).now)
      (λ clean left it. let new = created clean in rw it.0 ((state g last).now.schema, new.0, new.1))

  -- it is there once it is committed
  pub bank_made : HasCleanDisk (state g last)
      → ((t : Tables) → Shows (state g last).now t → Shows (state g new).now t)
      → ((t : Tables) → Shows (state g last).now t → (left : Trees) → (state g new).may_leave left → ShowsTrees left t)
      → (state g new).now ≡ (state g last).now → BankIsMade (state g old) (state g new)
  bank_made clean shown left same =
      let it = created clean in
      record {
        shows = shown new_tables it.0;
        left = left new_tables it.0;
        keeps = subst (KeepsTables (state g old).now) (sym same) it.1;
        alone = subst (IsAlone (state g old).now) (sym same) it.2;
      }

-- the connection was only looked at before
module _ {S : Type 0} (g : Ghosts S) (old mid new : Held S)
    (same : HasCleanDisk (state g mid) → IsAsBefore (state g old) (state g mid))
    (looked : Survives (state g old) (state g mid) (λ _. ⊥)) (result : Result (Unit {0}) OpenFault)
    (makes : MakesBank g mid new IsRefusedOnTheWay result) where
  same_now : HasCleanDisk (state g new) → (state g mid).now ≡ (state g old).now
  same_now clean = (same (still_clean makes.survives clean)).now_is

  survives_look : Survives (state g old) (state g new) (HasNewBank (state g old).now)
  survives_look =
      survives_then (state g old) (state g mid) (state g new) (λ _. ⊥) (HasNewBank (state g mid).now)
      (HasNewBank (state g old).now) (λ clean left none. absurd none)
      (λ clean left it. subst (λ db. HasNewBank db left) (same_now clean) it) looked makes.survives

pub makes_then : {S : Type 0} (g : Ghosts S) (old mid new : Held S)
    → (HasCleanDisk (state g mid) → IsAsBefore (state g old) (state g mid))
    → Survives (state g old) (state g mid) (λ _. ⊥) → (result : Result (Unit {0}) OpenFault)
    → MakesBank g mid new IsRefusedOnTheWay result → MakesBank g old new IsTaken result
makes_then g old mid new same looked (Ok done) makes = record {
  made = λ clean.
      let it = makes.made clean in
      let was = same_now g old mid new same looked (Ok done) makes clean in
      record {
        shows = it.shows;
        left = it.left;
        keeps = subst (λ db. KeepsTables db (state g new).now) was it.keeps;
        alone = subst (λ db. IsAlone db (state g new).now) was it.alone;
      };
  undone = λ clean. tt;
  fault = tt;
  refused = λ clean. tt;
  cause = tt;
  survives = survives_look g old mid new same looked (Ok done) makes;
  mode = makes.mode;
}
makes_then g old mid new same looked (Err fault) makes = record {
  made = λ clean. tt;
  undone = λ clean still.
      as_before (state g old) (state g mid) (state g new) (same (still_clean makes.survives clean))
      (makes.undone clean still);
  fault = makes.fault;
  refused = λ clean taken.
      inr (refused_before (state g old) (state g mid) (same_now g old mid new same looked (Err fault) makes clean)
      looked.limit (makes.refused clean taken));
  cause =
      unmade_within g old mid new new (comes looked) (λ clean. clean) (same_moment (state g new)) fault makes.cause;
  survives = survives_look g old mid new same looked (Err fault) makes;
  mode = makes.mode;
}
