-- What a command leaves of the tables of other products, and what it comes to where a bank is found and where none is.
use Rattle.std.proofs.Common.{◌≡◌, Result, arith, subst, sym, inl, inr}
use Rattle.std.specs.Prelude.{IsErrAnd}
use Rattle.std.proofs.lemmas.Result.{err_from_is_err_and}
use Rattle.sqlite.specs.{Effect.Database, Held.Held, Held.state, State.HasCleanDisk}
use Rattle.sqlite.proofs.StateLemmas.{survives_then}
use Rattle.sqlite_trees.specs.declared.store.Store.{Ghosts}
use Rattle.store_rows.specs.believed.Sparing.{SparesOthers}
use Rattle.bank_store.specs.believed.Seen.{connection_of, database_of, file_of}
use Rattle.bank_store.specs.{OpenBankSparing.SparesWhileOpen, declared.bank.Bank.Bank, declared.refused.Refused.Refused}
use Rattle.bank_store.proofs.Spared.{idle_spares, read_spares}
use Rattle.command_line.specs.declared.fault.CommandFault.{CommandFault}
use Rattle.bank_commands.specs.Over.{FindsOver, IsFoundOver, IsMissedOver, IsRefusedOver}

module _ {S : Type 0} (g : Ghosts S) (conn : Held S) where
  -- no bank was found
  missed_spares : (refused : Refused S) → IsMissedOver g conn refused → SparesWhileOpen g conn refused.conn
  missed_spares refused missed =
      read_spares g conn conn refused.conn (idle_spares g conn) missed.back.undone missed.survives

  pub refused_spares : {X : Type 0} (back : Held S) (end : Result X CommandFault)
      → IsErrAnd end (IsRefusedOver (IsMissedOver g conn) back) → SparesWhileOpen g conn back
  refused_spares back end none =
      let it = (err_from_is_err_and end none).2 in
      subst (SparesWhileOpen g conn) (sym it.conn) (missed_spares it.refused it.why)

  -- one was found, and what was done with it spared them
  pub found_spares : (back : Held S) (first last : Bank S g) → IsFoundOver g conn first
      → SparesWhileOpen g (connection_of first) (connection_of last) → back ≡ connection_of last
      → SparesWhileOpen g conn back
  found_spares back first last found spared same = subst (SparesWhileOpen g conn) (sym same) record {
    now = λ clean is_open. subst (λ (db : Database). SparesOthers db (database_of g last)) (shown clean)
        (spared.now clean is_open);
    left = survives_then (state g conn) (file_of first) (file_of last) (λ _. ⊥) _ _
        (λ clean db none. absurd none)
        (λ clean db left. (
          left.0,
          left.1,
          subst (λ (shows : Database). SparesOthers shows left.0) (shown clean) left.2,
        ))
        found.survives spared.left;
  }
    where
      shown : HasCleanDisk (file_of last) → database_of g first ≡ (state g conn).now
      shown clean = (found.found.found (omega (arith, spared.left.clean, clean))).there.same.now_is

  module _ {X : Type 0} (back : Held S) (end : Result X CommandFault) {Idle : Type 0}
      {Did : Bank S g → Bank S g → Type 0} where
    -- none was found
    pub none_over : IsErrAnd end (IsRefusedOver (IsMissedOver g conn) back) → Idle
        → FindsOver g conn back end Idle Did
    none_over none idle = (inl (none, idle), refused_spares back end none)

    -- this one was, and that was done with it
    pub done_over : (first last : Bank S g) → IsFoundOver g conn first → Did first last
        → SparesWhileOpen g (connection_of first) (connection_of last) → back ≡ connection_of last
        → FindsOver g conn back end Idle Did
    done_over first last found did spared same = (
      inr record { first = first; last = last; did = (found, did); conn = same },
      found_spares back first last found spared same,
    )
