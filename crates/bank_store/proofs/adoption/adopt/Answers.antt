-- What the found bank shows is what was shown. A bank that shows a log is missed only where the store failed.
use Rattle.std.proofs.Common.{sym, subst}
use Rattle.std.specs.Prelude.{IsSome}
use Rattle.sqlite.specs.{Effect.Database, State.HasCleanDisk, State.Survives, Held.state}
use Rattle.store_rows.specs.believed.BankTables.{HasBankTables}
use Rattle.bank_store.specs.FoundBank.{BankIsFound}
use Rattle.bank_store.proofs.{FoundBank.known, Settled.as_it_was, Settled.undone_if_open}
use Rattle.bank_store.proofs.TakenUp.{still_left, taken_up}
use Rattle.bank_store.proofs.adoption.adopt.Goals as goal

pub over-requires : goal.over-requires
over-requires g c = record {
  idle = c.in-Ok.ensures.looks.mode;
  tables = λ clean is_open.
      let there = (c.in-Ok.ensures.answers clean).there in
      subst (λ (db : Database). HasBankTables db.schema) (sym there.same.now_is) there.made;
}

pub returns-in-Ok : goal.returns-in-Ok
returns-in-Ok g c =
    let old = state g.S.Store c.args.conn in
    let new = state g.S.Store c.over.result.conn in
    let same = sym c.over.ensures.conn in
    let found : HasCleanDisk new → BankIsFound old new =
    subst (λ h. HasCleanDisk (state g.S.Store h) → BankIsFound old (state g.S.Store h)) same
    c.in-Ok.ensures.answers in
    let quiet : Survives old new (λ _. ⊥) =
    subst (λ h. Survives old (state g.S.Store h) (λ _. ⊥)) same c.in-Ok.ensures.looks.survives in
    let up : IsSome c.over.result.fault → ⊥ =
    λ some. (let none = c.over.ensures.up in let h = rw none at some in cc) in
    record {
      found = taken_up g.S.Store c.args.conn c.over.result (λ _. ⊥) found quiet (λ log shown left none. none) up;
      alloc = c.over.ensures.alloc;
      missed = tt;
      cause = tt;
      back = tt;
      known = tt;
      remains = tt;
      survives = quiet;
    }

pub returns-in-Err : goal.returns-in-Err
returns-in-Err g c =
    let old = state g.S.Store c.args.conn in
    let new = state g.S.Store c.find_bank.new.conn in
    let fault = c.in-Err.fault in
    let answers = c.in-Err.ensures.answers in
    record {
      found = tt;
      alloc = tt;
      missed = λ clean. (answers clean).0;
      cause = c.in-Err.ensures.looks.cause;
      back = record {
        idle = c.in-Err.ensures.looks.mode;
        same = λ clean other. as_it_was old new fault (answers clean).1 other;
        undone = λ clean. undone_if_open old new fault (answers clean).1;
      };
      known = λ clean log s. known old fault s.tables log (answers clean).0 s.are s.commands s.shows;
      remains = λ clean log at.
          still_left old new ⊥ ⊥ (λ _. ⊥) _ c.in-Err.ensures.looks.survives (λ left none. none) clean at.survives;
      survives = c.in-Err.ensures.looks.survives;
    }
