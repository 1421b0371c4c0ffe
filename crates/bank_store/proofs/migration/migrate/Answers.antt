-- The bank that was found, carried over or not, and what is known where there is none.
use Rattle.std.proofs.Common.{Ok, sym, subst}
use Rattle.sqlite.specs.{State.HasCleanDisk, State.Survives, Held.state}
use Rattle.bank_store.specs.Migration.{HasCarriedOver, Migrates}
use Rattle.bank_store.proofs.CarriedOver.{has_tables, is_migrated, knows_migrated, knows_refused, leaves_bank}
use Rattle.bank_store.proofs.Settled.{as_it_was, undone_if_open}
use Rattle.bank_store.proofs.migration.migrate.Goals as goal

pub over-requires : goal.over-requires
over-requires g c = record {
  idle = c.in-Ok.ensures.call.mode;
  tables = λ clean is_open.
      has_tables (state g.S.Store c.args.conn) (state g.S.Store c.find_or_move.new.conn) c.in-Ok.migrated
      c.in-Ok.ensures.from (c.in-Ok.ensures.answers clean);
}

pub returns-in-Ok-clause-migrated : goal.returns-in-Ok-clause-migrated
returns-in-Ok-clause-migrated g c =
    let old = state g.S.Store c.args.conn in
    let same = sym c.over.ensures.conn in
    let here = c.in-Ok.ensures in
    is_migrated g.S.Store c.args.conn c.over.result
    (λ some. (let none = c.over.ensures.up in let h = rw none at some in cc)) c.in-Ok.migrated
    (subst (λ h. HasCleanDisk (state g.S.Store h) → Migrates old (state g.S.Store h) (Ok c.in-Ok.migrated)) same
    here.answers) here.from
    (subst (λ h. Survives old (state g.S.Store h) (HasCarriedOver old)) same here.call.survives)

pub returns-in-Ok-clause-known : goal.returns-in-Ok-clause-known
returns-in-Ok-clause-known g c =
    let old = state g.S.Store c.args.conn in
    let here = c.in-Ok.ensures in
    knows_migrated g.S.Store c.args.conn c.over.result
    (λ some. (let none = c.over.ensures.up in let h = rw none at some in cc)) c.in-Ok.migrated
    (subst (λ h. HasCleanDisk (state g.S.Store h) → Migrates old (state g.S.Store h) (Ok c.in-Ok.migrated))
    (sym c.over.ensures.conn) here.answers) here.from

pub returns-in-Err-clause-misplaced : goal.returns-in-Err-clause-misplaced
returns-in-Err-clause-misplaced g c clean = (c.in-Err.ensures.answers clean).0

pub returns-in-Err-clause-back : goal.returns-in-Err-clause-back
returns-in-Err-clause-back g c =
    let old = state g.S.Store c.args.conn in
    let new = state g.S.Store c.find_or_move.new.conn in
    let answers = c.in-Err.ensures.answers in
    record {
      idle = c.in-Err.ensures.call.mode;
      same = λ clean other. as_it_was old new c.in-Err.fault (answers clean).1 other;
      undone = λ clean. undone_if_open old new c.in-Err.fault (answers clean).1;
    }

pub returns-in-Err-clause-known : goal.returns-in-Err-clause-known
returns-in-Err-clause-known g c =
    knows_refused g.S.Store c.args.conn _ (λ clean. (c.in-Err.ensures.answers clean).0)

pub returns-in-Err-clause-remains : goal.returns-in-Err-clause-remains
returns-in-Err-clause-remains g c = leaves_bank g.S.Store c.args.conn _ c.in-Err.ensures.call.survives
