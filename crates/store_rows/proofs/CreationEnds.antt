-- How the creation of a bank ends in a transaction of its own.
use Rattle.std.proofs.Common.{◌≡◌, [], inl, inr, ◌≤◌, Result, Ok, Err, IsTrue, true, false, ap, subst, arith}
use Rattle.std.specs.Prelude.{IfErr, OnErr, OnOk}
use Rattle.std.specs.Result.{IsErrAnd}
use Rattle.sqlite.specs.State.{State, HasCleanDisk, IsRolledBack, KeepsCounts, Survives, Shows as StateShows}
use Rattle.sqlite.specs.{Tree.Trees, declared.transaction.Transaction.Transaction}
use Rattle.sqlite.specs.{Steps.FailsToCommit, declared.error.Error.Error}
use Rattle.sql_meanings.proofs.Afterwards.{names_on, names_since, undone_since, undone_twice}
use Rattle.sqlite.specs.Held.{Held, state}
use Rattle.sqlite.proofs.{Callers.survives_begin, StateLemmas.survives_then}
use Rattle.sqlite_trees.specs.declared.store.Store.{Ghosts}
use Rattle.sql_meanings.specs.{Calls.Inside, Calls.Says, Making.KeepsTables, StatementAnswers.WritesKept}
use Rattle.store_rows.specs.believed.View.{Shows}
use Rattle.store_rows.specs.Creation.{CreatesBank, CreationFails, HasNewBank, IsAlone, MakesWide, new_tables}

-- the transaction has begun
abbrev begun : State → State
begun old = record old { in_transaction = true }

module _ (old mid new : State) (e : Error) where
  -- a statement fails, and the transaction is dropped
  pub fails_created : CreatesBank (begun old) mid (Err e) → mid.faults ≤ new.faults → IsRolledBack mid new
      → CreationFails old new e
  fails_created (inl store) more back = (
    inl (names_on (begun old) mid new (MakesWide old.now) (MakesWide old.now) (λ x. x) e more store),
    undone_twice (begun old) mid new store.3 back,
  )
  fails_created (inr refused) more back = (
    inr (mid.now, refused.0),
    undone_since (begun old) mid new true
        refused.1.0 back,
  )

  -- the commit fails
  pub fails_committed : StateShows (begun old) mid mid.now old.committed true → old.faults ≤ mid.faults
      → FailsToCommit mid new e
      → CreationFails old new e
  fails_committed shows more (inl store) = (
    inl (names_since (begun old) mid new ⊥ (MakesWide old.now) (λ x. absurd x) e shows.is_open more store),
    undone_since (begun old) mid new true shows store.3,
  )
  fails_committed shows more (inr ended) = absurd (let live = shows.mode in let off = ended.1 in cc)

-- ---- the transaction is committed

-- what was made in it is there from then on
pub stays_created : (old mid new : State) → new.now ≡ mid.now → new.committed ≡ mid.now → CreatesBank old mid (Ok tt)
    → Shows new.now new_tables × Shows new.committed new_tables × KeepsTables old.now new.now
    × IsAlone old.now new.now
stays_created old mid new now committed made = rw (now, committed) (made.0, made.0, made.1, made.2)

-- what is said of a creation, once its transaction has ended
pub record Ended {S : Type 0} (g : Ghosts S) (old new : Held S) (r : Result (Unit {0}) Error) : Type 0 where
  pub ok : HasCleanDisk (state g new) → OnOk r (Shows (state g new).now new_tables
      × Shows (state g new).committed new_tables × KeepsTables (state g old).now (state g new).now
      × IsAlone (state g old).now (state g new).now)
  pub err : HasCleanDisk (state g new) → IsTrue (state g new).is_open
      → OnErr r ((state g new).committed ≡ (state g old).committed)
  pub cause : HasCleanDisk (state g new) → IfErr r (CreationFails (state g old) (state g new))
  pub survives : Survives (state g old) (state g new) (HasNewBank (state g old).now)
  pub mode : new.in_transaction ≡ false

not_made : {S : Type 0} (g : Ghosts S) (old new : Held S) (e : Error)
    → (HasCleanDisk (state g new) → CreationFails (state g old) (state g new) e)
    → Survives (state g old) (state g new) (HasNewBank (state g old).now) → new.in_transaction ≡ false
    → Ended g old new (Err e)
not_made g old new e cause survives ended = record {
  ok = λ clean. tt;
  err = λ clean live. ((cause clean).1.0 live).2;
  cause = cause;
  survives = survives;
  mode = ended;
}

module _ {S : Type 0} (g : Ghosts S) (old new : Held S) (live mid : Transaction S)
    (is : live.conn.now ≡ record old { in_transaction = true }) (ended : new.in_transaction ≡ false) where
  -- a crash at the commit leaves the bank as it was, or the new one; one before leaves it as it was
  left_created : {R : Trees → Type 0} → Survives (state g live.conn.now) (state g mid.conn.now) (λ _. ⊥)
      → Survives (state g mid.conn.now) (state g new) R
      → (HasCleanDisk (state g new) → (db : Trees) → R db → HasNewBank (state g old).now db)
      → Survives (state g old) (state g new) (HasNewBank (state g old).now)
  left_created {R = R} one two leaves =
      let begins = record old { in_transaction = true } in
      survives_begin g old (state g new) (HasNewBank (state g old).now)
      (survives_then (state g begins) (state g mid.conn.now) (state g new) (λ _. ⊥) R (HasNewBank (state g old).now)
      (λ clean db none. absurd none) leaves
      (subst (λ h. Survives (state g h) (state g mid.conn.now) (λ _. ⊥)) is one) two)

  -- it was committed, or the commit failed
  module _ (made : Says g live mid (Inside (λ old new. CreatesBank old new (Ok tt)))
      (Inside (λ old new. WritesKept {X = Unit {0}} {E = Error} old new (Ok tt))))
      (two : Survives (state g mid.conn.now) (state g new) (λ db. db ≡ (state g mid.conn.now).now.trees)) where
    before : HasCleanDisk (state g new) → HasCleanDisk (state g mid.conn.now)
    before clean = let more = two.clean in omega arith

    in_it : live.conn.now.in_transaction ≡ true
    in_it = ap (λ (h : Held S). h.in_transaction) is

    bank : HasCleanDisk (state g new) → CreatesBank (begun (state g old)) (state g mid.conn.now) (Ok tt)
    bank clean = subst (λ h. CreatesBank (state g h) (state g mid.conn.now) (Ok tt)) is
        (made.answers (before clean) in_it)

    survives : Survives (state g old) (state g new) (HasNewBank (state g old).now)
    survives = left_created made.survives two
        (λ clean db trees. rw trees ((state g mid.conn.now).now.schema, (bank clean).0, (bank clean).1))

    pub committed : (r : Result (Unit {0}) Error)
        → (HasCleanDisk (state g new) → OnOk r (IsTrue (state g mid.conn.now).in_transaction
        × StateShows (state g mid.conn.now) (state g new) (state g mid.conn.now).now (state g mid.conn.now).now false
        × KeepsCounts (state g mid.conn.now) (state g new) × ((state g new).marks ≡ [])))
        → (HasCleanDisk (state g new) → IfErr r (FailsToCommit (state g mid.conn.now) (state g new)))
        → Ended g old new r
    committed (Ok done) ok err = record {
      ok = λ clean.
          let it = (ok clean).1 in
          stays_created (state g old) (state g mid.conn.now) (state g new) it.now_is it.committed_is (bank clean);
      err = λ clean live. tt;
      cause = λ clean. tt;
      survives = survives;
      mode = ended;
    }
    committed (Err e) ok err = not_made g old new e
        (λ clean. fails_committed (state g old) (state g mid.conn.now) (state g new) e
        (subst (λ h. StateShows (state g h) (state g mid.conn.now) (state g mid.conn.now).now (state g h).committed true)
        is (made.leaves (before clean) in_it))
        (subst (λ h. (state g h).faults ≤ (state g mid.conn.now).faults) is made.survives.counts) (err clean))
        survives ended

  -- a statement failed, and the transaction was dropped
  pub dropped : {Left : State → State → Type 0} (e : Error) (r : Result (Unit {0}) Error) → IsErrAnd r (λ f. f ≡ e)
      → Says g live mid (Inside (λ old new. CreatesBank old new (Err e))) Left
      → (HasCleanDisk (state g new) → IsRolledBack (state g mid.conn.now) (state g new))
      → Survives (state g mid.conn.now) (state g new) (λ _. ⊥) → Ended g old new r
  dropped e (Ok done) is_e fails back two = absurd is_e
  dropped e (Err f) is_e fails back two =
      rw is_e (not_made g old new e
      (λ clean.
      let before : HasCleanDisk (state g mid.conn.now) = let more = two.clean in omega arith in
      fails_created (state g old) (state g mid.conn.now) (state g new) e
      (subst (λ h. CreatesBank (state g h) (state g mid.conn.now) (Err e)) is
      (fails.answers before (ap (λ (h : Held S). h.in_transaction) is))) two.counts (back clean))
      (left_created fails.survives two (λ clean db none. absurd none)) ended)
