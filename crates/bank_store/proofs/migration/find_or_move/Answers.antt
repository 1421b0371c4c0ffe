-- What is found is moved, if it has an earlier version.
use Rattle.std.proofs.Common.{◌≡◌, ℕ, ℤ, Err, Result, rules, subst, inl}
use Rattle.std.specs.Prelude.{IfErr}
use mir.Val.{to_z, of_z}
use mir.Syntax.{w64}
use Rattle.sqlite.specs.{State.HasCleanDisk, State.Survives, Held.Held, Held.state}
use Rattle.sqlite_trees.specs.declared.store.Store.{Ghosts}
use Rattle.posting_rules.specs.declared.open_fault.OpenFault.{OpenFault, TheVariants.Version}
use Rattle.bank_store.specs.{FoundBank.SeeksBank, StoreFaults.IsOpenCall, StoreFaults.KnowsCause}
use Rattle.bank_store.specs.Migration.{HasCarriedOver, HasMoved, IsFrom}
use Rattle.bank_store.proofs.Causes.{call_then, only_looked, still_clean}
use Rattle.bank_store.proofs.FoundEarlier.{moved_at, unmoved_at, was_earlier}
use Rattle.bank_store.proofs.migration.find_or_move.Goals as goal

-- a bank is moved after a look at its version
moves_on : {S X Y : Type 0} (g : Ghosts S) (old mid new : Held S) (version : ℤ) (from : ℕ) → IsFrom version from
    → (fault : OpenFault) → fault ≡ Version version
    → (HasCleanDisk (state g mid) → SeeksBank (state g old) (state g mid) (Err fault))
    → Survives (state g old) (state g mid) (λ _. ⊥) → (inner : Result X OpenFault)
    → IsOpenCall g mid new (HasMoved from (state g mid).now) inner → (result : Result Y OpenFault)
    → (IfErr inner (KnowsCause g old new) → IfErr result (KnowsCause g old new))
    → IsOpenCall g old new (HasCarriedOver (state g old)) result
moves_on g old mid new version from is fault tells looked first inner moves result answers =
    call_then g old mid new inner result answers first (HasMoved from (state g mid).now) (HasCarriedOver (state g old))
    (λ clean left moved.
    let found = subst (λ (f : OpenFault). SeeksBank (state g old) (state g mid) (Err f)) tells
    (looked (still_clean moves.survives clean)) in (
      from,
      was_earlier from (state g old) (state g mid) (state g new) version is found,
      subst (λ db. HasMoved from db left) found.1.now_is moved,
    ))
    moves

pub returns-in_err-move_found-in-Some : goal.returns-in_err-move_found-in-Some
returns-in_err-move_found-in-Some g c =
    let s = state g.S.Store in
    let old = c.args.conn.now in
    let mid = c.find_bank.new.conn in
    let new = c.move_found.new.conn in
    let first = c.in-Err-Version in
    let same : to_z w64 (of_z w64 first.version) ≡ first.version = search rules in
    let from : IsFrom first.version c.in-Some.from = rw same at c.in-Some.ensures.some in
    let e = c.in_err-move_found-in-Some in
    let is : c.from_residual.result ≡ Err e.field-0.0 = search rules in
    rw is (record {
      answers = λ clean.
          unmoved_at c.in-Some.from (s old) (s mid) (s new) first.version from
          (subst (λ (f : OpenFault). SeeksBank (s old) (s mid) (Err f)) first.field-0-is
          (first.ensures.answers (still_clean e.ensures.call.survives clean))) e.field-0.0 (e.ensures.answers clean);
      from = tt;
      call =
          moves_on g.S.Store old mid new first.version c.in-Some.from from first.field-0 first.field-0-is
          first.ensures.answers first.ensures.looks.survives (Err e.field-0.0) e.ensures.call (Err e.field-0.0)
          (λ knows. knows);
    })

pub returns-in_ok-move_found-in-Some : goal.returns-in_ok-move_found-in-Some
returns-in_ok-move_found-in-Some g c =
    let s = state g.S.Store in
    let old = c.args.conn.now in
    let mid = c.find_bank.new.conn in
    let new = c.move_found.new.conn in
    let first = c.in-Err-Version in
    let same : to_z w64 (of_z w64 first.version) ≡ first.version = search rules in
    let from : IsFrom first.version c.in-Some.from = rw same at c.in-Some.ensures.some in
    let done = c.in_ok-move_found-in-Some.ensures in
    record {
      answers = λ clean. rw same (moved_at c.in-Some.from (s old) (s mid) (s new) first.version from
          (subst (λ (f : OpenFault). SeeksBank (s old) (s mid) (Err f)) first.field-0-is
          (first.ensures.answers (still_clean done.call.survives clean))) (done.answers clean));
      from = (c.in-Some.from, c.in-Some.ensures.some);
      call =
          moves_on g.S.Store old mid new first.version c.in-Some.from from first.field-0 first.field-0-is
          first.ensures.answers first.ensures.looks.survives c.move_found.result c.move_found.ensures.call _ (λ _. tt);
    }

-- ---- nothing is moved

pub returns-in-Ok : goal.returns-in-Ok
returns-in-Ok g c = record {
  answers = c.in-Ok.ensures.answers;
  from = tt;
  call = only_looked g.S.Store c.args.conn.now c.find_bank.new.conn (HasCarriedOver (state g.S.Store c.args.conn.now))
      c.find_bank.result _ (λ _. tt) c.find_bank.ensures.looks;
}

pub returns-in-None : goal.returns-in-None
returns-in-None g c =
    let s = state g.S.Store in
    let old = c.args.conn.now in
    let new = c.find_bank.new.conn in
    let first = c.in-Err-Version in
    let same : to_z w64 (of_z w64 first.version) ≡ first.version = search rules in
    record {
      answers = λ clean.
          let found = subst (λ (f : OpenFault). SeeksBank (s old) (s new) (Err f)) first.field-0-is
          (first.ensures.answers clean) in
          rw same (inl (found.0, rw same at (c.earlier.ensures.none c.in-None.is)), found.1);
      from = tt;
      call = only_looked g.S.Store old new (HasCarriedOver (s old)) c.find_bank.result _ (λ _. tt)
          c.find_bank.ensures.looks;
    }

pub returns-in-Err-clause-from : goal.returns-in-Err-clause-from
returns-in-Err-clause-from g c = tt

pub returns-in-Err-clause-call : goal.returns-in-Err-clause-call
returns-in-Err-clause-call g c =
    only_looked g.S.Store c.args.conn.now c.find_bank.new.conn (HasCarriedOver (state g.S.Store c.args.conn.now))
    (Err c.in-Err.fault) (Err c.in-Err.fault) (λ knows. knows) c.in-Err.ensures.looks
