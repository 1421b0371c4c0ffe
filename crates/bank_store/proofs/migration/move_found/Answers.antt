-- What is found is moved, where the row of the bank is the only row of `meta`.
use Rattle.std.proofs.Common.{◌≡◌, pos, Err, arith, refl, rules, subst, to_z, w64}
use Rattle.sqlite.specs.{Effect.Database, Held.state}
use Rattle.store_rows.proofs.Lookups.{as_integer}
use Rattle.bank_store.specs.Migration.{HasMoved}
use Rattle.bank_store.proofs.{Causes.call_then, Causes.still_clean, Probed.as_before}
use Rattle.bank_store.proofs.FoundEarlier.{found_moves, not_only, with_only}
use Rattle.bank_store.proofs.migration.move_found.Goals as goal

pub returns-in_err-check_only : goal.returns-in_err-check_only
returns-in_err-check_only g c =
    let s = state g.S.Store in
    let old = c.args.conn.now in
    let mid = c.find_earlier.new.conn in
    let new = c.check_only.new.conn in
    let e = c.in_err-check_only in
    let is : c.from_residual-in_err-check_only.result ≡ Err e.field-0.0 = search rules in
    let version : to_z w64 c.args.from ≡ pos c.args.from =
    as_integer c.args.from c.args.from refl (omega (arith, c.requires.earlier.1)) in
    rw is (record {
      answers = λ clean.
          let found = c.in_ok-find_earlier.ensures.answers (still_clean e.ensures.looks.survives clean) in
          not_only c.args.from (s old) (s mid) (s new) found.0 found.1 e.field-0.0
          (rw version at (e.ensures.answers clean));
      call =
          call_then g.S.Store old mid new (Err e.field-0.0) (Err e.field-0.0) (λ knows. knows)
          c.find_earlier.ensures.looks.survives (λ _. ⊥) (HasMoved c.args.from (s old).now)
          (λ clean left none. absurd none) e.ensures.looks;
    })

pub returns-clause-answers : goal.returns-clause-answers
returns-clause-answers g c clean =
    let s = state g.S.Store in
    let old = s c.args.conn.now in
    let mid = s c.find_earlier.new.conn in
    let at = s c.check_only.new.conn in
    let new = s c.move_settled.new.conn in
    let here = c.move_settled.ensures in
    let checked_clean = still_clean here.moves.call.survives clean in
    let found = c.in_ok-find_earlier.ensures.answers
    (still_clean c.check_only.ensures.looks.survives checked_clean) in
    let version : to_z w64 c.args.from ≡ pos c.args.from =
    as_integer c.args.from c.args.from refl (omega (arith, c.requires.earlier.1)) in
    let one = rw version at (c.in_ok-check_only.ensures.answers checked_clean) in
    found_moves c.args.from old at new (with_only c.args.from old mid found.0 found.1 one.0)
    (as_before old mid at found.1 one.1) c.move_settled.result (here.moves.moved clean) (here.moves.why clean)
    (here.same clean)

pub returns-clause-call : goal.returns-clause-call
returns-clause-call g c =
    let s = state g.S.Store in
    let old = c.args.conn.now in
    let mid = c.find_earlier.new.conn in
    let at = c.check_only.new.conn in
    let new = c.move_settled.new.conn in
    let result = c.move_settled.result in
    let moves = c.move_settled.ensures.moves in
    let checks = c.check_only.ensures.looks in
    call_then g.S.Store old mid new result result (λ knows. knows) c.find_earlier.ensures.looks.survives
    (HasMoved c.args.from (s mid).now) (HasMoved c.args.from (s old).now)
    (λ clean left moved.
    let before = still_clean checks.survives (still_clean moves.call.survives clean) in
    let found = c.in_ok-find_earlier.ensures.answers before in
    subst (λ (db : Database). HasMoved c.args.from db left) found.1.now_is moved)
    (call_then g.S.Store mid at new result result (λ knows. knows) checks.survives
    (HasMoved c.args.from (s at).now) (HasMoved c.args.from (s mid).now)
    (λ clean left moved.
    let one = c.in_ok-check_only.ensures.answers (still_clean moves.call.survives clean) in
    subst (λ (db : Database). HasMoved c.args.from db left) one.1.now_is moved)
    moves.call)
