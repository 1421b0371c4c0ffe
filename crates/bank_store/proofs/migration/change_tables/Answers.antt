-- One statement after the other, and how each may fail.
use Rattle.std.proofs.Common.{◌∙◌}
use Rattle.sqlite.specs.Held.{state}
use Rattle.sql_meanings.proofs.Saying.{survives_both}
use Rattle.bank_transactions.proofs.Blamed.{comes, failed_here, same_moment}
use Rattle.posting_rules.specs.declared.open_fault.OpenFault.TheVariants.{Store}
use Rattle.bank_store.proofs.Causes.{known_within, still_clean}
use Rattle.bank_store.proofs.Moved.{commits_nothing, goes_on, moved, not_there, refused_unmoved, unmoved_known}
use Rattle.bank_store.proofs.migration.change_tables.Goals as goal

pub returns-in-Err-clause-says : goal.returns-in-Err-clause-says
returns-in-Err-clause-says g c =
    let here = c.in-Err.ensures.says in
    record {
      same_reference = here.same_reference;
      answers = λ clean live. rw c.unmoved.ensures (refused_unmoved c.args.from _ _ c.in-Err.e (here.answers clean live));
      leaves = λ clean live. here.leaves clean live;
      survives = here.survives;
    }

pub returns-in-Err-clause-cause : goal.returns-in-Err-clause-cause
returns-in-Err-clause-cause g c live =
    let here = c.in-Err.ensures in
    rw c.unmoved.ensures (unmoved_known g.S.Store c.args.tx.now.conn.now c.make_lacking.new.tx.conn.now c.in-Err.e
    (λ clean. here.failed clean live))

pub returns-in-Ok-true-clause-says : goal.returns-in-Ok-true-clause-says
returns-in-Ok-true-clause-says g c =
    let s = state g.S.Store in
    let old = c.args.tx.now.conn.now in
    let mid = c.make_lacking.new.tx.conn.now in
    let new = c.set_version.new.tx.conn.now in
    let one = c.in-Ok.ensures.says in
    let two = c.in-Ok-true.ensures.sets in
    record {
      same_reference = two.same_reference ∙ one.same_reference;
      answers = λ clean live.
          let before = still_clean two.survives clean in
          let shows = one.leaves before live in
          let set = two.answers clean shows.mode in
          let lies = rw c.in-Ok-true.field-0-test at c.in-Ok-true.ensures.lies in
          moved c.args.from c.requires (s old) (s mid) (s new) (one.answers before live).0 (rw c.in-Ok-true.field-0-test at set)
          (two.leaves clean shows.mode).1 (λ file. (lies clean shows.mode file).1);
      leaves = λ clean live.
          let shows = one.leaves (still_clean two.survives clean) live in
          goes_on (s old) (s mid) (s new) shows (two.leaves clean shows.mode).0.0;
      survives = survives_both _ _ _ one.survives two.survives;
    }

pub returns-in-Ok-false-clause-says : goal.returns-in-Ok-false-clause-says
returns-in-Ok-false-clause-says g c =
    let s = state g.S.Store in
    let old = c.args.tx.now.conn.now in
    let mid = c.make_lacking.new.tx.conn.now in
    let new = c.set_version.new.tx.conn.now in
    let one = c.in-Ok.ensures.says in
    let two = c.in-Ok-false.ensures.sets in
    record {
      same_reference = two.same_reference ∙ one.same_reference;
      answers = λ clean live.
          let before = still_clean two.survives clean in
          let shows = one.leaves before live in
          let set = two.answers clean shows.mode in
          not_there c.args.from c.requires (s old) (s mid) (s new) (one.answers before live).0 (rw c.in-Ok-false.field-0-test at set);
      leaves = λ clean live.
          let shows = one.leaves (still_clean two.survives clean) live in
          commits_nothing (s old) (s new)
          (goes_on (s old) (s mid) (s new) shows (two.leaves clean shows.mode).0.0);
      survives = survives_both _ _ _ one.survives two.survives;
    }

pub returns-in-Err-set_version-clause-cause : goal.returns-in-Err-set_version-clause-cause
returns-in-Err-set_version-clause-cause g c live =
    let old = c.args.tx.now.conn.now in
    let mid = c.make_lacking.new.tx.conn.now in
    let new = c.set_version.new.tx.conn.now in
    let one = c.in-Ok.ensures.says in
    let two = c.in-Err-set_version.ensures.sets in
    let e = c.in-Err-set_version.field-0 in
    known_within g.S.Store old mid new new (comes one.survives) (λ clean. clean) (same_moment (state g.S.Store new))
    Store
    (λ clean. (
      e,
      failed_here g.S.Store mid new e
          (two.leaves clean (one.leaves (still_clean two.survives clean) live).mode).0.1,
    ))
