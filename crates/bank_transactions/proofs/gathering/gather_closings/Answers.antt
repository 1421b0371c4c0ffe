-- One row after another is told.
use Rattle.std.proofs.Common.{◌++◌, ◌∷◌, ◌∙◌, [], pos, find, refl, arith}
use Rattle.std.specs.Prelude.{⊤}
use Rattle.sql_meanings.specs.Entries.{is_above}
use Rattle.store_rows.specs.believed.Readings.{read_closing}
use Rattle.bank_transactions.proofs.{Broken.closing_broken, Exits.clean_at, Exits.handed_on, LookUps.reads_after}
use Rattle.bank_transactions.proofs.{LookUps.reads_but, ReadsInTurn.find_failed, ReadsInTurn.find_tells}
use Rattle.bank_transactions.proofs.Gathered.{further, last, more}
use Rattle.bank_transactions.proofs.gathering.gather_closings.Goals as goal

pub loop-step-init : goal.loop-step-init
loop-step-init g c = record {
  says = c.in_ok-gather_seal.ensures.says;
  low = omega arith;
  core = c.gather_seal.ensures.core;
  told = c.in_ok-gather_seal.ensures.told;
  far = λ clean file rows holds. omega arith;
}

pub next_closing-requires : goal.next_closing-requires
next_closing-requires g c = c.loop-step.invariant.low

pub returns-in_err-row-clause-says : goal.returns-in_err-row-clause-says
returns-in_err-row-clause-says g c =
    rw (handed_on c.from_residual-in_err-row.result c.from_residual-in_err-row.ensures.1)
    (reads_but {Y = Unit {0}} {So' = λ _. ⊤} {w' = λ _. tt {0}} c.loop-step.invariant.says
    (find_failed (λ rows. find (is_above (pos c.loop-step.after)) rows.closings) read_closing
    (closing_broken _ (is_above (pos c.loop-step.after)) _) c.in_err-row.ensures.looks_up))

pub returns-in_err-row-clause-core : goal.returns-in_err-row-clause-core
returns-in_err-row-clause-core g c = c.loop-step.invariant.core

pub returns-in_default-clause-says : goal.returns-in_default-clause-says
returns-in_default-clause-says g c = reads_after c.loop-step.invariant.says
    (find_tells (λ rows. find (is_above (pos c.loop-step.after)) rows.closings) read_closing c.in_ok-row.field-0
    c.in_ok-row.ensures.looks_up (λ t so finds. refl)) (λ t so. so)

pub returns-in_default-clause-core : goal.returns-in_default-clause-core
returns-in_default-clause-core g c = c.loop-step.invariant.core

pub returns-in_default-clause-told : goal.returns-in_default-clause-told
returns-in_default-clause-told g c =
    let it = c.loop-step.invariant.told in (
      it.0,
      it.1,
      last c.next_closing.new.tx c.loop-step.after it.0 c.loop-step.invariant.says
          (clean_at c.in_ok-row.ensures.looks_up.survives) it.2 c.in_ok-row.field-0 c.in_ok-row.ensures.lies c.in_default.is,
    )

pub loop-step-preserved : goal.loop-step-preserved
loop-step-preserved g c =
    let inv = c.loop-step.invariant in
    let it = inv.told in
    let row = c.in-Some.row in
    let found = c.in_ok-row.ensures in
    record {
      says = reads_after inv.says
          (find_tells (λ rows. find (is_above (pos c.loop-step.after)) rows.closings) read_closing c.in_ok-row.field-0
          found.looks_up (λ t so finds. refl)) (λ t so. so);
      low = (rw c.in-Some.is at found.within);
      core = c.add.ensures.core ∙ inv.core;
      told = (
        it.0 ++ row ∷ [],
        c.add.ensures.told it.0 it.1,
        more c.next_closing.new.tx c.loop-step.after it.0 inv.says
            (clean_at found.looks_up.survives) it.2 c.in_ok-row.field-0 found.lies row c.in-Some.is,
      );
      far = further c.next_closing.new.tx c.loop-step.after it.0 inv.says (clean_at found.looks_up.survives) it.2 c.in_ok-row.field-0 found.lies
          row c.loop-step._step c.in-Some.is inv.far;
    }

pub returns-clause-says : goal.returns-clause-says
returns-clause-says g c = c.loop-step.invariant.says

pub returns-clause-core : goal.returns-clause-core
returns-clause-core g c = c.loop-step.invariant.core

pub returns-clause-told : goal.returns-clause-told
returns-clause-told g c =
    let it = c.loop-step.invariant.told in (
      it.0,
      it.1,
      λ clean file rows holds.
          let far = c.loop-step.invariant.far clean file rows holds in
          let low = c.loop-step.invariant.low in
          absurd (omega (arith, far, low, c.loop-step-test.false)),
    )
