-- What the write leaves.
use Rattle.std.proofs.Common.{refl, arith}
use Rattle.store_rows.proofs.{Counted.count_set, Lookups.as_integer, LyingRows.decided_set, MetaRow.tells_decided}
use Rattle.store_rows.proofs.{SparedTexts.spared_met, SparedTexts.spares}
use Rattle.store_rows.proofs.metas.set_decided.Goals as goal

pub returns-clause-sets : goal.returns-clause-sets
returns-clause-sets g c = record {
  answers = λ clean live t shows. tells_decided _ _ t shows c.args.decided c.write_under.result
      (rw (as_integer c.args.decided c.args.decided refl (omega arith)) at
      (c.write_under.ensures.answers clean live));
  leaves = λ clean live.
      let both = spared_met _ spares.set_meta _ _ _ c.write_under.result
      (rw (as_integer c.args.decided c.args.decided refl (omega arith)) at
      (c.write_under.ensures.answers clean live)) in (
        rw (as_integer c.args.decided c.args.decided refl (omega arith)) at
            (c.write_under.ensures.leaves clean live),
        both.0,
        both.1,
      );
  same_reference = c.write_under.ensures.same_reference;
  survives = c.write_under.ensures.survives;
}

pub returns-clause-lies : goal.returns-clause-lies
returns-clause-lies g c = decided_set g.S.Store _ _ c.args.decided c.write_under.result
    (rw (as_integer c.args.decided c.args.decided refl (omega arith)) at c.write_under.ensures)

pub returns-clause-counts : goal.returns-clause-counts
returns-clause-counts g c = count_set g.S.Store _ _ c.args.decided c.write_under.result
    (rw (as_integer c.args.decided c.args.decided refl (omega arith)) at c.write_under.ensures)
