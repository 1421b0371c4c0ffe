-- What the write leaves.
use Rattle.std.proofs.{Common.w64, lemmas.Int.to_z-of_z}
use Rattle.store_rows.proofs.{LyingRows.version_lies, SparedTexts.version_spared, VersionRow.tells_version}
use Rattle.store_rows.proofs.metas.set_version.Goals as goal

pub returns-clause-sets : goal.returns-clause-sets
returns-clause-sets g c = record {
  answers = λ clean live. tells_version _ _ c.args.version c.write_under.result
      (rw (to_z-of_z w64 c.args.version c.ranges.version) at (c.write_under.ensures.answers clean live));
  leaves = λ clean live. (
    rw (to_z-of_z w64 c.args.version c.ranges.version) at (c.write_under.ensures.leaves clean live),
    version_spared _ _ _ c.write_under.result (c.write_under.ensures.answers clean live),
  );
  same_reference = c.write_under.ensures.same_reference;
  survives = c.write_under.ensures.survives;
}

pub returns-clause-lies : goal.returns-clause-lies
returns-clause-lies g c = version_lies g.S.Store _ _ c.args.version c.write_under.result
    (rw (to_z-of_z w64 c.args.version c.ranges.version) at c.write_under.ensures)
