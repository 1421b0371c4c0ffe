use Rattle.std.proofs.{Common.inr, Common.arith, KnownBytes.Keeps-trans}
use Rattle.posting_core.specs.EndCalls.{IsInterrupted}
use Rattle.posting_core.proofs.Telling.{only_made, only_many, other_kind, same_kind, write_again, write_done}
use Rattle.posting_core.proofs.Telling.{write_empty, write_failed}
use Rattle.posting_core.proofs.transfer.write_some.Goals as goal

pub returns-in-Ok-eq0-clause-failed : goal.returns-in-Ok-eq0-clause-failed
returns-in-Ok-eq0-clause-failed g c =
    write_empty _ c.take.result c.in-Ok-eq0.field-0 (only_made c.writes.invariant.only) c.take.ensures.tells
    c.in-Ok-eq0.is c.in-Ok-eq0.field-0-test c.requires

pub returns-in-Ok-clause-more : goal.returns-in-Ok-clause-more
returns-in-Ok-clause-more g c =
    write_done _ c.take.result (only_made c.writes.invariant.only) c.take.ensures.tells

pub returns-in-Err-2-clause-failed : goal.returns-in-Err-2-clause-failed
returns-in-Err-2-clause-failed g c =
    write_failed _ c.take.result c.in-Err.e (only_made c.writes.invariant.only) c.take.ensures.tells
    c.in-Err.is (other_kind c.kind.result c.in-Err.e c.if-eq.ensures c.kind.ensures)

pub writes-preserved : goal.writes-preserved
writes-preserved g c = record {
  stays = Keeps-trans _ _ _ c.writes.invariant.stays c.in-Err.ensures.bytes;
  only = write_again _ c.take.result c.in-Err.e c.writes.invariant.only c.take.ensures.tells c.in-Err.is
      (same_kind c.kind.result c.in-Err.e c.if-eq.ensures c.kind.ensures);
}

-- it was interrupted too often
pub returns-clause-failed : goal.returns-clause-failed
returns-clause-failed g c = inr (only_many IsInterrupted c.writes.invariant.only (omega arith))
