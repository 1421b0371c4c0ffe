use Rattle.posting_core.proofs.Telling.{flush_done, flush_failed}
use Rattle.posting_core.proofs.transfer.write_out.Goals as goal

pub returns-in-Err-clause-failed : goal.returns-in-Err-clause-failed
returns-in-Err-clause-failed g c =
    flush_failed c.send_on.result c.in-Err.field-0 c.in_ok-write_each.ensures.more c.send_on.ensures.tells
    c.in-Err.is

pub returns-in-Ok-clause-flushed : goal.returns-in-Ok-clause-flushed
returns-in-Ok-clause-flushed g c =
    flush_done c.send_on.result c.in-Ok.field-0 c.in_ok-write_each.ensures.more c.send_on.ensures.tells
    c.in-Ok.is
