-- What the flush returned is what it is told with.
use Rattle.std.proofs.Common.{inr}
use Rattle.posting_core.proofs.Telling.{flush_done, flush_failed, more_none}
use Rattle.command_line.proofs.lines.finish.Goals as goal

pub returns-in-Ok-clause-flushed : goal.returns-in-Ok-clause-flushed
returns-in-Ok-clause-flushed g c =
    flush_done c.send_on.result c.in-Ok.field-0 (more_none _) c.send_on.ensures.tells c.in-Ok.is

pub returns-in-Err-clause-failed : goal.returns-in-Err-clause-failed
returns-in-Err-clause-failed g c =
    inr (flush_failed c.send_on.result c.in-Err.field-0 (more_none _) c.send_on.ensures.tells c.in-Err.is)
