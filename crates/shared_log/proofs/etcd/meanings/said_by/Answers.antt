-- The value that the text is.
use Rattle.std.proofs.Common.{rules}
use Rattle.shared_log.proofs.etcd.meanings.said_by.Goals as goal

pub returns-in-Ok : goal.returns-in-Ok
returns-in-Ok c = (c.in-Some.text.now, search rules, search rules)
