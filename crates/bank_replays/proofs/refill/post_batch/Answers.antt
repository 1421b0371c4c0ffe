-- What was posted are commands more.
use Rattle.std.proofs.Common.{refl}
use Rattle.bank_replays.proofs.refill.post_batch.Goals as goal

pub returns-clause-posts : goal.returns-clause-posts
returns-clause-posts g c sure log shows =
    c.in-Ok.ensures.call.done.shows (sure.clean c.submit_all.new.self.conn) log shows

pub returns-clause-memory : goal.returns-clause-memory
returns-clause-memory g c = tt

pub returns-then-is_empty-clause-memory : goal.returns-then-is_empty-clause-memory
returns-then-is_empty-clause-memory g c = tt

pub returns-in_default : goal.returns-in_default
returns-in_default g c = record { posts = λ sure log shows. tt; memory = refl }
