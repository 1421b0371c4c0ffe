-- What is asked where nothing is remembered.
use Rattle.bank_transactions.proofs.Remembered.{blank}
use Rattle.bank_transactions.proofs.look_ups.branch_at.Goals as goal

pub known_branch-requires : goal.known_branch-requires
known_branch-requires g c = blank g.S.Store c.args.tx.now.conn.now c.new.result c.new.ensures
