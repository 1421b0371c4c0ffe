-- What is asked where nothing is remembered.
use Rattle.bank_transactions.proofs.Remembered.{blank}
use Rattle.bank_transactions.proofs.floors.floor_at.Goals as goal

pub known_floor-requires : goal.known_floor-requires
known_floor-requires g c = blank g.S.Store c.args.tx.now.conn.now c.new.result c.new.ensures
