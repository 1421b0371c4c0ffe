-- What the type of a bank says of its file.
use Rattle.bank_store.proofs.FileTables.{has_tables}
use Rattle.bank_store.proofs.bank.Bank.tables_law.Goals as goal

pub returns : goal.returns
returns g c = has_tables g.S.Store c.args.self.now.conn c.args.self.now.tables
