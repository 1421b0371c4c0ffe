-- Each text defines its table.
use Rattle.store_rows.proofs.CreateTexts.{texts_define}
use Rattle.store_rows.proofs.laws.tables_law.Goals as goal

pub returns : goal.returns
returns c = texts_define
