-- What is noted lies there.
use Rattle.store_rows.specs.believed.BankTables as bank
use Rattle.store_rows.proofs.Lying.{kept}
use Rattle.std.proofs.Common.{refl}
use Rattle.store_rows.specs.Lying.{OfClosings}
use Rattle.bank_transactions.specs.Gathering.{ReadsAs}
use Rattle.bank_transactions.proofs.{Exits.clean_at, Remembered.noted}
use Rattle.bank_transactions.proofs.closed.remember_closed.Goals as goal

pub returns-clause-remembers : goal.returns-clause-remembers
returns-clause-remembers g c =
    let says = c.in_ok-gather_closings.ensures.says.says in
    let it = c.in_ok-gather_closings.ensures.told in
    noted g.S.Store c.args.tx.now.conn.now c.gather_closings.new.tx.conn.now c.args.memory.now c.note_read.new.memory it.0
    (λ db runs. OfClosings (λ rows. ReadsAs rows runs) db) (clean_at says.survives) (λ clean. (says.leaves clean).0.now)
    it.2 (λ db file lies fits. c.note_read.ensures db it.0 it.1 (λ rows tree.
    lies rows (record { defined = (kept db file 8 bank.closing refl).defined; rows = tree })) fits) c.requires
