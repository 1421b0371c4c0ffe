-- What is remembered is what a look-up would find.
use Rattle.store_rows.specs.believed.BankTables as bank
use Rattle.store_rows.specs.Lying.{CountLies}
use Rattle.store_rows.specs.believed.Inserts.{meta_key}
use Rattle.bank_transactions.proofs.{Fitting.leaves_same, Remembered.known_stored, Remembered.noted, Remembered.reads_known}
use Rattle.bank_transactions.proofs.LookUps.{reads_wider, strays_fail}
use Rattle.bank_transactions.proofs.Exits.{clean_at, handed_on, survives_itself}
use Rattle.bank_transactions.proofs.known.known_decided.Goals as goal

pub returns-in-Some-clause-says : goal.returns-in-Some-clause-says
returns-in-Some-clause-says g c =
    reads_wider (reads_known c.args.memory.now c.in-Some.decided (survives_itself _) c.in-Some.is c.requires)

pub returns-in-Some-clause-stored : goal.returns-in-Some-clause-stored
returns-in-Some-clause-stored g c =
    known_stored g.S.Store c.args.tx.now.conn.now c.args.memory.now c.in-Some.decided c.in-Some.is c.requires

pub returns-clause-remembers : goal.returns-clause-remembers
returns-clause-remembers g c =
    let it = c.in_ok-decided.ensures in
    noted g.S.Store c.args.tx.now.conn.now c.last_decided.new.tx.conn.now c.args.memory.now c.note.new.self c.in_ok-decided.decided CountLies
    (clean_at it.says.says.survives) (λ clean. (it.says.says.leaves clean).0.now) it.lies
    (λ db file lies. c.note.ensures.fits db db (leaves_same bank.meta meta_key db file) lies) c.requires

pub returns-in_err-decided-clause-says : goal.returns-in_err-decided-clause-says
returns-in_err-decided-clause-says g c =
    rw (handed_on c.from_residual.result c.from_residual.ensures.1) (strays_fail c.in_err-decided.ensures.says)

pub returns-in_err-decided-clause-within : goal.returns-in_err-decided-clause-within
returns-in_err-decided-clause-within g c = rw (handed_on c.from_residual.result c.from_residual.ensures.1) tt

pub returns-in_err-decided-clause-stored : goal.returns-in_err-decided-clause-stored
returns-in_err-decided-clause-stored g c = rw (handed_on c.from_residual.result c.from_residual.ensures.1) tt

pub returns-in_err-decided-clause-noted : goal.returns-in_err-decided-clause-noted
returns-in_err-decided-clause-noted g c = rw (handed_on c.from_residual.result c.from_residual.ensures.1) tt

pub returns-in_err-decided-clause-remembers : goal.returns-in_err-decided-clause-remembers
returns-in_err-decided-clause-remembers g c = rw (handed_on c.from_residual.result c.from_residual.ensures.1) tt

pub returns-in-Some-clause-remembers : goal.returns-in-Some-clause-remembers
returns-in-Some-clause-remembers g c = c.requires

pub returns-in-Some-clause-noted : goal.returns-in-Some-clause-noted
returns-in-Some-clause-noted g c = c.in-Some.is

pub returns-clause-says : goal.returns-clause-says
returns-clause-says g c = c.in_ok-decided.ensures.says

pub returns-clause-stored : goal.returns-clause-stored
returns-clause-stored g c clean rows has = (c.in_ok-decided.ensures.stored clean rows has).0

pub returns-clause-within : goal.returns-clause-within
returns-clause-within g c = c.in_ok-decided.ensures.within
