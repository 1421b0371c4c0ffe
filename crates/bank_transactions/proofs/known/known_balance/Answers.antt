-- What is remembered is what a look-up would find.
use Rattle.std.proofs.Common.{Err, Ok, subst}
use Rattle.std.specs.Prelude.{IfSome}
use Rattle.store_rows.specs.Holders.{entry_under, holder_of, holder_table}
use Rattle.store_rows.specs.Lying.{BalanceLies, holder_key}
use Rattle.store_rows.specs.believed.Readings.{read_balance}
use Rattle.store_rows.proofs.LyingFound.{finds_balance}
use Rattle.bank_transactions.proofs.{ReadsInTurn.recalls, Remembered.looks_known, Remembered.noted_look}
use Rattle.bank_transactions.proofs.Fitting.{leaves_same}
use Rattle.bank_transactions.proofs.Exits.{handed_on, survives_itself}
use Rattle.bank_transactions.proofs.known.known_balance.Goals as goal

pub returns-in-Some-clause-recalls : goal.returns-in-Some-clause-recalls
returns-in-Some-clause-recalls g c =
    looks_known c.args.memory.now (entry_under c.args.member.now) read_balance c.in-Some.balance (λ db found. BalanceLies c.args.member.now db found)
    (survives_itself _)
    (λ db fits. subst (λ o. IfSome o (BalanceLies c.args.member.now db)) c.in-Some.is (c.balance.ensures.lies db fits))
    (λ db rows has lies. finds_balance db rows has c.args.member.now c.in-Some.balance lies) c.requires

pub returns-clause-recalls : goal.returns-clause-recalls
returns-clause-recalls g c =
    recalls g.S.Store c.args.tx.now c.balance_of.new.tx (entry_under c.args.member.now) read_balance (Ok c.in_ok-balance.balance) c.in_ok-balance.ensures.looks_up

pub returns-clause-remembers : goal.returns-clause-remembers
returns-clause-remembers g c =
    noted_look c.in_ok-balance.balance c.args.memory.now c.note_balance.new.self (λ db found. BalanceLies c.args.member.now db found) c.in_ok-balance.ensures.looks_up c.in_ok-balance.ensures.lies
    (λ db file. c.note_balance.ensures.fits db db (leaves_same (holder_table (holder_of c.args.member.now)) (holder_key (holder_of c.args.member.now)) db file)) c.requires

pub returns-in_err-balance-clause-recalls : goal.returns-in_err-balance-clause-recalls
returns-in_err-balance-clause-recalls g c =
    rw (handed_on c.from_residual.result c.from_residual.ensures.1) (recalls g.S.Store c.args.tx.now c.balance_of.new.tx
    (entry_under c.args.member.now) read_balance (Err c.in_err-balance.field-0.0) c.in_err-balance.ensures.looks_up)

pub returns-in_err-balance-clause-noted : goal.returns-in_err-balance-clause-noted
returns-in_err-balance-clause-noted g c = rw (handed_on c.from_residual.result c.from_residual.ensures.1) tt

pub returns-in_err-balance-clause-remembers : goal.returns-in_err-balance-clause-remembers
returns-in_err-balance-clause-remembers g c = rw (handed_on c.from_residual.result c.from_residual.ensures.1) tt

pub returns-in-Some-clause-remembers : goal.returns-in-Some-clause-remembers
returns-in-Some-clause-remembers g c = c.requires
