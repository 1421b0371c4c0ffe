-- What a creation leaves, and why there is no new bank.
use Rattle.std.proofs.Common.{◌≡◌, rules, subst}
use Rattle.store_rows.proofs.CreationEnds.{Ended, committed, dropped}
use Rattle.store_rows.proofs.creation.create.Goals as goal

pub returns : goal.returns
returns g c =
    let same : c.commit.new.self.0 ≡ c.conn-2-1.given.0 = search rules in
    let ensures = c.commit.ensures in
    let it = subst (λ h. Ended g.S.Store c.args.conn.now h c.commit.result) same
    (committed g.S.Store c.args.conn.now c.commit.new.self.0 c.transaction-tx.result c.create_tables.new.tx
    c.transaction-tx.ensures.begun ensures.ended c.in_ok-create_tables.ensures ensures.survives c.commit.result ensures.ok
    ensures.err) in
    record { ok = it.ok; err = it.err; cause = it.cause; survives = it.survives; mode = it.mode }

pub returns-in_err-create_tables : goal.returns-in_err-create_tables
returns-in_err-create_tables g c =
    let same : c.drop-tx.new.self.0 ≡ c.conn-1.given.0 = search rules in
    let ensures = c.drop-tx.ensures in
    let it = subst (λ h. Ended g.S.Store c.args.conn.now h c.from_residual.result) same
    (dropped g.S.Store c.args.conn.now c.drop-tx.new.self.0 c.transaction-tx.result c.create_tables.new.tx
    c.transaction-tx.ensures.begun ensures.ended c.in_err-create_tables.field-0.0 _ c.from_residual.ensures.1
    c.in_err-create_tables.ensures ensures.undone ensures.survives) in
    record { ok = it.ok; err = it.err; cause = it.cause; survives = it.survives; mode = it.mode }
