-- The entries were read, and then the count.
use Rattle.std.proofs.Common.{◌≡◌, ◌∙◌, ℕ, Ok, Err, ap, subst, rules, arith}
use Rattle.std.specs.Prelude.{nat_le}
use Rattle.sqlite.specs.{Held.state, State.HasCleanDisk}
use Rattle.store_rows.specs.believed.Rules.{OfRows}
use Rattle.bank_transactions.specs.believed.Stored.{HoldsDecided}
use Rattle.bank_store.proofs.KeptRead.{decided_once}
use Rattle.bank_store.proofs.ReadThen.{answered_by, failed_by, left_since, quiet_also, reads_failed, reads_then}
use Rattle.bank_store.proofs.ReadThen.{undone_by, undone_since}
use Rattle.bank_store.proofs.entries.read_log.Goals as goal

-- the entries weren't read
pub returns-in_err-read_entries : goal.returns-in_err-read_entries
returns-in_err-read_entries g c =
    let fault = c.in_err-read_entries.field-0.0 in
    let same : c.from_residual.result ≡ Err fault = search rules in
    let old = c.args.conn.now in
    let new = c.read_entries.new.conn in
    let it = c.read_entries.ensures in
    rw same (record {
      says = reads_failed g.S.Store old new fault it.mode it.undone it.survives c.in_err-read_entries.ensures.cause;
      answers = tt;
      stored = tt;
      still = tt;
      left = quiet_also (state g.S.Store old) (state g.S.Store new) _ it.survives;
      undone = λ clean. undone_by (state g.S.Store old) (state g.S.Store new) (it.undone clean);
    })

-- the count wasn't
pub returns-in_err-decided : goal.returns-in_err-decided
returns-in_err-decided g c =
    let fault = c.in_err-decided.field-0.0 in
    let same : c.from_residual-in_err-decided.result ≡ Err fault = search rules in
    let old = c.args.conn.now in
    let mid = c.read_entries.new.conn in
    let new = c.count_decided.new.conn in
    let one = c.in_ok-read_entries.ensures in
    let two = c.in_err-decided.ensures in
    rw same (record {
      says = failed_by g.S.Store old new fault
          (reads_then g.S.Store old mid new c.read_entries.ensures.survives one.same (Err fault) two.says);
      answers = tt;
      stored = tt;
      still = tt;
      left = left_since g.S.Store old mid new c.read_entries.ensures.survives one.same (Err fault) two.says two.left;
      undone = undone_since g.S.Store old mid new c.read_entries.ensures.survives one.same (Err fault) two.says
          two.undone;
    })

pub returns : goal.returns
returns g c =
    let old = c.args.conn.now in
    let mid = c.read_entries.new.conn in
    let new = c.count_decided.new.conn in
    let one = c.in_ok-read_entries.ensures in
    let two = c.in_ok-decided.ensures in
    let n = c.in_ok-decided.decided in
    let clean_mid = λ (clean : HasCleanDisk (state g.S.Store new)).
    let it : HasCleanDisk (state g.S.Store mid) = omega (arith, two.says.survives.clean, clean) in it in
    record {
      says = answered_by g.S.Store old new n (nat_le c.args.after n)
          (λ t is. ap (nat_le c.args.after) is)
          (reads_then g.S.Store old mid new c.read_entries.ensures.survives one.same (Ok n) two.says);
      answers = λ clean all has. one.answers (clean_mid clean) all has;
      stored = λ clean.
          subst (OfRows (λ rows. (decided : ℕ) → HoldsDecided rows decided
          → nat_le c.args.after n ≡ nat_le c.args.after decided)) (one.same (clean_mid clean)).0
          (λ rows has decided holds. ap (nat_le c.args.after)
          (decided_once rows n decided (two.stored clean rows has) holds));
      still = λ clean. two.still clean ∙ (one.same (clean_mid clean)).0;
      left = left_since g.S.Store old mid new c.read_entries.ensures.survives one.same (Ok n) two.says two.left;
      undone = λ clean. tt;
    }
