-- The requests were digested, then the plan, and then the closed numbers, of one file.
use Rattle.std.proofs.Common.{rules, ◌≡◌, Err, refl, subst}
use Rattle.bank_replays.specs.ClosingDigests.{IsClosingDigestIn}
use Rattle.bank_replays.specs.PlanDigests.{IsPlanDigestIn}
use Rattle.bank_replays.proofs.Read.{clean_before, read_any, read_fails, read_then}
use Rattle.bank_replays.proofs.Whys.{why_err, why_none, why_then}
use Rattle.bank_replays.proofs.replays.digest_each.Goals as goal

pub returns-in_err-digest : goal.returns-in_err-digest
returns-in_err-digest g c =
    let fault = c.in_err-digest.field-0.0 in
    let same : c.from_residual.result ≡ Err fault = search rules in
    record {
      bank = rw same (read_fails fault c.in_err-digest.ensures.bank);
      rows = λ clean. rw same tt;
      why = rw same (why_err fault fault refl c.in_err-digest.ensures.why);
    }

pub returns-in_err-plan : goal.returns-in_err-plan
returns-in_err-plan g c =
    let fault = c.in_err-plan.field-0.0 in
    let same : c.from_residual-in_err-plan.result ≡ Err fault = search rules in
    let one = c.in_ok-digest.ensures in
    let two = c.in_err-plan.ensures in
    record {
      bank = rw same (read_fails fault (read_then one.bank two.bank));
      rows = λ clean. rw same tt;
      why = rw same (why_err fault fault refl (why_then one.bank two.bank two.why));
    }

pub returns-in_err-closings : goal.returns-in_err-closings
returns-in_err-closings g c =
    let fault = c.in_err-closings.field-0.0 in
    let same : c.from_residual-in_err-closings.result ≡ Err fault = search rules in
    let one = c.in_ok-digest.ensures in
    let two = c.in_ok-plan.ensures in
    let three = c.in_err-closings.ensures in
    let both = read_then one.bank two.bank in
    record {
      bank = rw same (read_fails fault (read_then both three.bank));
      rows = λ clean. rw same tt;
      why = rw same (why_err fault fault refl (why_then both three.bank three.why));
    }

pub returns : goal.returns
returns g c =
    let one = c.in_ok-digest.ensures in
    let two = c.in_ok-plan.ensures in
    let three = c.in_ok-closings.ensures in
    let both = read_then one.bank two.bank in
    record {
      bank = read_any (read_then both three.bank) _;
      rows = λ clean.
          let then = clean_before three.bank clean in
          let before = clean_before two.bank then in
          record {
            requests = one.rows before;
            plan = subst (λ db. IsPlanDigestIn db c.in_ok-plan.plan) (one.bank.still before).0 (two.rows then);
            closings = subst (λ db. IsClosingDigestIn db c.in_ok-closings.closings) (both.still then).0 (three.rows clean);
          };
      why = why_none _;
    }
