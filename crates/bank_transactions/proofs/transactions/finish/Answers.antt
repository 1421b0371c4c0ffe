-- How a transaction ends.
use Rattle.std.proofs.Common.{refl}
use Rattle.bank_transactions.proofs.Exits.{handed_on}
use Rattle.bank_transactions.proofs.transactions.finish.Goals as goal

pub returns-in_err-answer : goal.returns-in_err-answer
returns-in_err-answer g c =
    let same = handed_on c.from_residual.result c.from_residual.ensures.1 in
    rw (same, c.in_err-answer.was) record {
      mode = c.drop-tx.ensures.ended;
      given = tt;
      answers = λ clean. (refl, c.drop-tx.ensures.undone clean);
      survives = c.drop-tx.ensures.survives;
    }

pub returns : goal.returns
returns g c =
    let done = c.in_ok-commit.ensures in
    rw c.in_ok-answer.was record {
      mode = done.ended;
      given = refl;
      answers = λ clean. (done.same clean, done.opened clean, λ t shows. ((done.ok clean t shows).0, done.alone clean t shows));
      survives = done.survives;
    }
