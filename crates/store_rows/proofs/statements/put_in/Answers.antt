-- What the answer of an INSERT means.
use Rattle.store_rows.proofs.Failing.{puts_added}
use Rattle.store_rows.proofs.statements.put_in.Goals as goal

pub returns : goal.returns
returns g c = record {
  answers = λ clean live. (c.execute-answer.result, c.execute-answer.ensures.runs clean live, c.added.ensures);
  leaves = λ clean live key rest is among. rw c.added.ensures (puts_added _ _ _ _ c.execute-answer.result
      (c.execute-answer.ensures.runs clean live) key rest is among);
  same_reference = c.execute-answer.ensures.same_reference;
  survives = c.execute-answer.ensures.survives;
}
